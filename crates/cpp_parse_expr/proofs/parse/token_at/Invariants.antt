use Rattle.std.proofs.Common.{◌≡◌, ◌<◌, ℕ}
use Rattle.cpp_syntax.specs.Source.{position_at}
use Rattle.cpp_parse_expr.proofs.parse.token_at.Given as goal

abbrev pub invariant-tokens : goal.invariant-tokens
invariant-tokens l = (j : ℕ) → j < l.k → position_at l.types j ≡ l.position → ⊥
