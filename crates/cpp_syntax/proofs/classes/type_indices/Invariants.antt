use Rattle.std.proofs.Common.{◌≡◌, ℕ, List, map}
use Rattle.std.specs.HashMap.{get_by}
use Rattle.std.specs.Str.{bytes_eq}
use Rattle.cpp_lex.specs.Tokens.{lexeme_of}
use Rattle.cpp_syntax.specs.Classes.{type_index}
use Rattle.cpp_syntax.proofs.classes.type_indices.Given as goal

abbrev pub invariant-loop-at : goal.invariant-loop-at
invariant-loop-at l = (word : List ℕ) → get_by (λ key. bytes_eq word key.now) l.indices ≡ type_index (map lexeme_of l.tokens) word l.at
