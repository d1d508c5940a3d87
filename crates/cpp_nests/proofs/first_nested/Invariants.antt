use Rattle.std.proofs.Common.{◌≡◌}
use Rattle.cpp_lex.specs.Tokens.{lexemes_of}
use Rattle.cpp_nests.specs.Nests.{open_behind, NoneBefore}
use Rattle.cpp_nests.proofs.first_nested.Given as goal

abbrev pub invariant-tokens : goal.invariant-tokens
invariant-tokens l = (l.open ≡ open_behind (lexemes_of l.tokens) l.at) × NoneBefore l.limit (lexemes_of l.tokens) l.at
