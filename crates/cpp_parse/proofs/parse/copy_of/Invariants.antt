use Rattle.std.proofs.Common.{◌≡◌, map, take}
use Rattle.cpp_lex.specs.Tokens.{lexeme_of}
use Rattle.cpp_parse.proofs.parse.copy_of.Given as goal

abbrev pub invariant-tokens : goal.invariant-tokens
invariant-tokens l = map lexeme_of l.items.items ≡ map lexeme_of (take l.token-index l.tokens.items.items)
