use Rattle.std.proofs.Common.{◌≡◌, map, take}
use Rattle.cpp_lex.specs.Tokens.{Lexeme, lexeme_of}
use Rattle.cpp_syntax.proofs.outline.begins.Given as goal

abbrev pub invariant-loop-token : goal.invariant-loop-token
invariant-loop-token l = l.begins.items ≡ map (λ (t : Lexeme). t.from) (map lexeme_of (take l.token-index l.tokens))
