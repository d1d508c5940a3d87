use Rattle.std.proofs.Common.{◌≡◌, drop}
use Rattle.std.specs.List.{list_any}
use Rattle.elab_init.specs.cpp_lex.Tokens.{lexemes_of}
use Rattle.lambda_captures.specs.Steps.{spells}
use Rattle.lambda_captures.proofs.scanning.is_spelled.Given as goal

abbrev pub invariant-loop-token : goal.invariant-loop-token
invariant-loop-token l = list_any (spells (lexemes_of l.tokens) l.name) l.own ≡ list_any (spells (lexemes_of l.tokens) l.name) (drop l.token-index l.own)
