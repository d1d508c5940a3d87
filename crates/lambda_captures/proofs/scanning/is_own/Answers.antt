use Rattle.std.proofs.Common.{ap, ◌∙◌}
use Rattle.std.specs.List.{list_any}
use Rattle.elab_init.specs.cpp_lex.Tokens.{lexemes_of}
use Rattle.lambda_captures.specs.Steps.{spells}
use Rattle.lambda_captures.proofs.Scans.{own_is}
use Rattle.lambda_captures.proofs.scanning.is_own.Goals as goal

pub returns : goal.returns
returns c = c.is_spelled.ensures ∙ ap (list_any (spells (lexemes_of c.args.tokens.now) c.args.name.now)) c.deref.ensures.value
    ∙ own_is (lexemes_of c.args.tokens.now) c.args.name.now c.args.scan.now.own.items
