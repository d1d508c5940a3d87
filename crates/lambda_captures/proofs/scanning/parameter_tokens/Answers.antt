use Rattle.std.proofs.Common.{map}
use Rattle.elab_types.specs.Shown.{parameter_of}
use Rattle.lambda_captures.specs.Steps.{tokens_back}
use Rattle.lambda_captures.proofs.Scans.{back_more}
use Rattle.lambda_captures.proofs.scanning.parameter_tokens.Goals as goal

pub backwards-preserved : goal.backwards-preserved
backwards-preserved c = back_more parameter_of c.backwards.rest.now c.in-Some.before.now c.in-Some.last.now c.backwards.list.items c.keep_token.new.list.items
    (tokens_back (map parameter_of c.args.params.now)) c.backwards.invariant c.in-Some.ensures.cases.0 c.in_ok-keep_token.ensures
