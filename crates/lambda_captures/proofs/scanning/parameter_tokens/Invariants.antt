use Rattle.std.proofs.Common.{◌≡◌, ◌++◌, length, map}
use Rattle.elab_types.specs.Shown.{parameter_of}
use Rattle.lambda_captures.specs.Steps.{tokens_back}
use Rattle.lambda_captures.proofs.scanning.parameter_tokens.Given as goal

abbrev pub invariant-backwards : goal.invariant-backwards
invariant-backwards l = l.list.items ++ tokens_back (map parameter_of l.rest) ≡ tokens_back (map parameter_of l.params)

abbrev pub decreases-backwards : goal.decreases-backwards
decreases-backwards l = length l.rest
