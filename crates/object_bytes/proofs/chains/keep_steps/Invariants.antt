use Rattle.std.proofs.Common.{map}
use Rattle.tx_code.specs.Objects.{class_view}
use Rattle.object_bytes.specs.Chains.{EndsIn, AreSteps}
use Rattle.object_bytes.proofs.chains.keep_steps.Given as goal

abbrev pub invariant-loop-left : goal.invariant-loop-left
invariant-loop-left l = AreSteps (map class_view l.classes) l.known.items × EndsIn (map class_view l.classes) l.at l.left

abbrev pub decreases-loop-left : goal.decreases-loop-left
decreases-loop-left l = l.left
