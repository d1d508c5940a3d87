use Rattle.std.proofs.Common.{map}
use Rattle.tx_code.specs.Objects.{class_view}
use Rattle.object_bytes.proofs.ChainSteps.{Walks}
use Rattle.object_bytes.proofs.chains.count_steps.Given as goal

abbrev pub invariant-loop-walked : goal.invariant-loop-walked
invariant-loop-walked l = Walks (map class_view l.classes) l.base l.walked l.at
