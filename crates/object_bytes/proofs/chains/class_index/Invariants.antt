use Rattle.std.proofs.Common.{◌-◌, map}
use Rattle.tx_code.specs.Objects.{class_view}
use Rattle.object_bytes.specs.Chains.{AreBounds}
use Rattle.object_bytes.proofs.chains.class_index.Given as goal

abbrev pub invariant-loop-low : goal.invariant-loop-low
invariant-loop-low l = AreBounds (map class_view l.classes) l.name l.low l.high

abbrev pub decreases-loop-low : goal.decreases-loop-low
decreases-loop-low l = l.high - l.low
