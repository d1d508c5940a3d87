use Rattle.std.proofs.Common.{◌≡◌, drop}
use Rattle.std.specs.List.{list_all}
use Rattle.tx_memory.specs.Cells.{lies_within}
use Rattle.src_replay.proofs.memories.lie_within.Given as goal

abbrev pub invariant-loop-cell : goal.invariant-loop-cell
invariant-loop-cell l = list_all (lies_within l.size) (drop l.cell-index l.cells) ≡ list_all (lies_within l.size) l.cells
