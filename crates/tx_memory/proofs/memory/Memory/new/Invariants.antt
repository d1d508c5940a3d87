use Rattle.std.proofs.Common.{◌≡◌, drop}
use Rattle.tx_events.specs.Memory.{no_bytes, with_cells}
use Rattle.tx_memory.specs.View.{layout_of, words_of}
use Rattle.tx_memory.proofs.memory.Memory.new.Given as goal

abbrev pub invariant-loop-cell : goal.invariant-loop-cell
invariant-loop-cell l = (layout_of l.memory ≡ record { globals = l.fn.size; limit = l.fn.threads })
    × (with_cells (words_of l.memory) (drop l.cell-index l.globals) ≡ with_cells no_bytes l.globals)
