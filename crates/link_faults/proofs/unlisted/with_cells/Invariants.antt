use Rattle.std.proofs.Common.{ℕ, Bool, ◌<◌, ◌||◌, map, take, length, IfSome}
use Rattle.std.specs.List.{list_any}
use Rattle.tx_code.specs.Objects.{bytes_of, object_view}
use Rattle.link_faults.specs.Disputes.{IsLeast}
use Rattle.link_faults.specs.Unlisted.{misses_cell}
use Rattle.link_faults.proofs.unlisted.with_cells.Given as goal

abbrev pub invariant-loop-cell : goal.invariant-loop-cell
invariant-loop-cell l = ((p : ℕ → Bool) → IsLeast p l.fn.least → IsLeast
    (λ k. p k || list_any (misses_cell (map bytes_of l.all) (object_view l.object) k) (take l.cell-index l.cells)) l.found)
    × (IfSome l.fn.least (λ k. k < length l.all) → IfSome l.found (λ k. k < length l.all))
