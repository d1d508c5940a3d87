use Rattle.std.proofs.Common.{ℕ, Bool, ◌<◌, ◌||◌, map, take, length, IfSome}
use Rattle.std.specs.List.{list_any}
use Rattle.tx_code.specs.Objects.{bytes_of, object_view, global_view}
use Rattle.link_faults.specs.Disputes.{IsLeast}
use Rattle.link_faults.specs.Unlisted.{misses_cells}
use Rattle.link_faults.proofs.unlisted.with_globals.Given as goal

abbrev pub invariant-loop-global : goal.invariant-loop-global
invariant-loop-global l = ((p : ℕ → Bool) → IsLeast p l.fn.least → IsLeast
    (λ k. p k || list_any (λ x. misses_cells (map bytes_of l.all) (object_view l.object) k (global_view x))
    (take l.global-index l.object.globals.items)) l.found) × (IfSome l.fn.least (λ k. k < length l.all) → IfSome l.found (λ k. k < length l.all))
