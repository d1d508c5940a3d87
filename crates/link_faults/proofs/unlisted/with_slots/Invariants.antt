use Rattle.std.proofs.Common.{ℕ, Bool, ◌<◌, ◌||◌, map, take, length, IfSome}
use Rattle.std.specs.List.{list_any}
use Rattle.tx_code.specs.Objects.{bytes_of, object_view}
use Rattle.link_faults.specs.Disputes.{IsLeast}
use Rattle.link_faults.specs.Unlisted.{misses_slot}
use Rattle.link_faults.proofs.unlisted.with_slots.Given as goal

abbrev pub invariant-loop-slot : goal.invariant-loop-slot
invariant-loop-slot l = ((p : ℕ → Bool) → IsLeast p l.fn.least → IsLeast
    (λ k. p k || list_any (misses_slot (map bytes_of l.all) (object_view l.object) k) (take l.slot-index l.slots)) l.found)
    × (IfSome l.fn.least (λ k. k < length l.all) → IfSome l.found (λ k. k < length l.all))
