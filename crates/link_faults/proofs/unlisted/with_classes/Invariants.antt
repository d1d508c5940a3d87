use Rattle.std.proofs.Common.{ℕ, Bool, ◌<◌, ◌||◌, map, take, length, IfSome}
use Rattle.std.specs.List.{list_any}
use Rattle.tx_code.specs.Objects.{bytes_of, object_view, class_view}
use Rattle.link_faults.specs.Disputes.{IsLeast}
use Rattle.link_faults.specs.Unlisted.{misses_slots}
use Rattle.link_faults.proofs.unlisted.with_classes.Given as goal

abbrev pub invariant-loop-class : goal.invariant-loop-class
invariant-loop-class l = ((p : ℕ → Bool) → IsLeast p l.fn.least → IsLeast
    (λ k. p k || list_any (λ x. misses_slots (map bytes_of l.all) (object_view l.object) k (class_view x)) (take l.class-index l.object.classes.items)) l.found)
    × (IfSome l.fn.least (λ k. k < length l.all) → IfSome l.found (λ k. k < length l.all))
