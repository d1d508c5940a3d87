use Rattle.std.proofs.Common.{sym, subst}
use Rattle.std.specs.BinaryHeap.{heap_items}
use Rattle.code_walk.specs.Waiting.{AreWaiting}
use Rattle.code_walk.proofs.WaitingIndexes.{bares_wait}
use Rattle.code_walk.proofs.slots.Slots.new.Goals as goal

pub invariant_of-result : goal.invariant_of-result
invariant_of-result c = subst (λ z. AreWaiting z (heap_items c.new.result.indexes)) (sym c.in_ok-slots.ensures)
    (bares_wait c.args.count (heap_items c.new.result.indexes) c.new.ensures)
