use Rattle.std.proofs.Common.{◌≡◌, ◌<◌, Some, None, length, map, subst, arith}
use Rattle.std.specs.BinaryHeap.{heap_items}
use Rattle.code_walk.specs.Walk.{lowest}
use Rattle.code_walk.specs.Slots.{slot_of}
use Rattle.code_walk.proofs.WaitingIndexes.{looked_waits_not, none_waits, taken_within, least_waits, less_wait}
use Rattle.code_walk.proofs.slots.Slots.look.Goals as goal

pub returns-in_default-clause-none : goal.returns-in_default-clause-none
returns-in_default-clause-none c = λ t. subst (λ z. lowest 0 (map (slot_of t) z) ≡ None) c.self.view_is
    (none_waits t c.self.inside.slots.items (heap_items c.self.inside.waiting.indexes) c.self.invariant c.in_default.ensures.none)

pub index-slot-requires : goal.index-slot-requires
index-slot-requires c =
    let h : c.in-Some.index < length c.self.inside.slots.items =
    taken_within c.self.inside.slots.items (heap_items c.self.inside.waiting.indexes)
    (heap_items c.take_least.new.self.indexes) c.in-Some.index c.in-Some.ensures.one c.self.invariant in
    omega (arith, h, c.self.inside.slots.ok)

pub index_mut-requires : goal.index_mut-requires
index_mut-requires c =
    let h : c.in-Some.index < length c.self.inside.slots.items =
    taken_within c.self.inside.slots.items (heap_items c.self.inside.waiting.indexes)
    (heap_items c.take_least.new.self.indexes) c.in-Some.index c.in-Some.ensures.one c.self.invariant in
    omega (arith, h, c.self.inside.slots.ok)

pub invariant_of-self-2 : goal.invariant_of-self-2
invariant_of-self-2 c =
    let d = c.index-slot.result.now in
    let h = taken_within c.self.inside.slots.items (heap_items c.self.inside.waiting.indexes)
    (heap_items c.take_least.new.self.indexes) c.in-Some.index c.in-Some.ensures.one c.self.invariant in
    less_wait c.self.inside.slots.items c.in-Some.index _ d h c.index-slot.ensures (heap_items c.self.inside.waiting.indexes)
    (heap_items c.take_least.new.self.indexes) (looked_waits_not d) c.in-Some.ensures.one c.self.invariant

pub returns-clause-lowest : goal.returns-clause-lowest
returns-clause-lowest c = λ t. subst (λ z. lowest 0 (map (slot_of t) z) ≡ Some c.in-Some.index) c.self.view_is
    (least_waits t c.self.inside.slots.items (heap_items c.self.inside.waiting.indexes)
    (heap_items c.take_least.new.self.indexes) c.in-Some.index c.self.invariant c.in-Some.ensures.one c.in-Some.ensures.least)

pub returns-clause-within : goal.returns-clause-within
returns-clause-within c = subst (λ z. c.in-Some.index < length z) c.self.view_is
    (taken_within c.self.inside.slots.items (heap_items c.self.inside.waiting.indexes)
    (heap_items c.take_least.new.self.indexes) c.in-Some.index c.in-Some.ensures.one c.self.invariant)
