use Rattle.std.proofs.Common.{◌<◌, ◌∷◌, [], ◌≡◌, true, length, set, sym, subst}
use Rattle.std.specs.BinaryHeap.{heap_items}
use Rattle.std.specs.List.{list_all}
use Rattle.code_walk.specs.Walk.{given}
use Rattle.code_walk.specs.ShapeViews.{shape_of}
use Rattle.code_walk.specs.Slots.{slot_fits, Notes}
use Rattle.code_walk.proofs.SlotNotes.{one_noted}
use Rattle.code_walk.proofs.WaitingIndexes.{new_waits, new_waits_not, more_wait}
use Rattle.code_walk.proofs.slots.Slots.note_within.Goals as goal

pub invariant_of-self-then-is_new : goal.invariant_of-self-then-is_new
invariant_of-self-then-is_new c =
    let l : c.args.at < length c.self.inside.slots.items = subst (λ z. c.args.at < length z) (sym c.self.view_is) c.requires.within in
    let d = c.index-old.result.now in
    more_wait c.self.inside.slots.items c.args.at c.noted.result d l c.index-old.ensures (heap_items c.self.inside.waiting.indexes)
    (heap_items c.add.new.self.indexes)
    (new_waits_not d (sym c.if-is_new.ensures)) (new_waits d c.noted.result
    (sym c.if-is_new.ensures) c.noted.ensures.shape c.noted.ensures.looked) c.in_ok-add.ensures.added c.self.invariant

pub returns-then-is_new : goal.returns-then-is_new
returns-then-is_new c =
    let n = c.args.nests.now in
    let items = c.self.inside.slots.items in
    let l : c.args.at < length c.self.inside.slots.items = subst (λ z. c.args.at < length z) (sym c.self.view_is) c.requires.within in
    let f : list_all (slot_fits c.args.nests.now) c.self.inside.slots.items ≡ true =
    subst (λ z. list_all (slot_fits c.args.nests.now) z ≡ true) (sym c.self.view_is) c.requires.slots in
    subst (λ z. Notes n z (set items c.args.at c.noted.result) (given c.args.at (shape_of n c.args.shape) ∷ [])) c.self.view_is
    (one_noted n items c.args.at c.noted.result c.index-old.result.now (shape_of n c.args.shape) l c.index-old.ensures f c.noted.ensures.fit c.noted.ensures.is)

pub returns : goal.returns
returns c =
    let n = c.args.nests.now in
    let items = c.self.inside.slots.items in
    let l : c.args.at < length c.self.inside.slots.items = subst (λ z. c.args.at < length z) (sym c.self.view_is) c.requires.within in
    let f : list_all (slot_fits c.args.nests.now) c.self.inside.slots.items ≡ true =
    subst (λ z. list_all (slot_fits c.args.nests.now) z ≡ true) (sym c.self.view_is) c.requires.slots in
    subst (λ z. Notes n z (set items c.args.at c.noted-2.result) (given c.args.at (shape_of n c.args.shape) ∷ [])) c.self.view_is
    (one_noted n items c.args.at c.noted-2.result c.index-old.result.now
    (shape_of n c.args.shape) l c.index-old.ensures f c.noted-2.ensures.fit c.noted-2.ensures.is)
