use Rattle.std.proofs.Common.{◌++◌, ◌∷◌, [], map, sym, subst}
use Rattle.std.specs.Prelude.{not}
use Rattle.tx_code.specs.Shapes.{landed}
use Rattle.code_walk.specs.Walk.{given}
use Rattle.code_walk.specs.Nests.{nest}
use Rattle.code_walk.specs.Bodies.{lands_in}
use Rattle.code_walk.specs.ShapeViews.{shape_of}
use Rattle.code_walk.specs.Slots.{slot_of, Notes}
use Rattle.code_walk.specs.RowTrees.{rows_of, SpanOf, KeySettled, is_key, Right}
use Rattle.code_walk.proofs.RowNotes.{leaf_still, leaf_right, fork_past, fork_done, fork_notes, whole_right, part_right, right_noted}
use Rattle.code_walk.proofs.rows.+note_rows.Goals as goal

pub returns-then-not-is_open-clause-notes : goal.returns-then-not-is_open-clause-notes
returns-then-not-is_open-clause-notes t c =
    let n = c.args.nests.now in
    let a = c.args.slots.now in
    let r = subst (Right n (map (slot_of n) a)) c.in-Leaf.is c.requires.right in
    subst (λ z. Notes n a a (lands_in (rows_of z) c.args.index (shape_of n c.args.shape))) (sym c.in-Leaf.is)
    (leaf_still n a c.args.index c.args.shape c.requires.slots c.in-Leaf.row c.in-Leaf.key r (sym c.if-not-is_open.ensures))

pub returns-in_ok-note_row-in-Leaf-clause-right : goal.returns-in_ok-note_row-in-Leaf-clause-right
returns-in_ok-note_row-in-Leaf-clause-right t c = leaf_right c.args.nests.now c.args.slots.now c.note_row.new.slots c.in-Leaf.row c.args.index c.args.shape
    (not (is_key c.in-Leaf.key c.args.shape)) (sym c.if-not-is_open.ensures) c.requires.shape c.in_ok-note_row-in-Leaf.ensures

pub returns-then-not-may_cover-clause-notes : goal.returns-then-not-may_cover-clause-notes
returns-then-not-may_cover-clause-notes t c =
    let n = c.args.nests.now in
    let a = c.args.slots.now in
    let r = subst (Right n (map (slot_of n) a)) c.in-Fork.is c.requires.right in
    subst (λ z. Notes n a a (lands_in (rows_of z) c.args.index (shape_of n c.args.shape))) (sym c.in-Fork.is)
    (fork_past n a c.args.index c.args.shape c.requires.slots (rows_of c.in-Fork.left.value ++ rows_of c.in-Fork.right.value) c.in-Fork.span r.2
    (sym c.if-not-may_cover.ensures))

pub returns-then-is_done-clause-notes : goal.returns-then-is_done-clause-notes
returns-then-is_done-clause-notes t c =
    let n = c.args.nests.now in
    let a = c.args.slots.now in
    let r = subst (Right n (map (slot_of n) a)) c.in-Fork.is c.requires.right in
    subst (λ z. Notes n a a (lands_in (rows_of z) c.args.index (shape_of n c.args.shape))) (sym c.in-Fork.is)
    (fork_done n a c.args.index c.args.shape c.requires.slots
    (rows_of c.in-Fork.left.value ++ rows_of c.in-Fork.right.value) c.in-Fork.span c.in-Fork.key r.3 (sym c.if-is_done.ensures))

pub returns-in_ok-note_row-in-Leaf-clause-others : goal.returns-in_ok-note_row-in-Leaf-clause-others
returns-in_ok-note_row-in-Leaf-clause-others t c = λ o h. right_noted c.args.nests.now (map (slot_of c.args.nests.now) c.args.slots.now)
    (map (slot_of c.args.nests.now) c.note_row.new.slots)
    (given c.in-Leaf.row.target (landed c.in-Leaf.row.what c.in-Leaf.row.depth (nest c.args.nests.now c.args.shape.nest) c.args.shape.handlers)
    ∷ []) o c.in_ok-note_row-in-Leaf.ensures.slots h

pub returns-then-all_cover-clause-others : goal.returns-then-all_cover-clause-others
returns-then-all_cover-clause-others t c = λ o h. c.in_ok-note_rows-in-Fork-2.ensures.others o (c.in_ok-note_rows-in-Fork.ensures.others o h)

pub returns-else-all_cover-clause-others : goal.returns-else-all_cover-clause-others
returns-else-all_cover-clause-others t c = λ o h. c.in_ok-note_rows-in-Fork-2.ensures.others o (c.in_ok-note_rows-in-Fork.ensures.others o h)

pub returns-then-all_cover-clause-notes : goal.returns-then-all_cover-clause-notes
returns-then-all_cover-clause-notes t c =
    let n = c.args.nests.now in
    let s = shape_of c.args.nests.now c.args.shape in
    let a = c.args.slots.now in
    let p = subst (λ z. Notes n a c.note_rows.new.slots
    (lands_in (rows_of z) c.args.index s)) c.deref_mut.ensures.value c.in_ok-note_rows-in-Fork.ensures.notes in
    let q = subst (λ z. Notes n c.note_rows.new.slots c.note_rows-in-Fork.new.slots
    (lands_in (rows_of z) c.args.index s)) c.deref_mut-in-Fork.ensures.value c.in_ok-note_rows-in-Fork-2.ensures.notes in
    subst (λ z. Notes n a c.note_rows-in-Fork.new.slots (lands_in (rows_of z) c.args.index s)) (sym c.in-Fork.is)
    (fork_notes n a c.note_rows.new.slots c.note_rows-in-Fork.new.slots (rows_of c.in-Fork.left.value)
    (rows_of c.in-Fork.right.value) c.args.index c.args.shape p q)

pub returns-else-all_cover-clause-notes : goal.returns-else-all_cover-clause-notes
returns-else-all_cover-clause-notes t c =
    let n = c.args.nests.now in
    let s = shape_of c.args.nests.now c.args.shape in
    let a = c.args.slots.now in
    let p = subst (λ z. Notes n a c.note_rows.new.slots
    (lands_in (rows_of z) c.args.index s)) c.deref_mut.ensures.value c.in_ok-note_rows-in-Fork.ensures.notes in
    let q = subst (λ z. Notes n c.note_rows.new.slots c.note_rows-in-Fork.new.slots
    (lands_in (rows_of z) c.args.index s)) c.deref_mut-in-Fork.ensures.value c.in_ok-note_rows-in-Fork-2.ensures.notes in
    subst (λ z. Notes n a c.note_rows-in-Fork.new.slots (lands_in (rows_of z) c.args.index s)) (sym c.in-Fork.is)
    (fork_notes n a c.note_rows.new.slots c.note_rows-in-Fork.new.slots (rows_of c.in-Fork.left.value)
    (rows_of c.in-Fork.right.value) c.args.index c.args.shape p q)

pub returns-then-all_cover-clause-right : goal.returns-then-all_cover-clause-right
returns-then-all_cover-clause-right t c =
    let n = c.args.nests.now in
    let a = c.args.slots.now in
    let r = subst (Right n (map (slot_of n) a)) c.in-Fork.is c.requires.right in
    let l = c.deref_mut.result.now in
    let q = c.deref_mut-in-Fork.result.now in
    let sp = subst (λ z. SpanOf c.in-Fork.span (rows_of z ++ rows_of q)) (sym c.deref_mut.ensures.value)
    (subst (λ z. SpanOf c.in-Fork.span (rows_of c.in-Fork.left.value ++ rows_of z)) (sym c.deref_mut-in-Fork.ensures.value) r.2) in
    whole_right n a c.note_rows.new.slots c.note_rows-in-Fork.new.slots l q c.note_rows.new.tree c.note_rows-in-Fork.new.tree c.in-Fork.span c.in-Fork.key
    c.args.index c.args.shape
    c.in_ok-note_rows-in-Fork.ensures.notes c.in_ok-note_rows-in-Fork-2.ensures.notes c.in_ok-note_rows-in-Fork.ensures.rows
    c.in_ok-note_rows-in-Fork-2.ensures.rows c.in_ok-note_rows-in-Fork.ensures.right c.in_ok-note_rows-in-Fork-2.ensures.right sp
    (sym c.if-all_cover.ensures) c.requires.shape

pub returns-else-all_cover-clause-right : goal.returns-else-all_cover-clause-right
returns-else-all_cover-clause-right t c =
    let n = c.args.nests.now in
    let a = c.args.slots.now in
    let r = subst (Right n (map (slot_of n) a)) c.in-Fork.is c.requires.right in
    let l = c.deref_mut.result.now in
    let q = c.deref_mut-in-Fork.result.now in
    let sp = subst (λ z. SpanOf c.in-Fork.span (rows_of z ++ rows_of q)) (sym c.deref_mut.ensures.value)
    (subst (λ z. SpanOf c.in-Fork.span (rows_of c.in-Fork.left.value ++ rows_of z)) (sym c.deref_mut-in-Fork.ensures.value) r.2) in
    let k = subst (λ z. KeySettled n (map (slot_of n) a) (rows_of z ++ rows_of q) c.in-Fork.key) (sym c.deref_mut.ensures.value)
    (subst (λ z. KeySettled n (map (slot_of n) a) (rows_of c.in-Fork.left.value ++ rows_of z) c.in-Fork.key) (sym c.deref_mut-in-Fork.ensures.value) r.3) in
    part_right n a c.note_rows.new.slots c.note_rows-in-Fork.new.slots l q c.note_rows.new.tree c.note_rows-in-Fork.new.tree c.in-Fork.span c.in-Fork.key
    c.args.index c.args.shape
    c.in_ok-note_rows-in-Fork.ensures.notes c.in_ok-note_rows-in-Fork-2.ensures.notes c.in_ok-note_rows-in-Fork.ensures.rows
    c.in_ok-note_rows-in-Fork-2.ensures.rows c.in_ok-note_rows-in-Fork.ensures.right c.in_ok-note_rows-in-Fork-2.ensures.right sp k
