use Rattle.std.proofs.Common.{◌≡◌, ◌++◌, ◌∷◌, [], ℕ, ◌≤◌, List, drop, length, length-append, subst, sym, ap, ◌∙◌, arith}
use Rattle.undo_log.specs.declared.notes.Note.{Note}
use Rattle.undo_log.specs.Order.{times_noted, IsDescending}
use Rattle.undo_log.proofs.IndexLists.{pushed}
use Rattle.undo_log.proofs.NoteOrder.{once_again, once_new, descends_past}
use Rattle.undo_log.proofs.list.NoteList.push.Goals as goal

pub invariant_of-self : goal.invariant_of-self
invariant_of-self c =
    let self = c.args.self.now in
    let items = pushed c.push.result _ _ _ (c.push.ensures.succeeds c.requires.capacity) c.push.ensures.items in
    rw items (record {
      once = once_again self.notes.items c.args.note self.distinct c.args.start self.once (sym c.requires.again ∙ c.if-is_again.true) c.requires.fresh;
      descending = descends_past self.notes.items c.args.note c.len-self.result
          (omega (arith, c.len-self.ensures, ap length items, length-append self.notes.items (c.args.note ∷ [])));
    })

pub invariant_of-self-else-is_again : goal.invariant_of-self-else-is_again
invariant_of-self-else-is_again c =
    let self = c.args.self.now in
    let items = pushed c.push.result _ _ _ (c.push.ensures.succeeds c.requires.capacity) c.push.ensures.items in
    rw items (record {
      once = once_new self.notes.items c.args.note self.distinct self.once (sym c.requires.again ∙ c.if-is_again.false);
      descending = descends_past self.notes.items c.args.note c.len-self.result
          (omega (arith, c.len-self.ensures, ap length items, length-append self.notes.items (c.args.note ∷ [])));
    })
