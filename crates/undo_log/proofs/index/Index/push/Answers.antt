use Rattle.std.proofs.Common.{sym, subst, ◌∙◌}
use Rattle.undo_log.specs.Index.{IsLinked}
use Rattle.undo_log.proofs.IndexLists.{words_long, linked_push, position_pushed, pushed}
use Rattle.undo_log.proofs.index.Index.push.Goals as goal

pub invariant_of-self-clause-positions : goal.invariant_of-self-clause-positions
invariant_of-self-clause-positions c word =
    let items = pushed c.push.result _ _ _ (c.push.ensures.succeeds c.requires.entries) c.push.ensures.items in
    position_pushed c.args.self.now.entries.items _ _ word c.len-position.result _ _ items (c.len-position.ensures ∙ words_long c.args.self.now.entries.items)
    (c.args.self.now.positions word) (c.in-Ok.ensures.updates.0 word)

pub invariant_of-self-clause-linked : goal.invariant_of-self-clause-linked
invariant_of-self-clause-linked c =
    let self = c.args.self.now in
    let items = pushed c.push.result _ _ _ (c.push.ensures.succeeds c.requires.entries) c.push.ensures.items in
    subst IsLinked (sym items) (linked_push self.entries.items (record { word = c.args.word; before = c.in-Ok.before }) self.linked
    (c.in-Ok.ensures.old ∙ self.positions c.args.word))
