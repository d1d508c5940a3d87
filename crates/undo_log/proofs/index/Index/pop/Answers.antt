use Rattle.std.proofs.Common.{length, ap, subst, ◌∙◌}
use Rattle.undo_log.specs.Index.{last_position, words_in, IsLinked}
use Rattle.undo_log.proofs.IndexLists.{linked_pop, position_last, position_popped, ok_of}
use Rattle.undo_log.proofs.index.Index.pop.Goals as goal

pub invariant_of-self-clause-positions : goal.invariant_of-self-clause-positions
invariant_of-self-clause-positions c word =
    let self = c.args.self.now in
    let es = c.pop.new.self.items in
    let entry = c.in-Some.entry in
    let there = self.positions entry.word ∙ (ap (λ es. last_position (words_in es) entry.word) c.in-Some.ensures.items ∙ position_last es entry) in
    let updates = ok_of c.insert.result _ (length es) c.insert.ensures.updates c.insert.ensures.absent there in
    position_popped es _ entry word _ _ _ c.in-Some.ensures.items self.linked c.in-Some-before.is (self.positions word) (updates.0 word)

pub invariant_of-self-clause-linked : goal.invariant_of-self-clause-linked
invariant_of-self-clause-linked c = linked_pop c.pop.new.self.items c.in-Some.entry (subst IsLinked c.in-Some.ensures.items c.args.self.now.linked)

pub invariant_of-self-in-None-clause-positions : goal.invariant_of-self-in-None-clause-positions
invariant_of-self-in-None-clause-positions c word =
    let self = c.args.self.now in
    position_popped c.pop.new.self.items _ c.in-Some.entry word _ _ _ c.in-Some.ensures.items self.linked c.in-None.is (self.positions word)
    (c.remove.ensures.updates.0 word)

pub invariant_of-self-in-None-clause-linked : goal.invariant_of-self-in-None-clause-linked
invariant_of-self-in-None-clause-linked c = linked_pop c.pop.new.self.items c.in-Some.entry (subst IsLinked c.in-Some.ensures.items c.args.self.now.linked)
