use Rattle.std.proofs.Common.{rules, ◌≡◌}
use Rattle.undo_log.specs.declared.notes.Note.{Note}
use Rattle.std.proofs.lemmas.List.Sorted.{IsPermutation-trans, IsNonDecreasingBy-from_sort_by_key}
use Rattle.undo_log.proofs.NoteOrder.{turned_round}
use Rattle.undo_log.proofs.notes.sort_descending.Goals as goal

pub returns-clause-moved : goal.returns-clause-moved
returns-clause-moved c = IsPermutation-trans _ _ _ c.sort_unstable_by_key.ensures.permutation c.reverse.ensures.permutation

pub returns-clause-sorted : goal.returns-clause-sorted
returns-clause-sorted c = turned_round _ _ (IsNonDecreasingBy-from_sort_by_key (λ (n : Note). n.word) _ c.sort_unstable_by_key.ensures.sorted
    (λ a r q k. search rules)) c.reverse.ensures.after c.reverse.ensures.len
