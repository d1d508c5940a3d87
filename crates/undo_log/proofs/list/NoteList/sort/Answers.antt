use Rattle.std.proofs.Common.{drop, arith}
use Rattle.undo_log.proofs.NoteOrder.{times_moved, times_later, first_moved}
use Rattle.undo_log.proofs.list.NoteList.sort.Goals as goal

pub invariant_of-self : goal.invariant_of-self
invariant_of-self c =
    let self = c.args.self.now in
    let start = c.args.start in
    record {
      once = λ w. omega (arith, times_moved _ _ w c.sort_from.ensures.moved, times_later self.notes.items self.distinct start w (omega arith), self.once w);
      descending = c.sort_from.ensures.sorted;
    }

pub returns-clause-first : goal.returns-clause-first
returns-clause-first c =
    let self = c.args.self.now in
    let start = c.args.start in
    first_moved _ _ c.sort_from.ensures.moved (λ w. omega (arith, times_later self.notes.items self.distinct start w (omega arith), self.once w))
