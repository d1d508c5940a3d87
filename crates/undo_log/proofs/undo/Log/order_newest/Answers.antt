use Rattle.std.proofs.Common.{arith}
use Rattle.undo_log.specs.IndexView.{words_listed}
use Rattle.undo_log.proofs.IndexLists.{begins_kept}
use Rattle.undo_log.proofs.undo.Log.order_newest.Goals as goal

pub invariant_of-self : goal.invariant_of-self
invariant_of-self c =
    let self = c.args.self.now in
    record {
      within = λ i l. omega (arith, self.within i l, c.sort-moved.ensures.len);
      ascending = self.ascending;
      indexed = rw c.truncate.ensures (begins_kept self.list.notes.items _
          (words_listed self.index) c.start-start.result c.sort-moved.ensures.older self.indexed);
    }
