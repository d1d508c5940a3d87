use Rattle.std.proofs.Common.{◌+◌, length, take, subst, sym, arith}
use Rattle.std.proofs.Math.ListN.{set}
use Rattle.undo_log.specs.Notes.{others}
use Rattle.undo_log.proofs.NoteLists.{Maps, maps_more}
use Rattle.undo_log.proofs.notes.move_marks.Goals as goal

pub loop-i-preserved : goal.loop-i-preserved
loop-i-preserved c =
    subst (λ v. Maps (λ m. length (others c.args.word (take m c.args.notes.now))) c.args.marks.now.items (set c.loop-i.marks.items c.loop-i.i v)
    (c.loop-i.i + 1)) (sym c.count_others.ensures)
    (maps_more c.index-start.result.now c.loop-i.invariant (omega (arith, c.loop-i-test.true, c.len-i-end.ensures)) c.index-start.ensures)
