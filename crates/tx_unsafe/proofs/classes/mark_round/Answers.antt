use Rattle.std.proofs.Common.{◌<◌, ◌≡◌, ◌∙◌, length, arith}
use Rattle.cpp_types.specs.Class.{classes_of}
use Rattle.tx_unsafe.specs.ClassMarks.{count_marked}
use Rattle.tx_unsafe.proofs.ClassMarks.{next_long, next_sound, next_kept, next_more, next_closed}
use Rattle.tx_unsafe.proofs.classes.mark_round.Goals as goal

pub loop-i-preserved : goal.loop-i-preserved
loop-i-preserved c =
    let cs = classes_of c.args.classes.now in let marks = c.loop-i.marks.items in let new = c.mark-changed.new.marks.items in let i = c.loop-i.i in
    let b = c.mark-changed.result in let start = count_marked c.args.marks.now.items in
    let l : i < length marks = omega (arith, c.loop-i.invariant.long) in
    record {
      long = next_long marks new i (length c.args.classes.now) b c.loop-i.invariant.long c.mark-changed.ensures.marks;
      sound = next_sound cs marks new i b l c.loop-i.invariant.sound c.mark-changed.ensures.is c.mark-changed.ensures.marks;
      kept = next_kept cs marks new i start b l c.mark-changed.ensures.is c.mark-changed.ensures.marks c.loop-i.invariant.kept;
      more = next_more cs marks new i start c.loop-i.changed b l c.mark-changed.ensures.is c.mark-changed.ensures.marks c.loop-i.invariant.kept
          c.loop-i.invariant.more;
      closed = next_closed cs marks new i c.loop-i.changed b c.mark-changed.ensures.is c.mark-changed.ensures.marks c.loop-i.invariant.closed;
    }
