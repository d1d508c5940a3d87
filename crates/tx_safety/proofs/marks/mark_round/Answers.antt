use Rattle.std.proofs.Common.{◌<◌, ◌≡◌, ◌∙◌, ◌||◌, length, map, is_some, true, false, ap, refl, sym, arith}
use Rattle.cpp_tree.specs.Arena.{trees_of}
use Rattle.cpp_tree.specs.Units.{func_of}
use Rattle.tx_unsafe.specs.Volatile.{marked}
use Rattle.tx_safety.specs.Marks.{count_marks, new_mark}
use Rattle.tx_safety.proofs.FuncMarks.{next_long_marks, next_sound_marks, next_kept_marks, next_more_marks, next_closed_marks}
use Rattle.tx_safety.proofs.marks.mark_round.Goals as goal

pub loop-n-preserved : goal.loop-n-preserved
loop-n-preserved c =
    let v = marked c.args.volatile.now in let funcs = map (func_of (trees_of c.args.nodes.now)) c.args.funcs.now in
    let marks = c.loop-n.marks.items in let new = c.mark-changed.new.marks.items in let n = c.loop-n.n in
    let o = new_mark v funcs marks n in let start = count_marks c.args.marks.now.items in
    let l : n < length marks = omega (arith, c.loop-n.invariant.long) in
    record {
      long = next_long_marks marks new n (length c.args.funcs.now) o c.loop-n.invariant.long c.mark-changed.ensures.marks;
      sound = next_sound_marks v funcs marks new n o l c.loop-n.invariant.sound refl c.mark-changed.ensures.marks;
      kept = next_kept_marks v funcs marks new n start o l c.loop-n.invariant.sound refl c.mark-changed.ensures.marks c.loop-n.invariant.kept;
      more = λ t. next_more_marks v funcs marks new n start c.loop-n.changed o l c.loop-n.invariant.sound refl c.mark-changed.ensures.marks
          c.loop-n.invariant.kept c.loop-n.invariant.more (sym (ap (λ z. c.loop-n.changed || z) c.mark-changed.ensures.is) ∙ t);
      closed = λ t. next_closed_marks v funcs marks new n c.loop-n.changed o refl c.mark-changed.ensures.marks c.loop-n.invariant.closed
          (sym (ap (λ z. c.loop-n.changed || z) c.mark-changed.ensures.is) ∙ t);
    }
