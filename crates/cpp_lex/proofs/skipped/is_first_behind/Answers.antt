use Rattle.std.proofs.Common.{◌≡◌, ◌<◌, length, true, arith, slice_index, refl}
use Rattle.cpp_lex.specs.Bytes.{is_blank}
use Rattle.cpp_lex.proofs.LineStarts.{first_of_next, first_further, first_before}
use Rattle.cpp_lex.proofs.skipped.is_first_behind.Goals as goal
use Rattle.cpp_lex.proofs.skipped.is_first_behind.Goals.{then-text-at-eq10, else-text-at-eq10}

pub loop-at-preserved : goal.loop-at-preserved
loop-at-preserved c =
    let inside : c.loop-at.at < length c.args.text.now = omega arith in
    let blank : is_blank (slice_index c.args.text.now c.loop-at.at) ≡ true = c.requires.blank.each c.loop-at.at (omega arith) (omega arith) in
    elim c.if-text-at-eq10.branch [
      | then-text-at-eq10 w ↦ (λ yes. first_of_next c.args.text.now c.loop-at.at inside w.if-text-at-eq10.true, λ f. rw w.first-is refl)
      | else-text-at-eq10 w ↦ (
        λ yes. first_further c.args.text.now c.loop-at.at inside blank w.if-text-at-eq10.false (c.loop-at.invariant.0 (rw w.first-is at yes)),
        λ f. rw w.first-is (c.loop-at.invariant.1 (first_before c.args.text.now c.loop-at.at inside w.if-text-at-eq10.false f)),
      )
    ]
