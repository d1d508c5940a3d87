use Rattle.std.proofs.Common.{rules, arith, Some, ap, sym, ◌∙◌}
use Rattle.std.proofs.lemmas.Option.{slice_get-get_or}
use Rattle.body_check.specs.Notes.{IsThrown}
use Rattle.note_landing.specs.Shown.{thrown_by, exception_by}
use Rattle.note_landing.proofs.Shows.{more_each, each_all}
use Rattle.note_landing.proofs.spellings.all_thrown.Goals as goal

pub loop-exception-preserved : goal.loop-exception-preserved
loop-exception-preserved c =
    more_each (λ e. IsThrown (thrown_by c.args.body.now) (exception_by c.args.body.now e)) c.args.exceptions.now c.loop-exception.exception-index c.exception-item.result (slice_get-get_or c.args.exceptions.now c.loop-exception.exception-index _ c.loop-exception-test.true ∙ ap (λ z. Some z) (sym c.exception-item.is)) (c.in_ok-is_of_thrown.ensures (search rules)) c.loop-exception.invariant

pub returns : goal.returns
returns c told = each_all (λ e. IsThrown (thrown_by c.args.body.now) (exception_by c.args.body.now e)) c.args.exceptions.now c.loop-exception.exception-index (omega arith) c.loop-exception.invariant
