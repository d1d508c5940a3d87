use Rattle.std.proofs.Common.{◌≡◌, ◌∙◌, sym, true≢false, false, Result, Ok, Err, OnOk}
use Rattle.std.specs.Prelude.{is_err}
use Rattle.schedules.proofs.Reading.{next_line}
use Rattle.schedules.proofs.reader.read_first.Goals as goal

went_well : {A E : Type 0} (P : Type 0) (r : Result A E) → is_err r ≡ false → OnOk r P → P
went_well P (Ok x) e h = h
went_well P (Err x) e h = absurd (true≢false e)

pub lines-preserved : goal.lines-preserved
lines-preserved c = next_line c.args.most c.args.text.now c.lines.rest.now c.in-Some.line.rest.now c.lines.number c.lines.schedule c.add.new.schedule
    c.in-Some.line.run c.lines.invariant c.in-Some.ensures.0 c.in-Some.ensures.1
    (went_well _ c.add.result (sym c.is_err.ensures.value ∙ c.if-is_err.false) c.add.ensures)
