use Rattle.schedules.proofs.Lines.{in_bounds}
use Rattle.schedules.proofs.Reading.{thread_read}
use Rattle.schedules.proofs.reader.line_at.Goals as goal

pub returns-in_default-count_at : goal.returns-in_default-count_at
returns-in_default-count_at c r rest line e =
    let same = thread_read c.args.text.now c.in-Some.thread.rest.now c.in-Some.thread.value r rest c.in-Some.ensures line e in
    let bound = in_bounds r line in
    (rw c.in_default-count_at.is at c.count_at.ensures) r.count rest (bound.some, bound.count) same.rest
