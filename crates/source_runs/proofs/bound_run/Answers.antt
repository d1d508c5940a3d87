use Rattle.src_bind.specs.Bounds.{given}
use Rattle.source_runs.proofs.Exact.{runs_so, other_end, no_run, no_time}
use Rattle.source_runs.proofs.bound_run.Goals as goal

pub returns-then-agrees-clause-some : goal.returns-then-agrees-clause-some
returns-then-agrees-clause-some c = runs_so
    (given c.args.bound.now) c.args.input.now c.args.order.now c.args.out.now c.args.end 4294967295 c.in-Ok.replayed c.in-Ok.ensures
    (c.agrees.ensures.out c.if-agrees.true) (c.agrees.ensures.end c.if-agrees.true)

pub returns-in-Ok-clause-none : goal.returns-in-Ok-clause-none
returns-in-Ok-clause-none c = other_end
    (given c.args.bound.now) c.args.input.now c.args.order.now c.args.out.now c.args.end 4294967295 c.in-Ok.replayed c.in-Ok.ensures
    (c.agrees.ensures.no c.if-agrees.false)

pub returns-in-Err-NotARun-clause-none : goal.returns-in-Err-NotARun-clause-none
returns-in-Err-NotARun-clause-none c = no_run (given c.args.bound.now) c.args.input.now c.args.order.now c.args.out.now c.args.end 4294967295 _
    (rw c.in-Err-NotARun.field-0-is at c.in-Err-NotARun.ensures)

pub returns-in-Err-Spent-clause-none : goal.returns-in-Err-Spent-clause-none
returns-in-Err-Spent-clause-none c = no_time (given c.args.bound.now) c.args.input.now c.args.order.now c.args.out.now c.args.end 4294967295 _
    (rw c.in-Err-Spent.field-0-is at c.in-Err-Spent.ensures)
