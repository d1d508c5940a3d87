use Rattle.race_check.proofs.MarkSteps.{none_late}
use Rattle.race_check.proofs.tables.is_above.Goals as goal

pub returns-clause-no : goal.returns-clause-no
returns-clause-no c h late = none_late c.args.marks.now c.args.row.now c.args.t c.threads.s c.requires c.threads-test.false c.threads.invariant late
