use Rattle.link_faults.proofs.Marks.{marked}
use Rattle.link_faults.proofs.unlisted.mark.Goals as goal

pub returns-clause-marks : goal.returns-clause-marks
returns-clause-marks c = λ symbols h. marked symbols c.args.marks.now.items c.args.name c.requires h
