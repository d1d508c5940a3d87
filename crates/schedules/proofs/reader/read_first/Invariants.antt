use Rattle.std.proofs.Common.{length}
use Rattle.schedules.proofs.Reading.{IsSoFar}
use Rattle.schedules.proofs.reader.read_first.Given as goal

abbrev pub invariant-lines : goal.invariant-lines
invariant-lines l = IsSoFar l.most l.text l.rest l.number l.schedule

abbrev pub decreases-lines : goal.decreases-lines
decreases-lines l = length l.rest
