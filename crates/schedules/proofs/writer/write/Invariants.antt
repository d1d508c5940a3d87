use Rattle.std.proofs.Common.{◌≡◌, ◌++◌, length}
use Rattle.schedules.specs.Text.{runs_of, text_of}
use Rattle.schedules.proofs.writer.write.Given as goal

abbrev pub invariant-runs : goal.invariant-runs
invariant-runs l = l.text.items ++ text_of (runs_of l.rest) ≡ text_of (runs_of l.entries)

abbrev pub decreases-runs : goal.decreases-runs
decreases-runs l = length l.rest
