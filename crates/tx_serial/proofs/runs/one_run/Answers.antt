use Rattle.tx_serial.proofs.RecordedPicks.{has_run, one_run}
use Rattle.tx_serial.proofs.runs.one_run.Goals as goal

pub returns-clause-exists : goal.returns-clause-exists
returns-clause-exists g c = λ p bound first pick answer can. has_run g.A.Actor.thread p pick answer bound can first

pub returns-clause-unique : goal.returns-clause-unique
returns-clause-unique g c =
    λ p bound first pick answer slots others result another. one_run g.A.Actor.thread p bound first pick answer slots others result another
