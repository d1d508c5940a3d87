use Rattle.schedules.proofs.Runs.{entries_runs, runs_tight}
use Rattle.schedules.proofs.laws.runs.Goals as goal

pub returns-clause-entries : goal.returns-clause-entries
returns-clause-entries c xs = entries_runs xs

pub returns-clause-tight : goal.returns-clause-tight
returns-clause-tight c xs = runs_tight xs
