use Rattle.checked_runs.proofs.StartingRun.{all_runs, code_run, source_run}
use Rattle.checked_runs.proofs.laws.worked_start.Goals as goal

pub returns-clause-all : goal.returns-clause-all
returns-clause-all c = all_runs

pub returns-clause-code : goal.returns-clause-code
returns-clause-code c = code_run

pub returns-clause-source : goal.returns-clause-source
returns-clause-source c = source_run
