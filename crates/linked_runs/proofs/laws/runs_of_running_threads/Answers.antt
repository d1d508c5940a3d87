use Rattle.linked_runs.proofs.OneImage.{running_runs, runs_running}
use Rattle.linked_runs.proofs.laws.runs_of_running_threads.Goals as goal

pub returns-clause-source : goal.returns-clause-source
returns-clause-source c = λ p i b book is layout few memory input order world h. running_runs p i b book is layout few memory input order world h

pub returns-clause-image : goal.returns-clause-image
returns-clause-image c = λ p i b book is layout few memory input order world h. runs_running p i b book is layout few memory input order world h
