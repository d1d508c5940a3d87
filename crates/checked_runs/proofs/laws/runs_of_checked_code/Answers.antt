use Rattle.checked_runs.proofs.CodeRuns.{code_runs, source_runs}
use Rattle.checked_runs.proofs.laws.runs_of_checked_code.Goals as goal

pub returns-clause-source : goal.returns-clause-source
returns-clause-source c =
    λ p names b book links small all layout few memory input order world h. code_runs p names b book links small all layout few memory input order world h

pub returns-clause-code : goal.returns-clause-code
returns-clause-code c =
    λ p names b book links small all layout few memory input order world h. source_runs p names b book links small all layout few memory input order world h
