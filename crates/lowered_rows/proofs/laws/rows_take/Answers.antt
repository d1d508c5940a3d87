use Rattle.lowered_rows.proofs.Runs.{row_inside, row_beyond}
use Rattle.lowered_rows.proofs.laws.rows_take.Goals as goal

pub returns-clause-inside : goal.returns-clause-inside
returns-clause-inside c = λ b edges i ty low e. row_inside b edges ty i low e

pub returns-clause-beyond : goal.returns-clause-beyond
returns-clause-beyond c = λ b edges i ty h. row_beyond b edges ty i h
