use Rattle.elab_fits_expressions.proofs.Expressions.{of_expression, of_operands, chosen_law}
use Rattle.elab_fits_expressions.proofs.Fields.{fields_agree}
use Rattle.elab_fits_expressions.proofs.Rows.{all_rows}
use Rattle.elab_fits_expressions.proofs.laws.expressions.Goals as goal

pub returns-clause-fields : goal.returns-clause-fields
returns-clause-fields c = fields_agree

pub returns-clause-rows : goal.returns-clause-rows
returns-clause-rows c = all_rows

pub returns-clause-expressions : goal.returns-clause-expressions
returns-clause-expressions c = of_expression

pub returns-clause-chosen : goal.returns-clause-chosen
returns-clause-chosen c = chosen_law

pub returns-clause-operands : goal.returns-clause-operands
returns-clause-operands c = of_operands
