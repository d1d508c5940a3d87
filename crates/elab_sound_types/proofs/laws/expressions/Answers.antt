use Rattle.elab_sound_types.proofs.Expressions.{expressions_law, operands_law}
use Rattle.elab_sound_types.proofs.laws.expressions.Goals as goal

pub returns-clause-expressions : goal.returns-clause-expressions
returns-clause-expressions c = expressions_law

pub returns-clause-operands : goal.returns-clause-operands
returns-clause-operands c = operands_law
