use Rattle.elab_sound_types.proofs.Zeros.{zeros_law, operand_zeros_law}
use Rattle.elab_sound_types.proofs.laws.zeros.Goals as goal

pub returns-clause-expressions : goal.returns-clause-expressions
returns-clause-expressions c = zeros_law

pub returns-clause-operands : goal.returns-clause-operands
returns-clause-operands c = operand_zeros_law
