use Rattle.lowered_expressions.proofs.Passing.{binary_passes}
use Rattle.lowered_expressions.proofs.laws.operands_come_first.Goals as goal

pub returns : goal.returns
returns c = λ p b book h g chain s id d a i x j y op kind k. binary_passes p b book h g chain s id d a i x j y op kind k
