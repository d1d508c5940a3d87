use Rattle.std.proofs.Common.{[], ap, ◌∙◌, arith}
use Rattle.vm_frames.specs.Stacks.{above}
use Rattle.vm_frames.proofs.Stacked.{above_none}
use Rattle.vm_frames.proofs.stack.Stack.new.Goals as goal

pub returns-clause-own : goal.returns-clause-own
returns-clause-own g c = ap (above 0) c.new.ensures.items ∙ above_none 0 [] (omega arith)
