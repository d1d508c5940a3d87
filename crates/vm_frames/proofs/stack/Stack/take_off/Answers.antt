use Rattle.std.proofs.Common.{ap, ◌∙◌, arith}
use Rattle.vm_frames.specs.Stacks.{above}
use Rattle.vm_frames.proofs.Stacked.{taken_off, all_off}
use Rattle.vm_frames.proofs.stack.Stack.take_off.Goals as goal

pub returns-then-own-count-clause-own : goal.returns-then-own-count-clause-own
returns-then-own-count-clause-own g c =
    ap (above c.args.self.now.base) c.truncate.ensures.items ∙ all_off c.args.self.now.base c.args.count c.args.self.now.items.items (omega arith) (omega arith)

pub returns-else-own-count-clause-own : goal.returns-else-own-count-clause-own
returns-else-own-count-clause-own g c =
    ap (above c.args.self.now.base) c.truncate-else-own-count.ensures.items
    ∙ taken_off c.args.self.now.base c.args.count _ c.args.self.now.items.items (omega arith) (omega arith)
