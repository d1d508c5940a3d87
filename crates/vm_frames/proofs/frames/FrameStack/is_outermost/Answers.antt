use Rattle.std.proofs.Common.{arith, ◌∙◌}
use Rattle.vm_frames.proofs.Below.{outermost_shown}
use Rattle.vm_frames.proofs.frames.FrameStack.is_outermost.Goals as goal

pub returns : goal.returns
returns c = c.is_empty.ensures ∙ outermost_shown c.args.self.now.thread _ c.args.self.now.below.items _ _ _ (omega arith)
