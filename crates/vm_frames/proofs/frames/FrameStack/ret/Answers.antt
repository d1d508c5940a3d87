use Rattle.std.proofs.Common.{arith}
use Rattle.vm_frames.proofs.frames.FrameStack.ret.Goals as goal

pub put-requires : goal.put-requires
put-requires c = c.leave.ensures.room 1 (omega (arith, c.requires.words))
