use Rattle.std.proofs.Common.{arith}
use Rattle.vm_frames.proofs.frames.FrameStack.operate.Goals as goal

pub put-requires : goal.put-requires
put-requires c = c.take_off.ensures.room 1 (omega (arith, c.requires.words))
