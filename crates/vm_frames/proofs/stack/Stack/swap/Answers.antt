use Rattle.std.proofs.Common.{arith}
use Rattle.vm_frames.proofs.stack.Stack.swap.Goals as goal

pub push-requires : goal.push-requires
push-requires g c = c.take_off.ensures.room 1 (omega arith)

pub push-requires-in-Some : goal.push-requires-in-Some
push-requires-in-Some g c = c.push.ensures.room 1 (c.take_off.ensures.room 2 c.requires)
