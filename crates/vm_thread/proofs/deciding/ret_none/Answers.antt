use Rattle.std.proofs.Common.{sym}
use Rattle.vm_frames.specs.FrameStacks.{top_of, rest_of}
use Rattle.vm_frames.proofs.Below.{returns}
use Rattle.vm_thread.proofs.deciding.ret_none.Goals as goal

pub returns-else-is_outermost : goal.returns-else-is_outermost
returns-else-is_outermost c = returns (top_of c.args.frames.now) (rest_of c.args.frames.now) (top_of c.args.frames.now).home (sym c.if-is_outermost.ensures)
