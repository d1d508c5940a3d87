use Rattle.src_bind.specs.Bounds.{given}
use Rattle.src_frames.specs.Shown.{exit_shown}
use Rattle.src_thread.proofs.leaving.leave_at.Goals as goal

pub returns-in-End : goal.returns-in-End
returns-in-End c = rw c.in-End.is (c.leave_thread.ensures (exit_shown (given c.args.bound.now).program c.args.exit))
