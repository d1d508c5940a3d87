use Rattle.src_bind.specs.Bounds.{given}
use Rattle.src_frames.proofs.state.State.put_waiting.Goals as goal

pub returns-clause-frames : goal.returns-clause-frames
returns-clause-frames c = c.put_waiting.ensures (given c.args.bound.now)
