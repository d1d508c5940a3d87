use Rattle.std.proofs.Common.{◌∙◌, ap, sym}
use Rattle.std.specs.Prelude.{◌==◌}
use Rattle.src_bind.specs.Bounds.{given}
use Rattle.src_frames.proofs.Counts.{counted}
use Rattle.src_frames.proofs.state.State.has_no_atomic.Goals as goal

pub returns : goal.returns
returns c = ap (λ z. z == 0) c.args.self.now.frames.counted ∙ sym (counted (given c.args.bound.now) c.args.self.now.frames.list.items)
