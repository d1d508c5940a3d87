use Rattle.std.proofs.Common.{◌∙◌, ap}
use Rattle.std.specs.Prelude.{option_map}
use Rattle.src_bind.specs.Bounds.{given}
use Rattle.src_frames.specs.Shown.{exception_shown}
use Rattle.src_frames.proofs.Handlers.{newest_shown}
use Rattle.src_frames.proofs.state.State.handled.Goals as goal

pub returns : goal.returns
returns c = ap (option_map (exception_shown (given c.args.bound.now).program)) c.handled.ensures
    ∙ newest_shown (given c.args.bound.now) c.args.self.now.frames.list.items
