use Rattle.std.proofs.Common.{sym, ap, ◌∙◌}
use Rattle.std.specs.Option.{option_map}
use Rattle.vm_frames.specs.Frames.{exception_of}
use Rattle.vm_frames.proofs.Whole.{current_last}
use Rattle.vm_frames.proofs.frames.FrameStack.current.Goals as goal

pub returns : goal.returns
returns c = ap (option_map exception_of) c.last.ensures
    ∙ sym (current_last c.args.self.now.thread _ _ _ c.args.self.now.caught.base _ _ c.args.self.now.caught.items.items c.args.self.now.nested)
