use Rattle.src_bind.specs.Bounds.{given}
use Rattle.std.proofs.Common.{ap, ◌∙◌}
use Rattle.src_frames.proofs.Stacks.{shown_pop, shown_none}
use Rattle.src_frames.specs.Shown.{frames_shown}
use Rattle.src_thread.proofs.stack.pop_frame.Goals as goal

pub returns-in-Some-clause-frames : goal.returns-in-Some-clause-frames
returns-in-Some-clause-frames c = shown_pop
    (given c.args.bound.now) c.args.state.now.frames.list.items c.pop.new.self.list.items c.in-Some.frame c.in-Some.ensures

pub returns-in-None-clause-frames : goal.returns-in-None-clause-frames
returns-in-None-clause-frames c = ap (frames_shown (given c.args.bound.now)) (c.in-None.ensures).0 ∙ shown_none (given c.args.bound.now)

pub returns-in-None-clause-none : goal.returns-in-None-clause-none
returns-in-None-clause-none c = ap (frames_shown (given c.args.bound.now)) (c.in-None.ensures).1 ∙ shown_none (given c.args.bound.now)
