use Rattle.std.proofs.Common.{◌≡◌, length}
use Rattle.src_mean.specs.Source.{give}
use Rattle.src_frames.specs.Bounds.{here_of, frames_of, linked_in}
use Rattle.src_thread.proofs.giving.give.Given as goal

abbrev pub invariant-loop-frame : goal.invariant-loop-frame
invariant-loop-frame l = give (linked_in l.bound) (here_of l.bound l.state) l.value (frames_of l.bound l.state)
    ≡ give (linked_in l.bound) (here_of l.bound l.initial.state) l.initial.value (frames_of l.bound l.initial.state)

abbrev pub decreases-loop-frame : goal.decreases-loop-frame
decreases-loop-frame l = length l.state.frames.list.items
