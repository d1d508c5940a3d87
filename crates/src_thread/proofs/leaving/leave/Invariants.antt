use Rattle.std.proofs.Common.{◌≡◌, length}
use Rattle.src_mean.specs.Source.{leave}
use Rattle.src_bind.specs.Bounds.{given}
use Rattle.src_frames.specs.Shown.{exit_shown}
use Rattle.src_frames.specs.Bounds.{here_of, frames_of}
use Rattle.src_thread.proofs.leaving.leave.Given as goal

abbrev pub invariant-loop-frame : goal.invariant-loop-frame
invariant-loop-frame l = leave (here_of l.bound l.state) (exit_shown (given l.bound).program l.exit) (frames_of l.bound l.state)
    ≡ leave (here_of l.bound l.initial.state) (exit_shown (given l.bound).program l.exit) (frames_of l.bound l.initial.state)

abbrev pub decreases-loop-frame : goal.decreases-loop-frame
decreases-loop-frame l = length l.state.frames.list.items
