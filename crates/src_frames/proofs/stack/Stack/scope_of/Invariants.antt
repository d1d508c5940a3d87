use Rattle.std.proofs.Common.{◌≡◌, ◌≤◌, ◌++◌, length, take, drop}
use Rattle.src_mean.specs.Frames.{Waiting, puts}
use Rattle.src_bind.specs.Tables.{Given}
use Rattle.src_frames.specs.Shown.{frames_shown, owner_shown}
use Rattle.src_frames.proofs.stack.Stack.scope_of.Given as goal

abbrev pub invariant-loop-left : goal.invariant-loop-left
invariant-loop-left l = record {
  within : l.left ≤ length l.self.list.items;
  passed : (g : Given) (w : Waiting) → puts (owner_shown l.owner) w (frames_shown g l.self.list.items) ≡ frames_shown g (drop l.left l.self.list.items)
      ++ puts (owner_shown l.owner) w (frames_shown g (take l.left l.self.list.items));
}

abbrev pub decreases-loop-left : goal.decreases-loop-left
decreases-loop-left l = l.left
