use Rattle.std.proofs.Common.{◌≤◌, ◌+◌}
use Rattle.src_bind.specs.Bounds.{given}
use Rattle.src_replay.specs.Shown.{Ran}
use Rattle.src_replay.proofs.replaying.replay.Given as goal

-- the entries before this one were taken
abbrev pub invariant-loop-i : goal.invariant-loop-i
invariant-loop-i l = record {
  left : l.world.left + l.i ≤ l.most;
  ran : Ran (given l.bound) l.input l.order l.most l.i l.world;
}
