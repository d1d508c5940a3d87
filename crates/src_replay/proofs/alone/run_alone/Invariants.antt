use Rattle.std.proofs.Common.{◌≤◌, ◌+◌, ◌*◌}
use Rattle.src_bind.specs.Bounds.{given}
use Rattle.src_replay.specs.Turns.{steps_of, RanAlone}
use Rattle.src_replay.proofs.alone.run_alone.Given as goal

-- the entries so far were taken, and each took a unit and no more turns than there may be threads
abbrev pub invariant-entries : goal.invariant-entries
invariant-entries l = record {
  left : l.world.left ≤ l.most;
  early : l.turn + 256 * l.world.left ≤ 256 * l.most;
  ran : RanAlone (given l.bound) l.input l.order.items l.most l.turn l.world (steps_of l.ahead) l.events.items;
}

abbrev pub decreases-entries : goal.decreases-entries
decreases-entries l = l.world.left
