use Rattle.std.proofs.Common.{◌≡◌, ◌++◌, take}
use Rattle.turn_traces.specs.Keeping.{named}
use Rattle.turn_traces.proofs.keeper.put_all.Given as goal

abbrev pub invariant-loop-what : goal.invariant-loop-what
invariant-loop-what l = l.items.items ≡ (l.initial.items.items ++ named l.t (take l.what-index l.whats.items))
