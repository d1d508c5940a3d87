use Rattle.std.proofs.Common.{◌≡◌, replicate}
use Rattle.code_walk.specs.Waiting.{bare_slot}
use Rattle.code_walk.proofs.slots.bare_slots.Given as goal

abbrev pub invariant-loop : goal.invariant-loop
invariant-loop l = l.slots.items ≡ replicate l.counter bare_slot
