use Rattle.std.proofs.Common.{◌≡◌, ◌≤◌, ◌+◌, drop}
use Rattle.elab_call.specs.Slots.{places_before}
use Rattle.elab_call.proofs.slots.count_before.Given as goal

abbrev pub invariant-loop-found : goal.invariant-loop-found
invariant-loop-found l = record {
  low : l.count ≤ l.found-index;
  is : l.count + places_before l.place (drop l.found-index l.places) ≡ places_before l.place l.places;
}
