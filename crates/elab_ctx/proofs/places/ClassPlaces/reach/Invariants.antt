use Rattle.std.proofs.Common.{◌≡◌, ℕ}
use Rattle.elab_ctx.specs.Places.{places_in}
use Rattle.elab_ctx.proofs.places.ClassPlaces.reach.Given as goal

abbrev pub invariant-loop : goal.invariant-loop
invariant-loop l = (n : ℕ) → places_in l.self n ≡ places_in l.initial.self n
