-- The parts of a test that says yes.
use Rattle.std.proofs.Common.{◌≡◌, Bool, true, ◌&&◌}
use Rattle.std.proofs.lemmas.Bool.{and_parts}

pub first_true : (a b : Bool) → (a && b) ≡ true → a ≡ true
first_true a b e = (and_parts a b e).0

pub last_true : (a b : Bool) → (a && b) ≡ true → b ≡ true
last_true a b e = (and_parts a b e).1
