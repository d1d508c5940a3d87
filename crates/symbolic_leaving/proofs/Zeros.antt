-- Decisions on words of which it is known, or not, whether they are 0.
use Rattle.std.proofs.Common.{◌≡◌, Bool, cond, refl, ap}
use Rattle.std.specs.Prelude.{Some, None, ◌==◌, ◌%◌, ◌^◌}
use Rattle.symbolic_source.specs.Terms.{Term, number, variable, local, global, function, table, slot_function, sum, product, before, low_byte, converted_to, result, field}
use Rattle.symbolic_source.specs.Outcomes.{Outcome, either, chooses}
use Rattle.symbolic_leaving.specs.Left.{known_zero}

pub either_known : (w : Term) (zero other : Outcome) (answer : Bool) → known_zero w ≡ Some answer → either w zero other ≡ cond answer zero other
either_known (number n) zero other answer h = let is : (n % 2 ^ 64 == 0) ≡ answer = cc in ap (λ z. cond z zero other) is
either_known (variable n) zero other answer h = absurd cc
either_known (local n) zero other answer h = absurd cc
either_known (global n) zero other answer h = absurd cc
either_known (function n) zero other answer h = absurd cc
either_known (table n) zero other answer h = absurd cc
either_known (slot_function class slot a) zero other answer h = absurd cc
either_known (sum a b) zero other answer h = absurd cc
either_known (product a b) zero other answer h = absurd cc
either_known (before a) zero other answer h = absurd cc
either_known (low_byte a) zero other answer h = absurd cc
either_known (converted_to kind a) zero other answer h = absurd cc
either_known (result op kind a b) zero other answer h = absurd cc
either_known (field e offset size) zero other answer h = absurd cc

pub either_open : (w : Term) (zero other : Outcome) → known_zero w ≡ None → either w zero other ≡ chooses w zero other
either_open (number n) zero other h = absurd cc
either_open (variable n) zero other h = refl
either_open (local n) zero other h = refl
either_open (global n) zero other h = refl
either_open (function n) zero other h = refl
either_open (table n) zero other h = refl
either_open (slot_function class slot a) zero other h = refl
either_open (sum a b) zero other h = refl
either_open (product a b) zero other h = refl
either_open (before a) zero other h = refl
either_open (low_byte a) zero other h = refl
either_open (converted_to kind a) zero other h = refl
either_open (result op kind a b) zero other h = refl
either_open (field e offset size) zero other h = refl
