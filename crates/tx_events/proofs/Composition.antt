-- The same events, twice over.
use Rattle.std.proofs.Common.{ℕ, ◌≡◌, ◌≤◌, ◌+◌, ◌*◌, sym, ap, ◌∙◌, subst, arith}
use Rattle.std.proofs.Math.Nat.{mul-le-mul_left, mul-add, mul_assoc}
use Rattle.tx_events.specs.Thread.{Thread}
use Rattle.tx_events.specs.Same.{SameEvents, StepsWithin, SameChildren, steps}

module _ {S T U : Type 0} (a : Thread S) (b : Thread T) (c : Thread U) (s : S) (r : T) (q : U) where
  pub same_events_compose : SameEvents a b s r → SameEvents b c r q → SameEvents a c s q
  same_events_compose f h = record {
    there = λ replies event loud x. h.there replies event loud (f.there replies event loud x);
    back = λ replies event loud x. f.back replies event loud (h.back replies event loud x);
  }

  bound : (k d k' d' n x y : ℕ) → x ≤ k * n + d → y ≤ k' * x + d' → y ≤ (k' * k) * n + (k' * d + d')
  bound k d k' d' n x y f h =
      let more = mul-le-mul_left k' f in
      let shared : k' * (k * n + d) ≡ k' * k * n + k' * d = mul-add k' (k * n) d ∙ ap (λ z. z + k' * d) (sym (mul_assoc k' k n)) in
      let less : k' * x ≤ k' * k * n + k' * d = subst (λ z. k' * x ≤ z) shared more in
      omega (arith, less, h)

  pub bounds_compose : (many more many' more' : ℕ) → SameEvents a b s r → StepsWithin a b many more s r → StepsWithin b c many' more' r q
      → StepsWithin a c (many' * many) (many' * more + more') s q
  bounds_compose many more many' more' same f h = λ replies event loud x z.
      let y = same.there replies event loud x in
      bound many more many' more' (steps a x.reaches) (steps b y.reaches) (steps c z.reaches) (f replies event loud x y) (h replies event loud y z)

-- both ways
module _ {S T : Type 0} (a : Thread S) (b : Thread T) where
  pub same_events_turn : (s : S) (r : T) → SameEvents a b s r → SameEvents b a r s
  same_events_turn s r f = record { there = f.back; back = f.there }

module _ {S T : Type 0} (a : Thread S) (b : Thread T) where
  pub same_children_turn : (main : S) (main' : T) → SameChildren a b main main' → SameChildren b a main' main
  same_children_turn main main' f = λ r s number func arg there here same second first.
      same_events_turn a b (a.child s number func arg) (b.child r number func arg)
      (f s r number func arg here there (same_events_turn b a r s same) first second)
