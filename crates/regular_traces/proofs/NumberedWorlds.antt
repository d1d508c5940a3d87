-- In a world to which an order replays the threads that are started have the first numbers.
use Rattle.std.proofs.Common.{ℕ, zero, suc, ◌≡◌, ◌==◌, ◌<◌, ◌≤◌, ◌+◌, Bool, true, false, cond, refl, sym, subst, List, Option, Some, arith}
use Rattle.std.proofs.lemmas.Bool.{eqb-true}
use Rattle.std.proofs.lemmas.Option.{none-some}
use Rattle.tx_events.specs.declared.End.{End}
use Rattle.tx_events.specs.Memory.{update}
use Rattle.tx_events.specs.World.{Alive, World, ends, first_world, only_first}

-- threads of numbers below n alone
abbrev pub Below : {S : Type 0} → (ℕ → Option (Alive S)) → ℕ → Type 0
Below {S} f n = (u : ℕ) (s : Alive S) → f u ≡ Some s → u < n

pub record Numbered {S : Type 0} (w : World S) : Type 0 where
  pub few : w.started ≤ 64
  pub below : Below w.threads w.started

pub updated : {S : Type 0} (f : ℕ → Option (Alive S)) (t n : ℕ) (o : Option (Alive S)) → t < n → Below f n → Below (update f t o) n
updated f t n o lt h u s e = by_thread (u == t) refl e
  where
    by_thread : (b : Bool) → (u == t) ≡ b → cond b o (f u) ≡ Some s → u < n
    by_thread true is i = let same = eqb-true u t is in omega (arith, same, lt)
    by_thread false is i = h u s i

pub more : {S : Type 0} (f : ℕ → Option (Alive S)) (n : ℕ) → Below f n → Below f (n + 1)
more f n h u s e = let lt = h u s e in omega (arith, lt)

module _ {S : Type 0} (w v : World S) (h : Numbered w) where
  -- thread t goes on or ends
  pub moved : (t : ℕ) (o : Option (Alive S)) → t < w.started → v.threads ≡ update w.threads t o → v.started ≡ w.started → Numbered v
  moved t o lt e s = record {
    few = subst (λ z. z ≤ 64) (sym s) h.few;
    below = subst (λ z. Below v.threads z) (sym s) (subst (λ f. Below f w.started) (sym e) (updated w.threads t w.started o lt h.below));
  }

  pub ended : (end : End) → v ≡ ends w end → Numbered v
  ended end e = subst Numbered (sym e) (record { few = h.few; below = h.below })

pub start : {S : Type 0} (memory : ℕ → ℕ) (input : List ℕ) (main : S) → Numbered (first_world memory input main)
start {S} memory input main = record { few = omega arith; below = λ u s e. by_number u s e }
  where
    by_number : (u : ℕ) (s : Alive S) → only_first main u ≡ Some s → u < 1
    by_number zero s e = omega arith
    by_number (suc u) s e = absurd (none-some s e)
