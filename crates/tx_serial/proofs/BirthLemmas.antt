-- A change of one thread, and a new thread, keep the machine sound.
use Rattle.std.proofs.Common.{ℕ, ◌≡◌, ◌==◌, ◌<◌, ◌≤◌, ◌+◌, ◌⊎◌, inl, inr, true, false, refl, ap, sym, ◌∙◌, subst, [], Option, Some, None, arith}
use Rattle.std.proofs.lemmas.Bool.{eqb-true, eqb-false, false≢true}
use Rattle.tx_events.specs.Thread.{Thread, atomics}
use Rattle.tx_events.specs.Memory.{update, MemoryLayout}
use Rattle.tx_serial.specs.Machine.{Machine, Local, birth, birth_of, has_tx, tx_in}
use Rattle.tx_serial.specs.Turn.{bare}
use Rattle.tx_serial.specs.Sound.{SoundLocal, SoundThread, Sound}
use Rattle.tx_events.proofs.BlockRuns.{update_elsewhere}
use Rattle.tx_serial.proofs.UntouchedThreads.{at_update}
use Rattle.tx_serial.proofs.TurnContext.{not_true}

module _ {S : Type 0} (R : S → Type 0) (a : Thread S) (p : MemoryLayout) where
  module _ (m m' : Machine S) (t : ℕ) (l l' : Local S) (h : Sound R a p m) (is : m.threads t ≡ Some l) (threads : m'.threads ≡ update m.threads t (Some l'))
      (births : m.births ≤ m'.births)
      (kin : has_tx l'.tx ≡ true → ((has_tx l.tx ≡ true) × (birth l'.tx ≡ birth l.tx)) ⊎ ((birth l'.tx ≡ m.births) × (m.births < m'.births))) where
    own_birth : has_tx l'.tx ≡ true → birth l'.tx < m'.births
    own_birth e = elim (kin e) as (λ z. birth l'.tx < m'.births) [
      | inl i ↦ let less = h.drawn t (ap tx_in is ∙ i.0) in let at = ap birth_of is in let j = i.1 in omega (arith, less, at, j, births)
      | inr i ↦ let j = i.0 in let k = i.1 in omega (arith, j, k)
    ]

    not_same : (u : ℕ) → (u == t) ≡ false → has_tx l'.tx ≡ true → tx_in (m.threads u) ≡ true → birth l'.tx ≡ birth_of (m.threads u) → ⊥
    not_same u d e i j = elim (kin e) as (λ z. ⊥) [
      | inl k ↦ h.distinct t u d (ap tx_in is ∙ k.0) i (ap birth_of is ∙ (sym k.1 ∙ j))
      | inr k ↦ let less = h.drawn u i in let q = k.0 in omega (arith, less, q, j)
    ]

    pub sound_change : m'.started ≡ m.started → SoundLocal R a p l' → Sound R a p m'
    sound_change started shown = record {
      threads = λ u. subst (λ f. SoundThread R a p (f u)) (sym threads)
          (at_update a p (λ o. SoundThread R a p o) m.threads t u (Some l') (λ e. shown) (λ d. h.threads u));
      fresh = λ u i. subst (λ f. f u ≡ None) (sym threads) (at_update a p (λ o. o ≡ None) m.threads t u (Some l')
          (λ e. let q = ap m.threads (eqb-true u t e) in let r = h.fresh u (subst (λ n. n ≤ u) started i) in absurd (cc))
          (λ d. h.fresh u (subst (λ n. n ≤ u) started i)));
      drawn = λ u. subst (λ f. tx_in (f u) ≡ true → birth_of (f u) < m'.births) (sym threads)
          (at_update a p (λ o. tx_in o ≡ true → birth_of o < m'.births) m.threads t u (Some l')
          (λ e i. own_birth i)
          (λ d i. let less = h.drawn u i in omega (arith, less, births)));
      distinct = λ v u d. subst (λ f. tx_in (f v) ≡ true → tx_in (f u) ≡ true → birth_of (f v) ≡ birth_of (f u) → ⊥) (sym threads)
          (at_update a p
          (λ o. tx_in o ≡ true → tx_in (update m.threads t (Some l') u) ≡ true → birth_of o ≡ birth_of (update m.threads t (Some l') u) → ⊥) m.threads t v
          (Some l')
          (λ e. at_update a p (λ o. has_tx l'.tx ≡ true → tx_in o ≡ true → birth l'.tx ≡ birth_of o → ⊥) m.threads t u (Some l')
          (λ e'. absurd (eqb-false u v d (eqb-true u t e' ∙ sym (eqb-true v t e))))
          (λ d'. not_same u d'))
          (λ d'. at_update a p (λ o. tx_in (m.threads v) ≡ true → tx_in o ≡ true → birth_of (m.threads v) ≡ birth_of o → ⊥) m.threads t u (Some l')
          (λ e' i j k. not_same v d' j i (sym k))
          (λ e' i j k. h.distinct v u d i j k)));
    }

  -- the same threads, in another machine
  pub sound_same : (m m' : Machine S) → Sound R a p m → m'.threads ≡ m.threads → m'.started ≡ m.started → m'.births ≡ m.births → Sound R a p m'
  sound_same m m' h threads started births = record {
    threads = λ u. subst (λ f. SoundThread R a p (f u)) (sym threads) (h.threads u);
    fresh = λ u i. ap (λ f. f u) threads ∙ h.fresh u (subst (λ n. n ≤ u) started i);
    drawn = λ u i. subst (λ f. birth_of (f u) < m'.births) (sym threads)
        (subst (λ n. birth_of (m.threads u) < n) (sym births) (h.drawn u (sym (ap (λ f. tx_in (f u)) threads) ∙ i)));
    distinct = λ v u d i j k. h.distinct v u d (sym (ap (λ f. tx_in (f v)) threads) ∙ i) (sym (ap (λ f. tx_in (f u)) threads) ∙ j)
        (sym (ap (λ f. birth_of (f v)) threads) ∙ (k ∙ ap (λ f. birth_of (f u)) threads));
  }

  -- a new thread beside the others
  pub grown : (m : Machine S) (c : S) → Sound R a p m → R c → a.blocks c ≡ []
      → Sound R a p (record m { started = m.started + 1; threads = update m.threads m.started (Some (bare c)) })
  grown m c h reached none =
      let new : Option (Local S) = Some (bare c) in
      let n = m.started in
      record {
        threads = λ u. at_update a p (λ o. SoundThread R a p o) m.threads n u new
            (λ e. record {
              reached = reached;
              bounded = λ x i. absurd (false≢true i);
              holds = λ x i. absurd (false≢true i);
              tx = (ap atomics none, λ x. refl);
            }) (λ d. h.threads u);
        fresh = λ u i. update_elsewhere m.threads n new u (not_true (u == n) (λ e. let j = eqb-true u n e in absurd (omega (arith, i, j))))
            ∙ h.fresh u (omega (arith, i));
        drawn = λ u. at_update a p (λ o. tx_in o ≡ true → birth_of o < m.births) m.threads n u new (λ e i. absurd (false≢true i)) (λ d. h.drawn u);
        distinct = λ v u d. at_update a p
            (λ o. tx_in o ≡ true → tx_in (update m.threads n new u) ≡ true → birth_of o ≡ birth_of (update m.threads n new u) → ⊥) m.threads n v new
            (λ e i. absurd (false≢true i))
            (λ d'. at_update a p (λ o. tx_in (m.threads v) ≡ true → tx_in o ≡ true → birth_of (m.threads v) ≡ birth_of o → ⊥) m.threads n u new
            (λ e i j. absurd (false≢true j)) (λ d2. h.distinct v u d));
      }
