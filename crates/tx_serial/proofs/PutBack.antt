-- The world's memory is the machine's with every open or giving-up transaction put back.
use Rattle.std.proofs.Common.{ℕ, zero, suc, ◌≡◌, ◌==◌, ◌<◌, Bool, true, false, refl, ap, sym, ◌∙◌, Option, Some, None, arith}
use Rattle.std.specs.Prelude.{◌&&◌}
use Rattle.std.proofs.lemmas.Bool.{eqb-true, eqb-false, true≢false, false≢true, cases_lt}
use Rattle.std.proofs.Common.{inl, inr}
use Rattle.tx_events.specs.Thread.{Thread}
use Rattle.tx_events.specs.Memory.{MemoryLayout}
use Rattle.tx_events.specs.World.{World, Alive, Lock}
use Rattle.tx_serial.specs.Machine.{Local, Tx, NoTx, OpenTx, GivingUp, Closing, kept_or, oldest, held_by, wrote_by, is_live, live_in, eldest}
use Rattle.tx_serial.specs.Shows.{ShowsTx, ShowsThread, saves_of, put_back_by, put_back}
use Rattle.tx_serial.proofs.WorldAgreement.{undoes, Going}
use Rattle.tx_serial.proofs.SearchLemmas.{eldest_none, eldest_some, eldest_below}
use Rattle.tx_serial.proofs.SavepointLevels.{bottom, none_oldest}
use Rattle.tx_serial.proofs.TurnContext.{and_false, not_true, based}

module _ {S : Type 0} (threads : ℕ → Option (Local S)) (x : ℕ) where
  abbrev Same : ℕ → Type 0
  Same u = (v : ℕ) → put_back_by (threads u) x v ≡ v

  -- where no transaction changes the word
  all_same : (n : ℕ) → ((u : ℕ) → Same u) → (v : ℕ) → put_back threads n x v ≡ v
  all_same zero h v = refl
  all_same (suc n) h v = ap (put_back_by (threads n) x) (all_same n h v) ∙ h n v

  -- and where only that of thread k does
  but_one : (n k : ℕ) → k < n → ((u : ℕ) → (u == k) ≡ false → Same u) → (v : ℕ) → put_back threads n x v ≡ put_back_by (threads k) x v
  but_one zero k less h v = absurd (omega (arith, less))
  but_one (suc n) k less h v = elim (n == k) as (λ b. (n == k) ≡ b → put_back threads (suc n) x v ≡ put_back_by (threads k) x v) [
    | true ↦ λ e. ap (put_back_by (threads n) x) (below n (λ u i. h u (apart u n k (eqb-true n k e) i)))
        ∙ ap (λ z. put_back_by (threads z) x v) (eqb-true n k e)
    | false ↦ λ d. let other = eqb-false n k d in h n d (put_back threads n x v) ∙ but_one n k (omega (arith, less, other)) h v
  ] refl
    where
      below : (c : ℕ) → ((u : ℕ) → u < c → Same u) → put_back threads c x v ≡ v
      below zero g = refl
      below (suc c) g = ap (put_back_by (threads c) x) (below c (λ u i. g u (omega (arith, i)))) ∙ g c (omega arith) v

      apart : (u c k : ℕ) → c ≡ k → u < c → (u == k) ≡ false
      apart u c k e i = not_true (u == k) (λ j. let q = eqb-true u k j in absurd (omega (arith, e, i, q)))

module _ {S : Type 0} (a : Thread S) (p : MemoryLayout) (memory outside : ℕ → ℕ) where
  -- a thread that has no live transaction that wrote the word
  same_tx : (x : ℕ) (start : S) (l : Local S) (tx : Tx S) → l.tx ≡ tx → ShowsTx a p memory outside start l tx → undoes (Some l) x ≡ false → (v : ℕ)
      → kept_or (oldest (saves_of tx) x) v ≡ v
  same_tx x start l NoTx e f h v = refl
  same_tx x start l (Closing b) e f h v = refl
  same_tx x start l (OpenTx b k ss) e f h v = ap (λ o. kept_or o v) (none_oldest x ss (f.unsaved x (sym (ap (λ z. is_live z && l.wrote x) e) ∙ h)))
  same_tx x start l (GivingUp b k ss) e f h v = ap (λ o. kept_or o v) (f.unsaved x (sym (ap (λ z. is_live z && l.wrote x) e) ∙ h))

  same_thread : (x : ℕ) (o : Option (Local S)) (s : Option (Alive S)) → ShowsThread a p memory outside o s → undoes o x ≡ false → (v : ℕ)
      → put_back_by o x v ≡ v
  same_thread x None s f h v = refl
  same_thread x (Some l) None f h v = absurd f
  same_thread x (Some l) (Some s) f h v = same_tx x s.state l l.tx refl f.tx h v

  -- and one that has
  back_tx : (x : ℕ) (start : S) (l : Local S) (tx : Tx S) → l.tx ≡ tx → ShowsTx a p memory outside start l tx → l.held x ≡ true → is_live tx ≡ true
      → outside x ≡ kept_or (oldest (saves_of tx) x) (memory x)
  back_tx x start l NoTx e f h i = absurd (false≢true i)
  back_tx x start l (Closing b) e f h i = absurd (false≢true i)
  back_tx x start l (OpenTx b k ss) e f h i = sym (based a p k outside f.run x (memory x)) ∙ bottom x (memory x) ss f.inner.copies (f.levels x h)
  back_tx x start l (GivingUp b k ss) e f h i = f.undone x h

  both : (c d : Bool) → (c && d) ≡ true → (c ≡ true) × (d ≡ true)
  both true d e = (refl, e)
  both false d e = absurd (false≢true e)

  back_thread : (x : ℕ) (o : Option (Local S)) (s : Option (Alive S)) → ShowsThread a p memory outside o s → undoes o x ≡ true
      → outside x ≡ put_back_by o x (memory x)
  back_thread x None s f h = absurd (false≢true h)
  back_thread x (Some l) None f h = absurd f
  back_thread x (Some l) (Some s) f h = let live = both (is_live l.tx) (l.wrote x) h in back_tx x s.state l l.tx refl f.tx (f.holds x live.1) live.0

  holds_written : (x : ℕ) (o : Option (Local S)) (s : Option (Alive S)) → ShowsThread a p memory outside o s → held_by o x ≡ false → undoes o x ≡ false
  holds_written x None s f h = refl
  holds_written x (Some l) None f h = absurd f
  holds_written x (Some l) (Some s) f h = ap (λ c. is_live l.tx && c) (not_true (l.wrote x) (λ i. true≢false (sym (f.holds x i) ∙ h)))
      ∙ and_false (is_live l.tx)

module _ {S : Type 0} (a : Thread S) (p : MemoryLayout) (memory : ℕ → ℕ) (threads : ℕ → Option (Local S)) (started : ℕ) (lock : Lock) (w : World S)
    (g : Going a p memory threads started lock w) where
  pub memory_put_back : (x : ℕ) → w.memory x ≡ put_back threads started x (memory x)
  memory_put_back x = by_found (eldest (λ u. undoes (threads u) x) (λ u. u) started) refl
    where
      none_beyond : (u : ℕ) → threads u ≡ None → undoes (threads u) x ≡ false
      none_beyond u e = ap (λ o. undoes o x) e

      by_found : (o : Option ℕ) → eldest (λ u. undoes (threads u) x) (λ u. u) started ≡ o → w.memory x ≡ put_back threads started x (memory x)
      by_found None e =
          let no_one : (u : ℕ) → undoes (threads u) x ≡ false = λ u. elim (cases_lt u started) as (λ z. undoes (threads u) x ≡ false) [
            | inl i ↦ eldest_none (λ v. undoes (threads v) x) (λ v. v) started e u i
            | inr i ↦ none_beyond u (g.fresh u i)
          ] in
          g.free x no_one
          ∙ sym (all_same threads x started (λ u. same_thread a p memory w.memory x (threads u) (w.threads u) (g.shown u) (no_one u)) (memory x))
      by_found (Some k) e =
          let writes = eldest_some (λ v. undoes (threads v) x) (λ v. v) started k e in
          let less = eldest_below (λ v. undoes (threads v) x) (λ v. v) started k e in
          let wrote = (both a p memory w.memory (live_in (threads k)) (wrote_by (threads k) x) writes).1 in
          back_thread a p memory w.memory x (threads k) (w.threads k) (g.shown k) writes
          ∙ sym (but_one threads x started k less (λ u d. same_thread a p memory w.memory x (threads u) (w.threads u) (g.shown u)
          (holds_written a p memory w.memory x (threads u) (w.threads u) (g.shown u) (g.apart k u x d wrote))) (memory x))
