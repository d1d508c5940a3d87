-- Maps that were changed, and worlds in which one thread has gone on.
use Rattle.std.proofs.Common.{ℕ, ℤ, pos, negsuc, ◌≡◌, ◌==◌, Bool, true, false, cond, ◌||◌, Option, None, refl, ap, sym, ◌∙◌}
use Rattle.std.proofs.Math.Path.{fun_ext}
use Rattle.std.proofs.lemmas.Bool.{eq-eqb, eqb-true, false≢true}
use Rattle.tx_events.specs.declared.Event.{Event}
use Rattle.tx_events.specs.declared.Event.TheVariants.{Silent, Load, Store, Out, Inp, Spawn, Join, BeginAtomic, EndAtomic, Raise, BeginSync, EndSync, Done}
use Rattle.tx_events.specs.declared.Event.TheVariants.{Stop}
use Rattle.tx_events.specs.Memory.{update}
use Rattle.tx_events.specs.Thread.{is_silent}
use Rattle.tx_events.specs.World.{World, Alive, alive, goes, target}
use Rattle.src_replay.specs.Entries.{is_enabled, is_joinable}

module _ {A : Type 0} where
  pub update_at : (f : ℕ → A) (t : ℕ) (v : A) → update f t v t ≡ v
  update_at f t v = ap (λ b. cond b v (f t)) (eq-eqb t t refl)

  pub update_twice : (f : ℕ → A) (t : ℕ) (u v : A) → update (update f t u) t v ≡ update f t v
  update_twice f t u v = fun_ext (λ x. elim (x == t) as (λ b. cond b v (cond b u (f x)) ≡ cond b v (f x)) [ true ↦ refl | false ↦ refl ])

  pub update_between : (f : ℕ → A) (t n : ℕ) (u c v : A) → update (update (update f t u) n c) t v ≡ update (update f n c) t v
  update_between f t n u c v = fun_ext (λ x. elim (x == t) as (λ b. cond b v (cond (x == n) c (cond b u (f x))) ≡ cond b v
      (cond (x == n) c (f x))) [ true ↦ refl | false ↦ refl ])

-- a thread does not join itself
other : {A : Type 0} (z b : Bool) (v o : Option A) → cond (z || b) None (cond b v o) ≡ cond (z || b) None o
other true b v o = refl
other false true v o = refl
other false false v o = refl

pub target_same : {A : Type 0} (t : ℕ) (id : ℤ) (f : ℕ → Option A) (v : Option A) → target t id (update f t v) ≡ target t id f
target_same t (pos n) f v = other (n == 0) (n == t) v (f n)
target_same t (negsuc n) f v = refl

module _ {S : Type 0} where
  -- whether an event is enabled does not tell where the thread itself is
  pub enabled_same : (t : ℕ) (w : World S) (s : S) (e : Event) → is_enabled t (goes t w s) e ≡ is_enabled t w e
  enabled_same t w s (Join id) = ap is_joinable (target_same t id w.threads (alive s))
  enabled_same t w s (BeginAtomic kind) = refl
  enabled_same t w s BeginSync = refl
  enabled_same t w s (Load addr size volatile) = refl
  enabled_same t w s (Store addr size value volatile) = refl
  enabled_same t w s (Out byte) = refl
  enabled_same t w s Inp = refl
  enabled_same t w s (Spawn func arg) = refl
  enabled_same t w s EndSync = refl
  enabled_same t w s Done = refl
  enabled_same t w s (Stop end) = refl
  enabled_same t w s Silent = refl
  enabled_same t w s EndAtomic = refl
  enabled_same t w s (Raise kind cancels) = refl

  pub goes_twice : (t : ℕ) (w : World S) (s r : S) → goes t (goes t w s) r ≡ goes t w r
  goes_twice t w s r = ap (λ f. record w { threads = f }) (update_twice w.threads t (alive s) (alive r))

  pub goes_same : (t : ℕ) (w : World S) (s : S) → w.threads t ≡ alive s → goes t w s ≡ w
  goes_same t w s e = ap (λ f. record w { threads = f }) (fun_ext (λ x. at x (x == t) refl))
    where
      at : (x : ℕ) (b : Bool) → (x == t) ≡ b → cond b (alive s) (w.threads x) ≡ w.threads x
      at x true q = sym e ∙ ap w.threads (sym (eqb-true x t q))
      at x false q = refl

  -- a change of the world beside its threads, and the thread goes on
  pub moved : (t : ℕ) (w : World S) (s r : S) (x y : World S) (change : World S → World S) → x ≡ goes t w s → y ≡ goes t (change x) r
      → ((f : ℕ → Option (Alive S)) → goes t (change (record w { threads = f })) r ≡ record (change w) { threads = update f t (alive r) })
      → y ≡ record (change w) { threads = update w.threads t (alive r) }
  moved t w s r x y change e h c =
      h ∙ (ap (λ z. goes t (change z) r) e ∙ (c (update w.threads t (alive s)) ∙ ap (λ f. record (change w) { threads = f })
      (update_twice w.threads t (alive s) (alive r))))

pub silent_is : (e : Event) → is_silent e ≡ true → e ≡ Silent
silent_is Silent h = refl
silent_is (Load addr size volatile) h = absurd (false≢true h)
silent_is (Store addr size value volatile) h = absurd (false≢true h)
silent_is (Out byte) h = absurd (false≢true h)
silent_is Inp h = absurd (false≢true h)
silent_is (Spawn func arg) h = absurd (false≢true h)
silent_is (Join id) h = absurd (false≢true h)
silent_is (BeginAtomic kind) h = absurd (false≢true h)
silent_is EndAtomic h = absurd (false≢true h)
silent_is (Raise kind cancels) h = absurd (false≢true h)
silent_is BeginSync h = absurd (false≢true h)
silent_is EndSync h = absurd (false≢true h)
silent_is Done h = absurd (false≢true h)
silent_is (Stop end) h = absurd (false≢true h)
