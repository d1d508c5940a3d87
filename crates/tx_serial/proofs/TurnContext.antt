-- What is known where a thread takes a turn.
use Rattle.std.proofs.Common.{ℕ, ◌≡◌, ◌==◌, inl, inr, Bool, true, false, cond, refl, ap, sym, ◌∙◌, subst, List, [], ◌∷◌, ◌++◌, Option, Some, None}
use Rattle.std.specs.Prelude.{not, ◌&&◌}
use Rattle.std.proofs.lemmas.Bool.{eqb-true, true≢false, false≢true, cases_lt}
use Rattle.tx_events.specs.declared.End.{End}
use Rattle.tx_events.specs.declared.BlockKind.{BlockKind}
use Rattle.tx_events.specs.declared.BlockKind.TheVariants.{NoExcept, Commit, Cancel}
use Rattle.tx_events.specs.declared.Event.{Event}
use Rattle.tx_events.specs.declared.Event.TheVariants.{
  Silent,
  Load,
  Store,
  Out,
  Inp,
  Spawn,
  Join,
  BeginAtomic,
  EndAtomic,
  Raise,
  BeginSync,
  EndSync,
  Done,
  Stop,
}
use Rattle.tx_events.specs.Thread.{Thread}
use Rattle.tx_events.specs.Memory.{update, MemoryLayout, can_access, word_bound}
use Rattle.tx_events.specs.Alone.{BlockStep, Goes, Leaves, Halts, Never, is_over, Inner, Inside, at_start, goes_on, inner_by, leave, raise, newest, begin}
use Rattle.tx_events.specs.World.{Alive, alive, World, lock_free, holder_free, Step, Replays, EventStep, BlockEffect, SilentSteps, ends}
use Rattle.tx_serial.specs.Machine.{
  Machine,
  Local,
  OpenTx,
  Save,
  no_save,
  held_by,
  wrote_by,
  is_live,
  live_in,
  conflicts_with,
  blocker,
  busy,
  birth_of,
  least,
  eldest,
}
use Rattle.tx_serial.specs.Turn.{Turned, halts}
use Rattle.tx_serial.specs.Shows.{cancelling, LevelsAt, Began, InBlock, ShowsLocal, ShowsThread}
use Rattle.tx_serial.proofs.WorldAgreement.{undoes, Going, Agreed}
use Rattle.tx_events.proofs.BlockRuns.{OnGoes, on_either, AllAt, unstored}
use Rattle.tx_serial.proofs.SavepointLevels.{levels_new, last_at}
use Rattle.tx_serial.proofs.SearchLemmas.{eldest_none}
use Rattle.tx_serial.proofs.UntouchedThreads.{apart_sym, one_step_more, at_update}

pub and_false : (b : Bool) → (b && false) ≡ false
and_false true = refl
and_false false = refl

-- one or the other
pub not_true : (b : Bool) → (b ≡ true → ⊥) → b ≡ false
not_true true f = absurd (f refl)
not_true false f = refl

lands_over : {S : Type 0} (t : ℕ) (w v : World S) (y : BlockStep S) → BlockEffect t w y v → is_over y ≡ true
lands_over t w v (Goes i) h = absurd h
lands_over t w v (Leaves s m) h = refl
lands_over t w v (Halts e) h = refl
lands_over t w v Never h = absurd h

module _ {S : Type 0} (a : Thread S) (p : MemoryLayout) where
  -- the oldest copy is the memory from which the block began
  abbrev Based : (ℕ → ℕ) → ℕ → Inner S → Type 0
  Based m x i = (d : ℕ) → last_at i.copies x d ≡ m x

  leave_based : (m : ℕ → ℕ) (x : ℕ) (j : Inner S) (q : ℕ → ℕ) (cs : List (ℕ → ℕ)) → ((d : ℕ) → last_at cs x d ≡ m x) → OnGoes (Based m x) (leave a j q cs)
  leave_based m x j q [] f = tt
  leave_based m x j q (c ∷ []) f = tt
  leave_based m x j q (c ∷ d ∷ cs) f = f

  raise_based : (m : ℕ → ℕ) (x : ℕ) (j : Inner S) (kind : BlockKind) (can : Bool) → Based m x j → OnGoes (Based m x) (raise a j kind can)
  raise_based m x j NoExcept can f = tt
  raise_based m x j Commit can f = leave_based m x j j.memory j.copies f
  raise_based m x j Cancel true f = leave_based m x j (newest j.copies j.memory) j.copies f
  raise_based m x j Cancel false f = tt

  based_by : (m : ℕ → ℕ) (x : ℕ) (j : Inner S) (e : Event) → Based m x j → OnGoes (Based m x) (inner_by a p j e)
  based_by m x j Silent f = f
  based_by m x j (Load addr size vol) f = on_either (Based m x) (can_access p addr size) _ _ f
  based_by m x j (Store addr size value vol) f = on_either (Based m x) (can_access p addr size) _ _ f
  based_by m x j (BeginAtomic kind) f = λ d. f (j.memory x)
  based_by m x j EndAtomic f = leave_based m x j j.memory j.copies f
  based_by m x j (Raise kind can) f = raise_based m x j kind can f
  based_by m x j BeginSync f = f
  based_by m x j EndSync f = f
  based_by m x j (Stop e) f = tt
  based_by m x j (Out b) f = tt
  based_by m x j Inp f = tt
  based_by m x j (Spawn g y) f = tt
  based_by m x j (Join id) f = tt
  based_by m x j Done f = tt

  pub based : (s : S) (m : ℕ → ℕ) {j : Inner S} → Inside a p (begin s m) j → (x : ℕ) → Based m x j
  based s m at_start x = λ d. refl
  based s m (goes_on {j} {k} r e) x = subst (OnGoes (Based m x)) e (based_by m x j (a.next j.state) (based s m r x))

  -- thread t is there and goes on
  pub record Here (m : Machine S) (w : World S) (t : ℕ) (l : Local S) : Type 0 where
    pub g : Going a p m.memory m.threads m.started m.lock w
    pub is : m.threads t ≡ Some l
    pub s : Alive S
    pub was : w.threads t ≡ Some s
    pub live : ShowsLocal a p m.memory w.memory l s
    pub up : s.ended ≡ false

  module _ (m : Machine S) (w : World S) (t : ℕ) (l : Local S) (k : Here m w t l) where
    pub at_alive : w.threads t ≡ alive k.s.state
    at_alive = let e = k.up in k.was ∙ ap (λ v. Some (record { state = k.s.state; ended = v })) e

    pub everyone : (x : ℕ) → ((u : ℕ) → (u == t) ≡ false → undoes (m.threads u) x ≡ false) → undoes (Some l) x ≡ false → w.memory x ≡ m.memory x
    everyone x h own = k.g.free x (λ u. elim (u == t) as (λ b. (u == t) ≡ b → undoes (m.threads u) x ≡ false) [
      | true ↦ λ e. ap (λ v. undoes (m.threads v) x) (eqb-true u t e) ∙ (ap (λ o. undoes o x) k.is ∙ own)
      | false ↦ λ d. h u d
    ] refl)

    -- where no other thread wrote the word and t did not
    pub unwritten : (x : ℕ) → ((u : ℕ) → (u == t) ≡ false → wrote_by (m.threads u) x ≡ false) → l.wrote x ≡ false → w.memory x ≡ m.memory x
    unwritten x h own = everyone x (λ u d. ap (λ b. live_in (m.threads u) && b) (h u d) ∙ and_false (live_in (m.threads u)))
        (ap (λ b. is_live l.tx && b) own ∙ and_false (is_live l.tx))

    pub own_mine : (u x : ℕ) → (u == t) ≡ false → l.wrote x ≡ true → held_by (m.threads u) x ≡ false
    own_mine u x d h = k.g.apart t u x d (ap (λ o. wrote_by o x) k.is ∙ h)

    pub own_theirs : (u x : ℕ) → (u == t) ≡ false → wrote_by (m.threads u) x ≡ true → l.held x ≡ false
    own_theirs u x d h = sym (ap (λ o. held_by o x) k.is) ∙ k.g.apart u t x (apart_sym t u d) h

    -- no other thread wrote what t holds
    pub no_other : (x : ℕ) → l.held x ≡ true → (u : ℕ) → (u == t) ≡ false → wrote_by (m.threads u) x ≡ false
    no_other x e u d = not_true (wrote_by (m.threads u) x) (λ h. true≢false (sym e ∙ own_theirs u x d h))

    pub not_wrote : (u x : ℕ) → (u == t) ≡ false → held_by (m.threads u) x ≡ true → l.wrote x ≡ false
    not_wrote u x d h = not_true (l.wrote x) (λ e. true≢false (sym h ∙ own_mine u x d e))

    pub unheld : (x : ℕ) → l.held x ≡ false → l.wrote x ≡ false
    unheld x h = not_true (l.wrote x) (λ e. true≢false (sym (k.live.holds x e) ∙ h))

    pub still_alone : (l' : Local S) → (is_live l.tx ≡ false → is_live l'.tx ≡ false) → (o u : ℕ) → m.lock.holder ≡ Some o → (u == o) ≡ false
        → live_in (update m.threads t (Some l') u) ≡ false
    still_alone l' calm o u h d = at_update a p (λ q. live_in q ≡ false) m.threads t u (Some l')
        (λ e. calm (sym (ap live_in k.is) ∙ (ap (λ v. live_in (m.threads v)) (sym (eqb-true u t e)) ∙ k.g.alone o u h d)))
        (λ d'. k.g.alone o u h d)

    wrote_held : (o : Option (Local S)) (s : Option (Alive S)) (x : ℕ) → ShowsThread a p m.memory w.memory o s → wrote_by o x ≡ true → held_by o x ≡ true
    wrote_held None s x f h = absurd (false≢true h)
    wrote_held (Some q) None x f h = absurd f
    wrote_held (Some q) (Some r) x f h = f.holds x h

    pub unheld_by : (u x : ℕ) → held_by (m.threads u) x ≡ false → wrote_by (m.threads u) x ≡ false
    unheld_by u x h = not_true (wrote_by (m.threads u) x) (λ e. true≢false (sym (wrote_held (m.threads u) (w.threads u) x (k.g.shown u) e) ∙ h))

    -- a search over the started threads speaks of all
    searched : (q : ℕ → Bool) (f : ℕ → ℕ) → eldest q f m.started ≡ None → ((u : ℕ) → m.threads u ≡ None → q u ≡ false) → (u : ℕ) → q u ≡ false
    searched q f e h u = elim (cases_lt u m.started) as (λ z. q u ≡ false) [ inl i ↦ eldest_none q f m.started e u i | inr i ↦ h u (k.g.fresh u i) ]

    pub not_kept_off : (store : Bool) (x : ℕ) → blocker t store x m ≡ None → (u : ℕ) → (u == t) ≡ false
        → cond store (held_by (m.threads u) x) (wrote_by (m.threads u) x) ≡ false
    not_kept_off store x e u d =
        let q = searched (conflicts_with t store x m.threads) (λ v. birth_of (m.threads v)) e
        (λ v n. let i = n in elim store as (λ b. (not (v == t) && cond b (held_by (m.threads v) x) (wrote_by (m.threads v) x)) ≡ false) [
          | true ↦ ap (λ o. not (v == t) && held_by o x) n ∙ and_false (not (v == t))
          | false ↦ ap (λ o. not (v == t) && wrote_by o x) n ∙ and_false (not (v == t))
        ]) u in
        ap (λ b. not b && cond store (held_by (m.threads u) x) (wrote_by (m.threads u) x)) (sym d) ∙ q

    pub not_busy : busy t m ≡ None → (u : ℕ) → (u == t) ≡ false → live_in (m.threads u) ≡ false
    not_busy e u d =
        let q = searched (λ v. not (v == t) && live_in (m.threads v)) (λ v. v) e (λ v n. ap (λ o. not (v == t) && live_in o) n ∙ and_false (not (v == t))) u in
        ap (λ b. not b && live_in (m.threads u)) (sym d) ∙ q

    -- t holds no word
    pub none_held : (h : ℕ → Bool) → ((x : ℕ) → h x ≡ true → l.held x ≡ true) → least h (word_bound p) ≡ None → (x : ℕ) → h x ≡ false
    none_held h within e x = not_true (h x) (λ i. true≢false (sym i ∙ eldest_none h (λ v. v) (word_bound p) e x (k.live.bounded x (within x i))))

    free_holder : (o : Option ℕ) → m.lock.holder ≡ o → is_live l.tx ≡ true → holder_free t o ≡ true
    free_holder None e i = refl
    free_holder (Some v) e i = elim (v == t) as (λ b. (v == t) ≡ b → b ≡ true) [
      | true ↦ λ d. refl
      | false ↦ λ d. absurd (true≢false (sym i ∙ (sym (ap live_in k.is) ∙ k.g.alone v t e (apart_sym t v d))))
    ] refl

    -- no other thread holds the lock where t has a live transaction
    pub may_land : is_live l.tx ≡ true → lock_free t w.lock ≡ true
    may_land i = ap (λ q. lock_free t q) k.g.lock_is ∙ free_holder m.lock.holder refl i

    pub out_step : (v : World S) (e : Event) → w.end ≡ None → SilentSteps a k.s.state l.state → a.next l.state ≡ e → EventStep a p t w l.state e v
        → Step a p t w v
    out_step v e going f is d = record {
      going = going;
      from = k.s.state;
      before = l.state;
      is = at_alive;
      silents = f;
      does = subst (λ z. EventStep a p t w l.state z v) (sym is) d;
    }

    pub in_step : (v : World S) (e : Event) (b : ℕ) (kk : S) (ss : List Save) → w.end ≡ None → l.tx ≡ OpenTx b kk ss
        → (f : InBlock a p m.memory w.memory k.s.state l kk ss) → a.next l.state ≡ e → BlockEffect t w (inner_by a p f.inner e) v → Step a p t w v
    in_step v e b kk ss going tx f is d = let here = ap a.next f.state ∙ is in record {
      going = going;
      from = k.s.state;
      before = f.began.before;
      is = at_alive;
      silents = f.began.silents;
      does = subst (λ z. EventStep a p t w f.began.before z v) (sym f.began.begins) (
        may_land (ap is_live tx),
        record {
          last = f.inner;
          run = subst (λ z. Inside a p (begin z w.memory) f.inner) f.began.kept_is f.run;
          over = subst (λ z. is_over (inner_by a p f.inner z) ≡ true) (sym here) (lands_over t w v (inner_by a p f.inner e) d);
        },
        subst (λ z. BlockEffect t w (inner_by a p f.inner z) v) (sym here) d,
      );
    }

    -- what the block sees
    pub sees : (kk : S) (ss : List Save) (f : InBlock a p m.memory w.memory k.s.state l kk ss) → cancelling (a.next l.state) ≡ false → (x : ℕ)
        → l.held x ≡ true → f.inner.memory x ≡ m.memory x
    sees kk ss f c x e = elim (f.agrees x e) as (λ z. f.inner.memory x ≡ m.memory x) [ inl h ↦ h | inr h ↦ absurd (true≢false (sym h.0 ∙ c)) ]

    pub near : (kk : S) (ss : List Save) (f : InBlock a p m.memory w.memory k.s.state l kk ss) → cancelling (a.next l.state) ≡ false → (x : ℕ)
        → ((u : ℕ) → (u == t) ≡ false → wrote_by (m.threads u) x ≡ false)
        → (f.inner.memory x ≡ m.memory x) × LevelsAt x (m.memory x) ss f.inner.copies
    near kk ss f c x h = elim (l.held x) as (λ b. l.held x ≡ b → (f.inner.memory x ≡ m.memory x) × LevelsAt x (m.memory x) ss f.inner.copies) [
      | true ↦ λ e. (sees kk ss f c x e, f.levels x e)
      | false ↦ λ e.
          let own = unheld x e in
          let there = unwritten x h own in
          let old = unstored a p kk w.memory f.run x (f.stored x ∙ own) in
          (old.0 ∙ there, levels_new x (m.memory x) ss f.inner.copies f.even (subst (λ v. AllAt x v f.inner.copies) there old.1) (f.unsaved x own))
    ] refl

    -- the start of a block
    pub fresh_block : (memory : ℕ → ℕ) (start kk : S) (l' : Local S) → Began a start kk → l'.state ≡ kk → ((x : ℕ) → l'.held x ≡ false)
        → ((x : ℕ) → l'.wrote x ≡ false) → InBlock a p memory w.memory start l' kk (no_save ∷ [])
    fresh_block memory start kk l' f state held wrote = record {
      began = f;
      inner = begin kk w.memory;
      run = at_start;
      state = sym state;
      accessed = λ x. sym (held x);
      stored = λ x. sym (wrote x);
      even = tt;
      agrees = λ x e. absurd (true≢false (sym e ∙ held x));
      levels = λ x e. absurd (true≢false (sym e ∙ held x));
      unsaved = λ x e. (refl, tt);
    }

  module _ (start : World S) where
    -- and the order has led there
    pub record Known (t : ℕ) (m : Machine S) (l : Local S) : Type 0 where
      pub w : World S
      pub replays : Replays a p start m.order w
      pub out : w.out ≡ m.out
      pub input : w.input ≡ m.input
      pub goes : m.end ≡ None
      pub going : w.end ≡ None
      pub here : Here m w t l

    pub quiet : (t : ℕ) (m : Machine S) (l : Local S) (k : Known t m l) (m' : Machine S) → m'.order ≡ m.order → m'.out ≡ m.out → m'.input ≡ m.input
        → m'.end ≡ m.end → Going a p m'.memory m'.threads m'.started m'.lock k.w → Agreed a p start m'
    quiet t m l k m' order out input end g = (
      k.w,
      subst (λ o. Replays a p start o k.w) (sym order) k.replays,
      record {
        out = k.out ∙ sym out;
        input = k.input ∙ sym input;
        end = k.going ∙ sym (end ∙ k.goes);
        going = λ e. g;
      },
    )

    pub said : (t : ℕ) (m : Machine S) (l : Local S) (k : Known t m l) (m' : Machine S) (v : World S) → m'.order ≡ (m.order ++ t ∷ []) → v.out ≡ m'.out
        → v.input ≡ m'.input → v.end ≡ m'.end → Step a p t k.w v → (m'.end ≡ None → Going a p m'.memory m'.threads m'.started m'.lock v) → Agreed a p start m'
    said t m l k m' v order out input end step g = (
      v,
      subst (λ o. Replays a p start o v) (sym order) (one_step_more a p start k.w v m.order t k.replays step),
      record {
        out = out;
        input = input;
        end = end;
        going = g;
      },
    )

    pub halted : (t : ℕ) (m : Machine S) (l : Local S) (k : Known t m l) (e : End) → Step a p t k.w (ends k.w e) → Agreed a p start (halts t m e).machine
    halted t m l k e step = said t m l k (halts t m e).machine (ends k.w e) refl k.out k.input refl step (λ q. absurd (cc))

    pub either : (b : Bool) (x y : Turned S) → (b ≡ true → Agreed a p start x.machine) → (b ≡ false → Agreed a p start y.machine)
        → Agreed a p start (cond b x y).machine
    either true x y f g = f refl
    either false x y f g = g refl
