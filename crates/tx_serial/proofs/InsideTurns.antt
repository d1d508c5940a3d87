-- The turns of a thread that has a transaction.
use Rattle.std.proofs.Common.{ℕ, ◌≡◌, ◌==◌, ◌<◌, ◌⊎◌, inl, inr, Bool, true, false, cond, refl, ap, sym, ◌∙◌, subst, List, [], ◌∷◌, Option, Some, None}
use Rattle.std.specs.Prelude.{◌&&◌, is_some}
use Rattle.std.proofs.lemmas.Bool.{eqb-true, true≢false, false≢true}
use Rattle.tx_events.specs.declared.End.{End}
use Rattle.tx_events.specs.declared.End.TheVariants.{Abort, Trapped}
use Rattle.tx_events.specs.declared.Trap.TheVariants.{BadAddress}
use Rattle.tx_events.specs.declared.BlockKind.{BlockKind}
use Rattle.tx_events.specs.declared.BlockKind.TheVariants.{NoExcept, Commit, Cancel}
use Rattle.tx_events.specs.declared.Event.{Event}
use Rattle.tx_events.specs.declared.Event.TheVariants.{
  Silent,
  Load,
  Store,
  Out,
  Inp,
  Spawn,
  Join,
  BeginAtomic,
  EndAtomic,
  Raise,
  BeginSync,
  EndSync,
  Done,
  Stop,
}
use Rattle.tx_events.specs.declared.Reply.TheVariants.{Nothing, Loaded}
use Rattle.choosers.specs.declared.Clash.{Clash}
use Rattle.choosers.specs.declared.Choice.{Choice}
use Rattle.choosers.specs.declared.Choice.TheVariants.{Wait, Yield}
use Rattle.tx_events.specs.Thread.{Thread}
use Rattle.tx_events.specs.Memory.{update, MemoryLayout, can_access, word_of, read_at, merge, word_bound}
use Rattle.tx_events.specs.Alone.{Inner, inner_load, inner_store, inner_by, leave, newest, begin, Goes, Leaves, Halts, Inside, goes_on}
use Rattle.tx_events.specs.World.{alive, World, BlockEffect, SilentSteps, none, ends}
use Rattle.tx_serial.specs.Machine.{
  clash_of,
  Machine,
  Local,
  OpenTx,
  GivingUp,
  Closing,
  Save,
  no_save,
  kept_or,
  oldest,
  forget,
  forget_all,
  hand,
  note,
  is_noted,
  held_by,
  wrote_by,
  is_live,
  blocker,
  least,
}
use Rattle.tx_serial.specs.Turn.{
  halts,
  steps,
  order_gains,
  waited,
  again,
  gives_up,
  clashes,
  load_in,
  store_in,
  closes,
  commits,
  cancels_by,
  cancels,
  raises,
  in_does,
  without,
  lets_go,
  given_back,
  gives_back,
}
use Rattle.tx_serial.specs.Shows.{cancelling, Even, LevelsAt, NoneAt, InBlock, Giving, ShowsTx, ShowsLocal}
use Rattle.tx_serial.proofs.WorldAgreement.{undoes, Going, Agreed}
use Rattle.tx_events.proofs.WordLemmas.{access_below}
use Rattle.tx_events.proofs.BlockRuns.{update_same, update_elsewhere, update_true, not_updated, AllAt, unstored}
use Rattle.tx_serial.proofs.SavepointLevels.{
  bottom,
  none_oldest,
  even_note,
  levels_noted,
  levels_note_else,
  none_note_else,
  levels_hand,
  none_hand,
  levels_forget,
  levels_forget_else,
  forget_none,
  even_forget,
  oldest_forget,
  oldest_forget_else,
  levels_pop,
}
use Rattle.tx_serial.proofs.SearchLemmas.{eldest_none, eldest_some}
use Rattle.tx_serial.proofs.UntouchedThreads.{at_update, changed}
use Rattle.tx_serial.proofs.TurnContext.{
  and_false,
  not_true,
  based,
  Known,
  everyone,
  own_mine,
  own_theirs,
  no_other,
  not_wrote,
  unheld,
  still_alone,
  unheld_by,
  not_kept_off,
  none_held,
  in_step,
  sees,
  near,
  fresh_block,
  quiet,
  said,
  halted,
  either,
}

module _ {S : Type 0} (a : Thread S) (p : MemoryLayout) (start : World S) (t : ℕ) (m : Machine S) (l : Local S) (k : Known a p start t m l) where
  as_is : Agreed a p start m
  as_is = quiet a p start t m l k m refl refl refl refl k.here.g

  waits_kept : (x u : ℕ) → Agreed a p start (waited t m x u).machine
  waits_kept x u = quiet a p start t m l k (waited t m x u).machine refl refl refl refl k.here.g

  -- the thread goes on within its transaction
  moved : (memory' : ℕ → ℕ) (l' : Local S)
      → ((u x : ℕ) → (u == t) ≡ false → l'.wrote x ≡ true → held_by (m.threads u) x ≡ false)
      → ((u x : ℕ) → (u == t) ≡ false → wrote_by (m.threads u) x ≡ true → l'.held x ≡ false)
      → ((u x : ℕ) → (u == t) ≡ false → held_by (m.threads u) x ≡ true → memory' x ≡ m.memory x)
      → ((x : ℕ) → ((u : ℕ) → (u == t) ≡ false → undoes (m.threads u) x ≡ false) → undoes (Some l') x ≡ false → k.w.memory x ≡ memory' x)
      → (is_live l.tx ≡ false → is_live l'.tx ≡ false)
      → ShowsLocal a p memory' k.w.memory l' k.here.s
      → Going a p memory' (update m.threads t (Some l')) m.started m.lock k.w
  moved memory' l' mine theirs memory_is free calm shown =
      changed a p m.memory memory' m.threads m.started m.lock m.lock k.w k.w t l l' k.here.s k.here.g k.here.is (record {
        started_is = refl;
        lock_is = k.here.g.lock_is;
        there = k.here.was;
        elsewhere = λ u d. refl;
        mine = mine;
        theirs = theirs;
        memory_is = memory_is;
        outside_is = λ u x d h. refl;
        free = free;
        alone = still_alone a p m k.w t l k.here l' calm;
        shown = shown;
      })

  own_undoes : is_live l.tx ≡ true → (x : ℕ) → l.wrote x ≡ false → undoes (Some l) x ≡ false
  own_undoes i x e = ap (λ b. is_live l.tx && b) e ∙ and_false (is_live l.tx)

  module _ (b : ℕ) (kk : S) (ss : List Save) (tx : l.tx ≡ OpenTx b kk ss) (f : InBlock a p m.memory k.w.memory k.here.s.state l kk ss) where
    is_open : is_live l.tx ≡ true
    is_open = ap is_live tx

    stops : (e : Event) (end : End) → a.next l.state ≡ e → BlockEffect t k.w (inner_by a p f.inner e) (ends k.w end) → Agreed a p start (halts t m end).machine
    stops e end is lands = halted a p start t m l k end (in_step a p m k.w t l k.here (ends k.w end) e b kk ss k.going tx f is lands)

    more : (j : Inner S) (e : Event) → a.next l.state ≡ e → inner_by a p f.inner e ≡ Goes j → Inside a p (begin kk k.w.memory) j
    more j e is g = goes_on f.run (ap (inner_by a p f.inner) (ap a.next f.state ∙ is) ∙ g)

    calm : (l' : Local S) → is_live l.tx ≡ false → is_live l'.tx ≡ false
    calm l' i = absurd (true≢false (sym is_open ∙ i))

    -- a step that leaves memory and the words
    same_words : (s' : S) (ts : List Save) (j : Inner S) → Inside a p (begin kk k.w.memory) j → j.state ≡ s' → j.accessed ≡ f.inner.accessed
        → j.stored ≡ f.inner.stored → Even ts j.copies
        → ((x : ℕ) → l.held x ≡ true → j.memory x ≡ m.memory x)
        → ((x : ℕ) → l.held x ≡ true → LevelsAt x (m.memory x) ts j.copies)
        → ((x : ℕ) → l.wrote x ≡ false → NoneAt x ts)
        → Agreed a p start (steps t m (record l { state = s'; tx = OpenTx b kk ts }))
    same_words s' ts j run state accessed stored even agrees levels unsaved =
        let l' : Local S = record l { state = s'; tx = OpenTx b kk ts } in
        quiet a p start t m l k (steps t m l') refl refl refl refl
        (moved m.memory l'
        (λ u x d h. own_mine a p m k.w t l k.here u x d h)
        (λ u x d h. own_theirs a p m k.w t l k.here u x d h)
        (λ u x d h. refl)
        (λ x h own. everyone a p m k.w t l k.here x h (own_undoes is_open x own))
        (calm l')
        (record {
          ended = k.here.live.ended;
          holds = k.here.live.holds;
          bounded = k.here.live.bounded;
          tx = record {
            began = f.began;
            inner = j;
            run = run;
            state = state;
            accessed = λ x. ap (λ q. q x) accessed ∙ f.accessed x;
            stored = λ x. ap (λ q. q x) stored ∙ f.stored x;
            even = even;
            agrees = λ x e. inl (agrees x e);
            levels = levels;
            unsaved = unsaved;
          };
        }))

    sees_at : (e : Event) → a.next l.state ≡ e → cancelling e ≡ false → (x : ℕ) → l.held x ≡ true → f.inner.memory x ≡ m.memory x
    sees_at e is c x h = sees a p m k.w t l k.here kk ss f (ap cancelling is ∙ c) x h

    -- a step that leaves all but the state
    just : (e : Event) → a.next l.state ≡ e → cancelling e ≡ false → inner_by a p f.inner e ≡ Goes (record f.inner { state = a.after f.inner.state Nothing })
        → Agreed a p start (steps t m (record l { state = a.after l.state Nothing; tx = OpenTx b kk ss }))
    just e is c g = same_words (a.after l.state Nothing) ss (record f.inner { state = a.after f.inner.state Nothing })
        (more (record f.inner { state = a.after f.inner.state Nothing }) e is g) (ap (λ s. a.after s Nothing) f.state) refl refl f.even
        (sees_at e is c) f.levels f.unsaved

    begin_kept : (kind : BlockKind) → a.next l.state ≡ BeginAtomic kind
        → Agreed a p start (steps t m (record l { state = a.after l.state Nothing; tx = OpenTx b kk (no_save ∷ ss) }))
    begin_kept kind is =
        let j : Inner S = record f.inner { state = a.after f.inner.state Nothing; copies = f.inner.memory ∷ f.inner.copies } in
        same_words (a.after l.state Nothing) (no_save ∷ ss) j (more j (BeginAtomic kind) is refl) (ap (λ s. a.after s Nothing) f.state) refl refl f.even
        (sees_at (BeginAtomic kind) is refl)
        (λ x e. let q = sees_at (BeginAtomic kind) is refl x e in (q, subst (λ v. LevelsAt x v ss f.inner.copies) (sym q) (f.levels x e)))
        (λ x e. (refl, f.unsaved x e))

    -- an access that is not kept off
    taken_theirs : (x : ℕ) → ((u : ℕ) → (u == t) ≡ false → wrote_by (m.threads u) x ≡ false) → (u y : ℕ) → (u == t) ≡ false → wrote_by (m.threads u) y ≡ true
        → update l.held x true y ≡ false
    taken_theirs x free u y d h = elim (y == x) as (λ q. (y == x) ≡ q → cond q true (l.held y) ≡ false) [
      | true ↦ λ e. absurd (true≢false (sym h ∙ (ap (wrote_by (m.threads u)) (eqb-true y x e) ∙ free u d)))
      | false ↦ λ e. own_theirs a p m k.w t l k.here u y d h
    ] refl

    near_at : (e : Event) → a.next l.state ≡ e → cancelling e ≡ false → (x : ℕ) → ((u : ℕ) → (u == t) ≡ false → wrote_by (m.threads u) x ≡ false) → (y : ℕ)
        → update l.held x true y ≡ true
        → (f.inner.memory y ≡ m.memory y) × LevelsAt y (m.memory y) ss f.inner.copies
    near_at e is c x free y h = near a p m k.w t l k.here kk ss f (ap cancelling is ∙ c) y
        (elim (y == x) as (λ q. (y == x) ≡ q → cond q true (l.held y) ≡ true → (u : ℕ) → (u == t) ≡ false → wrote_by (m.threads u) y ≡ false) [
          | true ↦ λ i j u d. ap (wrote_by (m.threads u)) (eqb-true y x i) ∙ free u d
          | false ↦ λ i j. no_other a p m k.w t l k.here y j
        ] refl h)

    taken_bounded : (addr size : ℕ) → can_access p addr size ≡ true → (y : ℕ) → update l.held (word_of addr) true y ≡ true → y < word_bound p
    taken_bounded addr size ok y h = elim (y == word_of addr) as (λ q. (y == word_of addr) ≡ q → cond q true (l.held y) ≡ true → y < word_bound p) [
      | true ↦ λ i j. subst (λ v. v < word_bound p) (sym (eqb-true y (word_of addr) i)) (access_below p addr size ok)
      | false ↦ λ i j. k.here.live.bounded y j
    ] refl h

    load_kept : (addr size : ℕ) (vol : Bool) → a.next l.state ≡ Load addr size vol → can_access p addr size ≡ true → blocker t false (word_of addr) m ≡ None
        → Agreed a p start
        (steps t m
        (record l
        { state = a.after l.state (Loaded (read_at addr size (m.memory (word_of addr)))); held = update l.held (word_of addr) true; tx = OpenTx b kk ss }))
    load_kept addr size vol is ok clear =
        let x = word_of addr in
        let l' : Local S = record l { state = a.after l.state (Loaded (read_at addr size (m.memory x))); held = update l.held x true; tx = OpenTx b kk ss } in
        let free = not_kept_off a p m k.w t l k.here false x clear in
        let j = inner_load a f.inner addr size in
        let at_x = (near_at (Load addr size vol) is refl x free x (update_same l.held x true)).0 in
        let same = f.state in
        quiet a p start t m l k (steps t m l') refl refl refl refl
        (moved m.memory l'
        (λ u y d h. own_mine a p m k.w t l k.here u y d h)
        (taken_theirs x free)
        (λ u y d h. refl)
        (λ y h own. everyone a p m k.w t l k.here y h (own_undoes is_open y own))
        (calm l')
        (record {
          ended = k.here.live.ended;
          holds = λ y h. update_true l.held x y (k.here.live.holds y h);
          bounded = taken_bounded addr size ok;
          tx = record {
            began = f.began;
            inner = j;
            run = more j (Load addr size vol) is (ap (λ q. cond q (Goes j) (Halts (Trapped BadAddress))) ok);
            state = cc;
            accessed = λ y. ap (λ q. cond (y == x) true q) (f.accessed y);
            stored = f.stored;
            even = f.even;
            agrees = λ y h. inl (near_at (Load addr size vol) is refl x free y h).0;
            levels = λ y h. (near_at (Load addr size vol) is refl x free y h).1;
            unsaved = f.unsaved;
          };
        }))

    store_kept : (addr size value : ℕ) (vol : Bool) → a.next l.state ≡ Store addr size value vol → can_access p addr size ≡ true
        → blocker t true (word_of addr) m ≡ None
        → Agreed a p start
        (record (steps t m
        (record l {
          state = a.after l.state Nothing;
          held = update l.held (word_of addr) true;
          wrote = update l.wrote (word_of addr) true;
          tx = OpenTx b kk
              (note ss (word_of addr) (m.memory (word_of addr)));
        }))
        { memory = update m.memory (word_of addr) (merge addr size value (m.memory (word_of addr))) })
    store_kept addr size value vol is ok clear =
        let x = word_of addr in
        let e = Store addr size value vol in
        let v = m.memory x in
        let c = merge addr size value v in
        let l' : Local S = record l {
          state = a.after l.state Nothing;
          held = update l.held x true;
          wrote = update l.wrote x true;
          tx = OpenTx b kk (note ss x v);
        } in
        let unheld_there = not_kept_off a p m k.w t l k.here true x clear in
        let free : (u : ℕ) → (u == t) ≡ false → wrote_by (m.threads u) x ≡ false = λ u d. unheld_by a p m k.w t l k.here u x (unheld_there u d) in
        let j = inner_store a f.inner addr size value in
        let at_x = near_at e is refl x free x (update_same l.held x true) in
        quiet a p start t m l k (record (steps t m l') { memory = update m.memory x c }) refl refl refl refl
        (moved (update m.memory x c) l'
        (λ u y d h. elim (y == x) as (λ q. (y == x) ≡ q → cond q true (l.wrote y) ≡ true → held_by (m.threads u) y ≡ false) [
          | true ↦ λ i h'. ap (held_by (m.threads u)) (eqb-true y x i) ∙ unheld_there u d
          | false ↦ λ i h'. own_mine a p m k.w t l k.here u y d h'
        ] refl h)
        (taken_theirs x free)
        (λ u y d h. update_elsewhere m.memory x c y
        (not_true (y == x) (λ i. true≢false (sym h ∙ (ap (held_by (m.threads u)) (eqb-true y x i) ∙ unheld_there u d)))))
        (λ y h own. let q = not_updated l.wrote x y own in everyone a p m k.w t l k.here y h (own_undoes is_open y q.1)
        ∙ sym (update_elsewhere m.memory x c y q.0))
        (calm l')
        (record {
          ended = k.here.live.ended;
          holds = λ y h. elim (y == x) as (λ q. cond q true (l.wrote y) ≡ true → cond q true (l.held y) ≡ true) [
            | true ↦ λ h'. refl
            | false ↦ λ h'. k.here.live.holds y h'
          ] h;
          bounded = taken_bounded addr size ok;
          tx = record {
            began = f.began;
            inner = j;
            run = more j e is (ap (λ q. cond q (Goes j) (Halts (Trapped BadAddress))) ok);
            state = ap (λ s. a.after s Nothing) f.state;
            accessed = λ y. ap (λ q. cond (y == x) true q) (f.accessed y);
            stored = λ y. ap (λ q. cond (y == x) true q) (f.stored y);
            even = even_note x v ss f.inner.copies f.even;
            agrees = λ y h. inl
                (ap (λ q. update f.inner.memory x (merge addr size value q) y) at_x.0 ∙ ap (λ q. cond (y == x) c q) (near_at e is refl x free y h).0);
            levels = λ y h. at_update a p (λ q. LevelsAt y q (note ss x v) f.inner.copies) m.memory x y c
                (λ i. subst (λ z. LevelsAt z c (note ss x v) f.inner.copies) (sym (eqb-true y x i)) (levels_noted x v c ss f.inner.copies at_x.1))
                (λ i. levels_note_else y x v (m.memory y) ss f.inner.copies i (near_at e is refl x free y h).1);
            unsaved = λ y h. let q = not_updated l.wrote x y h in none_note_else y x v ss q.0 (f.unsaved y q.1);
          };
        }))

    -- the outermost block ends: its memory becomes the world's
    leaves : (e : Event) (o : ℕ → ℕ) → a.next l.state ≡ e → inner_by a p f.inner e ≡ Leaves (a.after f.inner.state Nothing) o
        → ((x : ℕ) → l.held x ≡ true → o x ≡ m.memory x) → ((x : ℕ) → l.wrote x ≡ false → o x ≡ k.w.memory x)
        → (q : Option ℕ) → least l.held (word_bound p) ≡ q
        → Agreed a p start (order_gains t (steps t m (record l { state = a.after l.state Nothing; tx = closes b q })))
    leaves e o is lands agrees untouched q found =
        let s' = a.after l.state Nothing in
        let s'' = a.after f.inner.state Nothing in
        let l' : Local S = record l { state = s'; tx = closes b q } in
        let v : World S = record k.w { memory = o; threads = update k.w.threads t (alive s'') } in
        let silents : SilentSteps a s'' s' = subst (λ z. SilentSteps a s'' z) (ap (λ z. a.after z Nothing) f.state) none in
        said a p start t m l k (order_gains t (steps t m l')) v refl k.out k.input (k.going ∙ sym k.goes)
        (in_step a p m k.w t l k.here v e b kk ss k.going tx f is (subst (λ z. BlockEffect t k.w z v) (sym lands) refl))
        (λ z. changed a p m.memory m.memory m.threads m.started m.lock m.lock k.w v t l l' (record { state = s''; ended = false }) k.here.g k.here.is (record {
          started_is = refl;
          lock_is = k.here.g.lock_is;
          there = update_same k.w.threads t (alive s'');
          elsewhere = λ u d. update_elsewhere k.w.threads t (alive s'') u d;
          mine = λ u x d h. own_mine a p m k.w t l k.here u x d h;
          theirs = λ u x d h. own_theirs a p m k.w t l k.here u x d h;
          memory_is = λ u x d h. refl;
          outside_is = λ u x d h. untouched x (not_wrote a p m k.w t l k.here u x d h);
          free = λ x h own. elim (l.wrote x) as (λ z. l.wrote x ≡ z → o x ≡ m.memory x) [
            | true ↦ λ i. agrees x (k.here.live.holds x i)
            | false ↦ λ i. untouched x i ∙ everyone a p m k.w t l k.here x h (own_undoes is_open x i)
          ] refl;
          alone = still_alone a p m k.w t l k.here l' (λ i. closed q);
          shown = record {
            ended = sym k.here.up ∙ k.here.live.ended;
            holds = k.here.live.holds;
            bounded = k.here.live.bounded;
            tx = closing q found s'' s' silents o;
          };
        }))
      where
        closed : (z : Option ℕ) → is_live {S = S} (closes b z) ≡ false
        closed None = refl
        closed (Some x) = refl

        closing : (z : Option ℕ) → least l.held (word_bound p) ≡ z → (r s : S) → SilentSteps a r s → (n : ℕ → ℕ)
            → ShowsTx a p m.memory n r (record l { state = s; tx = closes b z }) (closes b z)
        closing None i r s g n = (g, none_held a p m k.w t l k.here l.held (λ x h. h) i)
        closing (Some x) i r s g n = g

    commits_kept : (ts : List Save) (cs : List (ℕ → ℕ)) (e : Event) → ss ≡ ts → f.inner.copies ≡ cs → Even ts cs → a.next l.state ≡ e → cancelling e ≡ false
        → inner_by a p f.inner e ≡ leave a f.inner f.inner.memory f.inner.copies
        → Agreed a p start (commits p t m l (a.after l.state Nothing) b kk ts).machine
    commits_kept [] cs e i j v is c g = as_is
    commits_kept (n ∷ ts) [] e i j v is c g = absurd v
    commits_kept (n ∷ []) (d ∷ d' ∷ cs) e i j v is c g = absurd v
    commits_kept (n ∷ n' ∷ ts) (d ∷ []) e i j v is c g = absurd v
    commits_kept (n ∷ []) (d ∷ []) e i j v is c g =
        leaves e f.inner.memory is (g ∙ ap (leave a f.inner f.inner.memory) j) (sees_at e is c)
        (λ x h. (unstored a p kk k.w.memory f.run x (f.stored x ∙ h)).0) (least l.held (word_bound p)) refl
    commits_kept (n ∷ n' ∷ ts) (d ∷ d' ∷ cs) e i j v is c g =
        let next : Inner S = record f.inner { state = a.after f.inner.state Nothing; memory = f.inner.memory; copies = d' ∷ cs } in
        same_words (a.after l.state Nothing) (hand n n' ∷ ts) next (more next e is (g ∙ ap (leave a f.inner f.inner.memory) j))
        (ap (λ s. a.after s Nothing) f.state) refl refl v (sees_at e is c)
        (λ x h. levels_hand x (m.memory x) n n' ts d d' cs
        (subst (λ z. LevelsAt x (m.memory x) (n ∷ n' ∷ ts) z) j (subst (λ z. LevelsAt x (m.memory x) z f.inner.copies) i (f.levels x h))))
        (λ x h. none_hand x n n' ts (subst (NoneAt x) i (f.unsaved x h)))

    -- a word is put back where the next event is a Raise that cancels
    newest_put : (x v : ℕ) (n : Save) (ts : List Save) (cs : List (ℕ → ℕ)) (q : ℕ → ℕ) → LevelsAt x v (n ∷ ts) cs → newest cs q x ≡ kept_or (n x) v
    newest_put x v n ts [] q h = absurd h
    newest_put x v n ts (c ∷ cs) q h = h.0

    undo_kept : (n : Save) (ts : List Save) (x : ℕ) → ss ≡ (n ∷ ts) → cancelling (a.next l.state) ≡ true → least (is_noted n) (word_bound p) ≡ Some x
        → Agreed a p start (record (steps t m (record l { tx = OpenTx b kk (forget n x ∷ ts) })) { memory = update m.memory x (kept_or (n x) (m.memory x)) })
    undo_kept n ts x i c found =
        let old = kept_or (n x) (m.memory x) in
        let l' : Local S = record l { tx = OpenTx b kk (forget n x ∷ ts) } in
        let noted = eldest_some (is_noted n) (λ v. v) (word_bound p) x found in
        let none_at : (y : ℕ) → l.wrote y ≡ false → NoneAt y (n ∷ ts) = λ y h. subst (NoneAt y) i (f.unsaved y h) in
        let levels_at : (y : ℕ) → l.held y ≡ true → LevelsAt y (m.memory y) (n ∷ ts) f.inner.copies = λ y h. subst
        (λ z. LevelsAt y (m.memory y) z f.inner.copies) i (f.levels y h) in
        let wrote : l.wrote x ≡ true = elim (l.wrote x) as (λ z. l.wrote x ≡ z → z ≡ true) [
          | true ↦ λ h. refl
          | false ↦ λ h. absurd (false≢true (ap is_some (sym (none_at x h).0) ∙ noted))
        ] refl in
        quiet a p start t m l k (record (steps t m l') { memory = update m.memory x old }) refl refl refl refl
        (moved (update m.memory x old) l'
        (λ u y d h. own_mine a p m k.w t l k.here u y d h)
        (λ u y d h. own_theirs a p m k.w t l k.here u y d h)
        (λ u y d h. update_elsewhere m.memory x old y
        (not_true (y == x) (λ e. true≢false (sym h ∙ (ap (held_by (m.threads u)) (eqb-true y x e) ∙ own_mine a p m k.w t l k.here u x d wrote)))))
        (λ y h own. everyone a p m k.w t l k.here y h (own_undoes is_open y own)
        ∙ sym (update_elsewhere m.memory x old y (not_true (y == x) (λ e. true≢false (sym wrote ∙ (ap l.wrote (sym (eqb-true y x e)) ∙ own))))))
        (calm l')
        (record {
          ended = k.here.live.ended;
          holds = k.here.live.holds;
          bounded = k.here.live.bounded;
          tx = record {
            began = f.began;
            inner = f.inner;
            run = f.run;
            state = f.state;
            accessed = f.accessed;
            stored = f.stored;
            even = even_forget x n ts f.inner.copies (subst (λ z. Even z f.inner.copies) i f.even);
            agrees = λ y h. at_update a p
                (λ z. (f.inner.memory y ≡ z) ⊎ ((cancelling (a.next l.state) ≡ true) × (newest f.inner.copies f.inner.memory y ≡ z))) m.memory x y old
                (λ e. inr (
                  c,
                  subst (λ z. newest f.inner.copies f.inner.memory z ≡ old) (sym (eqb-true y x e))
                      (newest_put x (m.memory x) n ts f.inner.copies f.inner.memory
                      (subst (λ z. LevelsAt z (m.memory z) (n ∷ ts) f.inner.copies) (eqb-true y x e) (levels_at y h))),
                ))
                (λ d. f.agrees y h);
            levels = λ y h. at_update a p (λ z. LevelsAt y z (forget n x ∷ ts) f.inner.copies) m.memory x y old
                (λ e. subst (λ z. LevelsAt z old (forget n x ∷ ts) f.inner.copies) (sym (eqb-true y x e))
                (levels_forget x (m.memory x) n ts f.inner.copies
                (subst (λ z. LevelsAt z (m.memory z) (n ∷ ts) f.inner.copies) (eqb-true y x e) (levels_at y h))))
                (λ d. levels_forget_else y x (m.memory y) n ts f.inner.copies d (levels_at y h));
            unsaved = λ y h. (forget_none y x n (none_at y h).0, (none_at y h).1);
          };
        }))

    -- the newest savepoint notes nothing any more
    all_back : (n : Save) (ts : List Save) → ss ≡ (n ∷ ts) → least (is_noted n) (word_bound p) ≡ None → (x : ℕ) → l.held x ≡ true → n x ≡ None
    all_back n ts i found x h = none_of (n x) (eldest_none (is_noted n) (λ v. v) (word_bound p) found x (k.here.live.bounded x h))
      where
        none_of : (o : Option ℕ) → is_some o ≡ false → o ≡ None
        none_of None e = refl
        none_of (Some v) e = absurd (true≢false e)

    cancels_kept : (n : Save) (ts : List Save) (cs : List (ℕ → ℕ)) (e : Event) → ss ≡ (n ∷ ts) → f.inner.copies ≡ cs → Even (n ∷ ts) cs → a.next l.state ≡ e
        → cancelling e ≡ true
        → inner_by a p f.inner e ≡ leave a f.inner (newest f.inner.copies f.inner.memory) f.inner.copies
        → (o : Option ℕ) → least (is_noted n) (word_bound p) ≡ o
        → Agreed a p start (cancels_by p t m l (a.after l.state Nothing) b kk n ts o).machine
    cancels_kept n ts cs e i j v is c g (Some x) found = undo_kept n ts x i (ap cancelling is ∙ c) found
    cancels_kept n ts [] e i j v is c g None found = absurd v
    cancels_kept n [] (d ∷ d' ∷ cs) e i j v is c g None found = absurd v
    cancels_kept n (n' ∷ ts) (d ∷ []) e i j v is c g None found = absurd v
    cancels_kept n [] (d ∷ []) e i j v is c g None found =
        leaves e d is (g ∙ ap (λ z. leave a f.inner (newest z f.inner.memory) z) j)
        (λ x h. (levels_pop x (m.memory x) n [] d [] (all_back n [] i found x h)
        (subst (λ z. LevelsAt x (m.memory x) (n ∷ []) z) j (subst (λ z. LevelsAt x (m.memory x) z f.inner.copies) i (f.levels x h)))).0)
        (λ x h. (subst (λ z. AllAt x (k.w.memory x) z) j (unstored a p kk k.w.memory f.run x (f.stored x ∙ h)).1).0)
        (least l.held (word_bound p)) refl
    cancels_kept n (n' ∷ ts) (d ∷ d' ∷ cs) e i j v is c g None found =
        let next : Inner S = record f.inner { state = a.after f.inner.state Nothing; memory = d; copies = d' ∷ cs } in
        let popped : (x : ℕ) → l.held x ≡ true → (d x ≡ m.memory x) × LevelsAt x (m.memory x) (n' ∷ ts) (d' ∷ cs) = λ x h.
        levels_pop x (m.memory x) n (n' ∷ ts) d (d' ∷ cs) (all_back n (n' ∷ ts) i found x h)
        (subst (λ z. LevelsAt x (m.memory x) (n ∷ n' ∷ ts) z) j (subst (λ z. LevelsAt x (m.memory x) z f.inner.copies) i (f.levels x h))) in
        same_words (a.after l.state Nothing) (n' ∷ ts) next (more next e is (g ∙ ap (λ z. leave a f.inner (newest z f.inner.memory) z) j))
        (ap (λ s. a.after s Nothing) f.state) refl refl v
        (λ x h. (popped x h).0)
        (λ x h. (popped x h).1)
        (λ x h. (subst (NoneAt x) i (f.unsaved x h)).1)

    raises_kept : (kind : BlockKind) (can : Bool) → a.next l.state ≡ Raise kind can
        → Agreed a p start (raises p t m l (a.after l.state Nothing) b kk ss kind can).machine
    raises_kept NoExcept can is = stops (Raise NoExcept can) Abort is refl
    raises_kept Commit can is = commits_kept ss f.inner.copies (Raise Commit can) refl refl f.even is refl refl
    raises_kept Cancel false is = stops (Raise Cancel false) Abort is refl
    raises_kept Cancel true is = by_saves ss refl
      where
        by_saves : (ts : List Save) → ss ≡ ts → Agreed a p start (cancels p t m l (a.after l.state Nothing) b kk ts).machine
        by_saves [] i = as_is
        by_saves (n ∷ ts) i = cancels_kept n ts f.inner.copies (Raise Cancel true) i refl (subst (λ z. Even z f.inner.copies) i f.even) is refl refl
            (least (is_noted n) (word_bound p)) refl

    -- giving up
    gives_up_kept : (q : Option ℕ) → least l.held (word_bound p) ≡ q → Agreed a p start (steps t m (gives_up l b kk ss q))
    gives_up_kept (Some x) found =
        let l' : Local S = record l { tx = GivingUp b kk ss } in
        quiet a p start t m l k (steps t m l') refl refl refl refl
        (moved m.memory l'
        (λ u y d h. own_mine a p m k.w t l k.here u y d h)
        (λ u y d h. own_theirs a p m k.w t l k.here u y d h)
        (λ u y d h. refl)
        (λ y h own. everyone a p m k.w t l k.here y h (own_undoes is_open y own))
        (calm l')
        (record {
          ended = k.here.live.ended;
          holds = k.here.live.holds;
          bounded = k.here.live.bounded;
          tx = record {
            began = f.began;
            undone = λ y h. sym (based a p kk k.w.memory f.run y (m.memory y)) ∙ bottom y (m.memory y) ss f.inner.copies (f.levels y h);
            unsaved = λ y h. none_oldest y ss (f.unsaved y h);
          };
        }))
    gives_up_kept None found =
        let l' = again l b kk in
        let bare_now = none_held a p m k.w t l k.here l.held (λ y h. h) found in
        quiet a p start t m l k (steps t m l') refl refl refl refl
        (moved m.memory l'
        (λ u y d h. absurd (false≢true h))
        (λ u y d h. refl)
        (λ u y d h. refl)
        (λ y h own. everyone a p m k.w t l k.here y h (own_undoes is_open y (unheld a p m k.w t l k.here y (bare_now y))))
        (calm l')
        (record {
          ended = k.here.live.ended;
          holds = λ y h. absurd (false≢true h);
          bounded = λ y h. absurd (false≢true h);
          tx = fresh_block a p m k.w t l k.here m.memory k.here.s.state kk l' f.began refl (λ y. refl) (λ y. refl);
        }))

    clash_kept : (choice : Choice) (x u : ℕ) → Agreed a p start (clashes p choice t m l b kk ss x u).machine
    clash_kept Wait x u = waits_kept x u
    clash_kept Yield x u = gives_up_kept (least l.held (word_bound p)) refl

    load_any : (answer : Clash → Choice) (addr size : ℕ) (vol : Bool) → a.next l.state ≡ Load addr size vol → can_access p addr size ≡ true → (o : Option ℕ)
        → blocker t false (word_of addr) m ≡ o → Agreed a p start (load_in a p answer t m l b kk ss addr size o).machine
    load_any answer addr size vol is ok (Some u) e = clash_kept (answer (clash_of t false (word_of addr) m b u)) (word_of addr) u
    load_any answer addr size vol is ok None e = load_kept addr size vol is ok e

    store_any : (answer : Clash → Choice) (addr size value : ℕ) (vol : Bool) → a.next l.state ≡ Store addr size value vol → can_access p addr size ≡ true
        → (o : Option ℕ) → blocker t true (word_of addr) m ≡ o → Agreed a p start (store_in a p answer t m l b kk ss addr size value o).machine
    store_any answer addr size value vol is ok (Some u) e = clash_kept (answer (clash_of t true (word_of addr) m b u)) (word_of addr) u
    store_any answer addr size value vol is ok None e = store_kept addr size value vol is ok e

    pub in_kept_all : (answer : Clash → Choice) (e : Event) → a.next l.state ≡ e → Agreed a p start (in_does a p answer t m l b kk ss e).machine
    in_kept_all answer Silent is = just Silent is refl refl
    in_kept_all answer (Load addr size vol) is = either a p start (can_access p addr size) _ _
        (λ ok. load_any answer addr size vol is ok (blocker t false (word_of addr) m) refl)
        (λ no. stops (Load addr size vol) (Trapped BadAddress) is
        (subst (λ z. BlockEffect t k.w (cond z (Goes (inner_load a f.inner addr size)) (Halts (Trapped BadAddress))) (ends k.w (Trapped BadAddress)))
        (sym no) refl))
    in_kept_all answer (Store addr size value vol) is = either a p start (can_access p addr size) _ _
        (λ ok. store_any answer addr size value vol is ok (blocker t true (word_of addr) m) refl)
        (λ no. stops (Store addr size value vol) (Trapped BadAddress) is
        (subst (λ z. BlockEffect t k.w (cond z (Goes (inner_store a f.inner addr size value)) (Halts (Trapped BadAddress)))
        (ends k.w (Trapped BadAddress))) (sym no) refl))
    in_kept_all answer (BeginAtomic kind) is = begin_kept kind is
    in_kept_all answer EndAtomic is = commits_kept ss f.inner.copies EndAtomic refl refl f.even is refl refl
    in_kept_all answer (Raise kind can) is = raises_kept kind can is
    in_kept_all answer BeginSync is = just BeginSync is refl refl
    in_kept_all answer EndSync is = just EndSync is refl refl
    in_kept_all answer (Stop e) is = stops (Stop e) e is refl
    in_kept_all answer (Spawn h x) is = as_is
    in_kept_all answer (Join id) is = as_is
    in_kept_all answer (Out c) is = as_is
    in_kept_all answer Inp is = as_is
    in_kept_all answer Done is = as_is

  -- a transaction that gives up: a word goes back
  module _ (b : ℕ) (kk : S) (ss : List Save) (tx : l.tx ≡ GivingUp b kk ss) (f : Giving a m.memory k.w.memory k.here.s.state l kk ss) (x : ℕ)
      (held : l.held x ≡ true) where
    is_giving : is_live l.tx ≡ true
    is_giving = ap is_live tx

    abbrev pub value : ℕ → ℕ
    value = update m.memory x (kept_or (oldest ss x) (m.memory x))

    others_same : (u y : ℕ) → (u == t) ≡ false → held_by (m.threads u) y ≡ true → value y ≡ m.memory y
    others_same u y d h = at_update a p (λ z. z ≡ m.memory y) m.memory x y (kept_or (oldest ss x) (m.memory x))
        (λ e. let i = eqb-true y x e in
        let q : l.wrote x ≡ false = ap l.wrote (sym i) ∙ not_wrote a p m k.w t l k.here u y d h in
        ap (λ o. kept_or o (m.memory x)) (f.unsaved x q) ∙ ap m.memory (sym i))
        (λ d'. refl)

    -- where t did not write any other word, or let go of it
    back_free : (y : ℕ) → ((u : ℕ) → (u == t) ≡ false → undoes (m.threads u) y ≡ false) → ((y == x) ≡ false → l.wrote y ≡ false) → k.w.memory y ≡ value y
    back_free y h own = at_update a p (λ z. k.w.memory y ≡ z) m.memory x y (kept_or (oldest ss x) (m.memory x))
        (λ e. let i = eqb-true y x e in ap k.w.memory i ∙ f.undone x held)
        (λ d. everyone a p m k.w t l k.here y h (own_undoes is_giving y (own d)))

    within_held : (y : ℕ) → without l.held x y ≡ true → ((y == x) ≡ false) × (l.held y ≡ true)
    within_held y h = elim (y == x) as
        (λ q. (y == x) ≡ q → cond q false (l.held y) ≡ true → ((y == x) ≡ false) × (l.held y ≡ true)) [
          | true ↦ λ e i. absurd (false≢true i)
          | false ↦ λ e i. (e, i)
        ] refl h

    without_wrote : (y : ℕ) → without l.wrote x y ≡ true → l.wrote y ≡ true
    without_wrote y h = elim (y == x) as (λ q. cond q false (l.wrote y) ≡ true → l.wrote y ≡ true) [ true ↦ λ i. absurd (false≢true i) | false ↦ λ i. i ] h

    without_false : (y : ℕ) → l.held y ≡ false → without l.held x y ≡ false
    without_false y h = elim (y == x) as (λ q. cond q false (l.held y) ≡ false) [ true ↦ refl | false ↦ h ]

    pub back_kept : (q : Option ℕ) → least (without l.held x) (word_bound p) ≡ q
        → Agreed a p start (record (steps t m (given_back l b kk ss x q)) { memory = value })
    back_kept (Some z) found =
        let l' : Local S = record l { held = without l.held x; wrote = without l.wrote x; tx = GivingUp b kk (forget_all ss x) } in
        quiet a p start t m l k (record (steps t m l') { memory = value }) refl refl refl refl
        (moved value l'
        (λ u y d h. own_mine a p m k.w t l k.here u y d (without_wrote y h))
        (λ u y d h. without_false y (own_theirs a p m k.w t l k.here u y d h))
        others_same
        (λ y h own. back_free y h (λ d. sym (update_elsewhere l.wrote x false y d) ∙ own))
        (λ i. absurd (true≢false (sym is_giving ∙ i)))
        (record {
          ended = k.here.live.ended;
          holds = λ y h. elim (y == x) as (λ q. cond q false (l.wrote y) ≡ true → cond q false (l.held y) ≡ true) [
            | true ↦ λ i. i
            | false ↦ λ i. k.here.live.holds y i
          ] h;
          bounded = λ y h. k.here.live.bounded y (within_held y h).1;
          tx = record {
            began = f.began;
            undone = λ y h. let q = within_held y h in f.undone y q.1 ∙
                (ap (λ o. kept_or o (m.memory y)) (sym (oldest_forget_else y x ss q.0))
                ∙ ap (kept_or (oldest (forget_all ss x) y)) (sym (update_elsewhere m.memory x (kept_or (oldest ss x) (m.memory x)) y q.0)));
            unsaved = λ y h. elim (y == x) as (λ q. (y == x) ≡ q → cond q false (l.wrote y) ≡ false → oldest (forget_all ss x) y ≡ None) [
              | true ↦ λ e i. ap (oldest (forget_all ss x)) (eqb-true y x e) ∙ oldest_forget x ss
              | false ↦ λ e i. oldest_forget_else y x ss e ∙ f.unsaved y i
            ] refl h;
          };
        }))
    back_kept None found =
        let l' = again l b kk in
        let bare_now = none_held a p m k.w t l k.here (without l.held x) (λ y h. (within_held y h).1) found in
        quiet a p start t m l k (record (steps t m l') { memory = value }) refl refl refl refl
        (moved value l'
        (λ u y d h. absurd (false≢true h))
        (λ u y d h. refl)
        others_same
        (λ y h own. back_free y h (λ d. unheld a p m k.w t l k.here y (sym (update_elsewhere l.held x false y d) ∙ bare_now y)))
        (λ i. absurd (true≢false (sym is_giving ∙ i)))
        (record {
          ended = k.here.live.ended;
          holds = λ y h. absurd (false≢true h);
          bounded = λ y h. absurd (false≢true h);
          tx = fresh_block a p m k.w t l k.here value k.here.s.state kk l' f.began refl (λ y. refl) (λ y. refl);
        }))

  pub gives_back_kept : (b : ℕ) (kk : S) (ss : List Save) → l.tx ≡ GivingUp b kk ss → Giving a m.memory k.w.memory k.here.s.state l kk ss → (o : Option ℕ)
      → least l.held (word_bound p) ≡ o → Agreed a p start (gives_back p t m l b kk ss o).machine
  gives_back_kept b kk ss tx f None e = as_is
  gives_back_kept b kk ss tx f (Some x) e = back_kept b kk ss tx f x (eldest_some l.held (λ v. v) (word_bound p) x e)
      (least (without l.held x) (word_bound p)) refl

  -- a transaction that closes: a word is let go
  pub lets_go_kept : (b : ℕ) → l.tx ≡ Closing b → SilentSteps a k.here.s.state l.state → (o : Option ℕ) → least l.held (word_bound p) ≡ o
      → Agreed a p start (lets_go p t m l b o).machine
  lets_go_kept b tx f None e = as_is
  lets_go_kept b tx f (Some x) e = by_rest (least (without l.held x) (word_bound p)) refl
    where
      kept_of : (h : ℕ → Bool) (y : ℕ) → without h x y ≡ true → h y ≡ true
      kept_of h y i = elim (y == x) as (λ q. cond q false (h y) ≡ true → h y ≡ true) [ true ↦ λ j. absurd (false≢true j) | false ↦ λ j. j ] i

      by_rest : (q : Option ℕ) → least (without l.held x) (word_bound p) ≡ q
          → Agreed a p start (steps t m (record l { held = without l.held x; wrote = without l.wrote x; tx = closes b q }))
      by_rest q found =
          let l' : Local S = record l { held = without l.held x; wrote = without l.wrote x; tx = closes b q } in
          quiet a p start t m l k (steps t m l') refl refl refl refl
          (moved m.memory l'
          (λ u y d h. own_mine a p m k.w t l k.here u y d (kept_of l.wrote y h))
          (λ u y d h. not_true (without l.held x y) (λ i. true≢false (sym (kept_of l.held y i) ∙ own_theirs a p m k.w t l k.here u y d h)))
          (λ u y d h. refl)
          (λ y h own. everyone a p m k.w t l k.here y h (ap (λ z. is_live z && l.wrote y) tx))
          (λ i. closed q)
          (record {
            ended = k.here.live.ended;
            holds = λ y h. elim (y == x) as (λ q. cond q false (l.wrote y) ≡ true → cond q false (l.held y) ≡ true) [
              | true ↦ λ i. i
              | false ↦ λ i. k.here.live.holds y i
            ] h;
            bounded = λ y h. k.here.live.bounded y (kept_of l.held y h);
            tx = closing q found;
          }))
        where
          closed : (z : Option ℕ) → is_live {S = S} (closes b z) ≡ false
          closed None = refl
          closed (Some y) = refl

          closing : (z : Option ℕ) → least (without l.held x) (word_bound p) ≡ z
              → ShowsTx a p m.memory k.w.memory k.here.s.state (record l { held = without l.held x; wrote = without l.wrote x; tx = closes b z }) (closes b z)
          closing None i = (f, none_held a p m k.w t l k.here (without l.held x) (kept_of l.held) i)
          closing (Some y) i = f
