-- What a thread does in its outermost atomic block.
use Rattle.std.proofs.Common.{ℕ, ◌≡◌, Bool, true, false, cond, List, [], ◌∷◌, refl, ap, sym, ◌∙◌, subst}
use Rattle.std.specs.Prelude.{◌≢◌}
use Rattle.std.proofs.lemmas.Bool.{false≢true, true≢false}
use Rattle.tx_events.specs.declared.BlockKind.{BlockKind}
use Rattle.tx_events.specs.declared.BlockKind.TheVariants.{NoExcept, Commit, Cancel}
use Rattle.tx_events.specs.declared.End.{End}
use Rattle.tx_events.specs.declared.Event.{Event}
use Rattle.tx_events.specs.declared.Event.TheVariants.{Silent, Load, Store, Out, Inp, Spawn, Join, BeginAtomic, EndAtomic, Raise, BeginSync, EndSync, Done}
use Rattle.tx_events.specs.declared.Event.TheVariants.{Stop}
use Rattle.tx_events.specs.declared.Reply.{Reply}
use Rattle.tx_events.specs.declared.Reply.TheVariants.{Nothing}
use Rattle.tx_events.specs.Memory.{MemoryLayout, update, can_access}
use Rattle.tx_events.specs.Thread.{Thread}
use Rattle.tx_events.specs.Alone.{Inner, BlockStep, Inside, at_start, inner_by, leave, raise, newest, begin, is_over}
use Rattle.tx_events.specs.Alone as alone
use Rattle.tx_events.specs.World.{World as Worlds, alive}
use Rattle.tx_memory.specs.View.{layout_of, words_of}
use Rattle.src_mean.specs.Frames.{State}
use Rattle.src_mean.specs.Linked.{Program}
use Rattle.src_mean.specs.Source.{source}
use Rattle.src_replay.specs.declared.block.Step.{Step}
use Rattle.src_replay.specs.declared.block.Step.TheVariants.{Goes, Leaves, Halts, Never}
use Rattle.src_replay.specs.declared.nested.Nested.{Nested}
use Rattle.src_replay.specs.declared.world.World.{World}
use Rattle.src_replay.specs.Entries.{comes}
use Rattle.src_replay.specs.Inner.{untold, inner_of, comes_to, Came, reply_in, is_inner, is_going_step}
use Rattle.src_replay.specs.Shown.{world_of, Stands, IsSet, InBlock, BlockGoes, BlockLeaves, BlockSteps, InnerStep}
use Rattle.src_replay.specs.Undone.{copies}
use Rattle.src_replay.proofs.Moves.{update_twice}
use Rattle.src_replay.proofs.Arms.{set_world}

-- a block is open where there is a copy

module _ {S : Type 0} (a : Thread S) (p : MemoryLayout) where
  leave_open : (i : Inner S) (m : ℕ → ℕ) (cs : List (ℕ → ℕ)) (j : Inner S) → leave a i m cs ≡ alone.Goes j → j.copies ≢ []
  leave_open i m [] j e = λ _. let no : ◌≡◌ {A = BlockStep S} alone.Never (alone.Goes j) = e in absurd cc
  leave_open i m (c ∷ []) j e = λ _. let no : ◌≡◌ {A = BlockStep S} (alone.Leaves (a.after i.state Nothing) m) (alone.Goes j) = e in absurd cc
  leave_open i m (c ∷ d ∷ cs) j e = λ none.
      let same : record i { state = a.after i.state Nothing; memory = m; copies = d ∷ cs } ≡ j = cc in
      let no : ◌≡◌ {A = List (ℕ → ℕ)} (d ∷ cs) [] = ap (λ (z : Inner S). z.copies) same ∙ none in absurd cc

  same_open : (x : Inner S) (j : Inner S) → ◌≡◌ {A = BlockStep S} (alone.Goes x) (alone.Goes j) → x.copies ≢ [] → j.copies ≢ []
  same_open x j e h = λ none. let same : x ≡ j = cc in h (ap (λ (z : Inner S). z.copies) same ∙ none)

  cond_open : (b : Bool) (x : Inner S) (end : End) (j : Inner S) → cond b (alone.Goes x) (alone.Halts end) ≡ alone.Goes j → x.copies ≢ [] → j.copies ≢ []
  cond_open true x end j e h = same_open x j e h
  cond_open false x end j e h = λ _. let no : ◌≡◌ {A = BlockStep S} (alone.Halts end) (alone.Goes j) = e in absurd cc

  halts_open : (end : End) (j : Inner S) → ◌≡◌ {A = BlockStep S} (alone.Halts end) (alone.Goes j) → j.copies ≢ []
  halts_open end j e = λ _. absurd cc

  never_open : (j : Inner S) → ◌≡◌ {A = BlockStep S} alone.Never (alone.Goes j) → j.copies ≢ []
  never_open j e = λ _. absurd cc

  raise_open : (i : Inner S) (kind : BlockKind) (cancels : Bool) (j : Inner S) → raise a i kind cancels ≡ alone.Goes j → j.copies ≢ []
  raise_open i NoExcept cancels j e = halts_open _ j e
  raise_open i Commit cancels j e = leave_open i i.memory i.copies j e
  raise_open i Cancel true j e = leave_open i (newest i.copies i.memory) i.copies j e
  raise_open i Cancel false j e = halts_open _ j e

  more_open : (i j : Inner S) (e : Event) → inner_by a p i e ≡ alone.Goes j → i.copies ≢ [] → j.copies ≢ []
  more_open i j Silent e h = same_open _ j e h
  more_open i j (Load addr size volatile) e h = cond_open (can_access p addr size) _ _ j e h
  more_open i j (Store addr size value volatile) e h = cond_open (can_access p addr size) _ _ j e h
  more_open i j (BeginAtomic kind) e h = same_open _ j e (λ none. let no : ◌≡◌ {A = List (ℕ → ℕ)} (i.memory ∷ i.copies) [] = none in absurd cc)
  more_open i j EndAtomic e h = leave_open i i.memory i.copies j e
  more_open i j (Raise kind cancels) e h = raise_open i kind cancels j e
  more_open i j BeginSync e h = same_open _ j e h
  more_open i j EndSync e h = same_open _ j e h
  more_open i j (Stop end) e h = halts_open end j e
  more_open i j (Out byte) e h = never_open j e
  more_open i j Inp e h = never_open j e
  more_open i j (Spawn func arg) e h = never_open j e
  more_open i j (Join id) e h = never_open j e
  more_open i j Done e h = never_open j e

  pub inside_open : {i j : Inner S} → Inside a p i j → i.copies ≢ [] → j.copies ≢ []
  inside_open at_start h = h
  inside_open (alone.goes_on {j} {k} run e) h = more_open j k (a.next j.state) e (inside_open run h)

  pub begin_open : (s : S) (m : ℕ → ℕ) → (begin s m).copies ≢ []
  begin_open s m = λ none. let no : ◌≡◌ {A = List (ℕ → ℕ)} (m ∷ []) [] = none in absurd cc

  -- which events come there

  leave_comes : (i : Inner S) (m : ℕ → ℕ) (cs : List (ℕ → ℕ)) → cs ≢ [] → comes (leave a i m cs) ≡ true
  leave_comes i m [] h = absurd (h refl)
  leave_comes i m (c ∷ []) h = refl
  leave_comes i m (c ∷ d ∷ cs) h = refl

  cond_comes : (b : Bool) (x : Inner S) (end : End) → comes (cond b (alone.Goes x) (alone.Halts end)) ≡ true
  cond_comes true x end = refl
  cond_comes false x end = refl

  raise_comes : (i : Inner S) (kind : BlockKind) (cancels : Bool) → i.copies ≢ [] → comes (raise a i kind cancels) ≡ true
  raise_comes i NoExcept cancels h = refl
  raise_comes i Commit cancels h = leave_comes i i.memory i.copies h
  raise_comes i Cancel true h = leave_comes i (newest i.copies i.memory) i.copies h
  raise_comes i Cancel false h = refl

  pub comes_is : (i : Inner S) (e : Event) → i.copies ≢ [] → comes (inner_by a p i e) ≡ is_inner e
  comes_is i Silent h = refl
  comes_is i (Load addr size volatile) h = cond_comes (can_access p addr size) _ _
  comes_is i (Store addr size value volatile) h = cond_comes (can_access p addr size) _ _
  comes_is i (BeginAtomic kind) h = refl
  comes_is i EndAtomic h = leave_comes i i.memory i.copies h
  comes_is i (Raise kind cancels) h = raise_comes i kind cancels h
  comes_is i BeginSync h = refl
  comes_is i EndSync h = refl
  comes_is i (Stop end) h = refl
  comes_is i (Out byte) h = refl
  comes_is i Inp h = refl
  comes_is i (Spawn func arg) h = refl
  comes_is i (Join id) h = refl
  comes_is i Done h = refl

  -- a step of a thread of which nothing is told, and that of this one

  abbrev Alike : S → S → BlockStep (Unit {0}) → BlockStep S → Type 0
  Alike r n (alone.Goes x) (alone.Goes j) = (j.memory ≡ x.memory) × (j.copies ≡ x.copies) × (j.state ≡ r)
  Alike r n (alone.Leaves u m) (alone.Leaves s k) = (s ≡ n) × (k ≡ m)
  Alike r n (alone.Halts e) (alone.Halts f) = f ≡ e
  Alike r n alone.Never alone.Never = Unit {0}
  Alike r n x y = ⊥

  alike_leave : (i : Inner S) (m : ℕ → ℕ) (cs : List (ℕ → ℕ))
      → Alike (a.after i.state Nothing) (a.after i.state Nothing) (leave untold (inner_of i.memory i.copies) m cs) (leave a i m cs)
  alike_leave i m [] = tt
  alike_leave i m (c ∷ []) = (refl, refl)
  alike_leave i m (c ∷ d ∷ cs) = (refl, refl, refl)

  alike_raise : (i : Inner S) (kind : BlockKind) (cancels : Bool)
      → Alike (a.after i.state Nothing) (a.after i.state Nothing) (raise untold (inner_of i.memory i.copies) kind cancels) (raise a i kind cancels)
  alike_raise i NoExcept cancels = refl
  alike_raise i Commit cancels = alike_leave i i.memory i.copies
  alike_raise i Cancel true = alike_leave i (newest i.copies i.memory) i.copies
  alike_raise i Cancel false = refl

  alike_cond : (r n : S) (b : Bool) (x : Inner (Unit {0})) (j : Inner S) (end : End) → j.memory ≡ x.memory → j.copies ≡ x.copies → j.state ≡ r
      → Alike r n (cond b (alone.Goes x) (alone.Halts end)) (cond b (alone.Goes j) (alone.Halts end))
  alike_cond r n true x j end e f g = (e, f, g)
  alike_cond r n false x j end e f g = refl

  alike : (i : Inner S) (e : Event) → Alike (a.after i.state (reply_in i.memory Goes e)) (a.after i.state Nothing) (comes_to p i.memory i.copies e)
      (inner_by a p i e)
  alike i Silent = (refl, refl, refl)
  alike i (Load addr size volatile) = alike_cond _ _ (can_access p addr size) _ _ _ refl refl refl
  alike i (Store addr size value volatile) = alike_cond _ _ (can_access p addr size) _ _ _ refl refl refl
  alike i (BeginAtomic kind) = (refl, refl, refl)
  alike i EndAtomic = alike_leave i i.memory i.copies
  alike i (Raise kind cancels) = alike_raise i kind cancels
  alike i BeginSync = (refl, refl, refl)
  alike i EndSync = (refl, refl, refl)
  alike i (Stop end) = refl
  alike i (Out byte) = tt
  alike i Inp = tt
  alike i (Spawn func arg) = tt
  alike i (Join id) = tt
  alike i Done = tt

  record WentTo (y : BlockStep S) (r : S) (m : ℕ → ℕ) (cs : List (ℕ → ℕ)) : Type 0 where
    pub next : Inner S
    pub goes_to : y ≡ alone.Goes next
    pub memory : next.memory ≡ m
    pub copies : next.copies ≡ cs
    pub state : next.state ≡ r

  to_next : (r n : S) (m : ℕ → ℕ) (cs : List (ℕ → ℕ)) (x : BlockStep (Unit {0})) (y : BlockStep S) → Came m cs Goes x → Alike r n x y → WentTo y r m cs
  to_next r n m cs (alone.Goes x) (alone.Goes j) h k = record { next = j; goes_to = refl; memory = k.0 ∙ sym h.0; copies = k.1 ∙ sym h.1; state = k.2 }
  to_next r n m cs (alone.Goes x) (alone.Leaves s l) h k = absurd k
  to_next r n m cs (alone.Goes x) (alone.Halts e) h k = absurd k
  to_next r n m cs (alone.Goes x) alone.Never h k = absurd k
  to_next r n m cs (alone.Leaves u l) y h k = absurd h
  to_next r n m cs (alone.Halts e) y h k = absurd h
  to_next r n m cs alone.Never y h k = absurd h

  to_left : (r n : S) (m : ℕ → ℕ) (cs : List (ℕ → ℕ)) (x : BlockStep (Unit {0})) (y : BlockStep S) → Came m cs Leaves x → Alike r n x y → y ≡ alone.Leaves n m
  to_left r n m cs (alone.Leaves u l) (alone.Leaves s k) h e = ap (λ z. alone.Leaves z k) e.0 ∙ ap (λ z. alone.Leaves n z) (e.1 ∙ sym h.0)
  to_left r n m cs (alone.Leaves u l) (alone.Goes j) h k = absurd k
  to_left r n m cs (alone.Leaves u l) (alone.Halts e) h k = absurd k
  to_left r n m cs (alone.Leaves u l) alone.Never h k = absurd k
  to_left r n m cs (alone.Goes x) y h k = absurd h
  to_left r n m cs (alone.Halts e) y h k = absurd h
  to_left r n m cs alone.Never y h k = absurd h

  to_halt : (r n : S) (m : ℕ → ℕ) (cs : List (ℕ → ℕ)) (end : End) (x : BlockStep (Unit {0})) (y : BlockStep S) → Came m cs (Halts end) x → Alike r n x y
      → y ≡ alone.Halts end
  to_halt r n m cs end (alone.Halts e) (alone.Halts f) h k = ap (λ z. alone.Halts z) (k ∙ sym h)
  to_halt r n m cs end (alone.Halts e) (alone.Goes j) h k = absurd k
  to_halt r n m cs end (alone.Halts e) (alone.Leaves s l) h k = absurd k
  to_halt r n m cs end (alone.Halts e) alone.Never h k = absurd k
  to_halt r n m cs end (alone.Goes x) y h k = absurd h
  to_halt r n m cs end (alone.Leaves u l) y h k = absurd h
  to_halt r n m cs end alone.Never y h k = absurd h

  to_never : (r n : S) (m : ℕ → ℕ) (cs : List (ℕ → ℕ)) (x : BlockStep (Unit {0})) (y : BlockStep S) → Came m cs Never x → Alike r n x y → y ≡ alone.Never
  to_never r n m cs alone.Never alone.Never h k = refl
  to_never r n m cs alone.Never (alone.Goes j) h k = absurd k
  to_never r n m cs alone.Never (alone.Leaves s l) h k = absurd k
  to_never r n m cs alone.Never (alone.Halts e) h k = absurd k
  to_never r n m cs (alone.Goes x) y h k = absurd h
  to_never r n m cs (alone.Leaves u l) y h k = absurd h
  to_never r n m cs (alone.Halts e) y h k = absurd h

module _ (program : Program) (t : ℕ) (w : Worlds State) (i : Inner State) where
  -- what came, at the memory and the copies of the point where the thread is
  pub came_there : (p : MemoryLayout) (old : World) (nested : Nested) (m : ℕ → ℕ) (cs : List (ℕ → ℕ)) (step : Step) (event : Event) → InBlock t w i old nested
      → event ≡ i.state.event
      → Came m cs step (comes_to p (words_of old.memory) (copies nested (words_of old.memory)) event)
      → Came m cs step (comes_to p i.memory i.copies i.state.event)
  came_there p old nested m cs step event at e h =
      subst (λ (z : Event). Came m cs step (comes_to p i.memory i.copies z)) e
      (subst (λ (z : List (ℕ → ℕ)). Came m cs step (comes_to p i.memory z event)) at.noted
      (subst (λ (z : ℕ → ℕ). Came m cs step (comes_to p z (copies nested (words_of old.memory)) event)) (ap (λ (z : Worlds State). z.memory) at.world) h))

  pub replied_there : (old : World) (nested : Nested) (step : Step) (event : Event) (reply : Reply) → InBlock t w i old nested → event ≡ i.state.event
      → reply ≡ reply_in (words_of old.memory) step event → reply ≡ reply_in i.memory step i.state.event
  replied_there old nested step event reply at e h =
      h ∙ (ap (λ (z : ℕ → ℕ). reply_in z step event) (ap (λ (z : Worlds State). z.memory) at.world) ∙ ap (λ (z : Event). reply_in i.memory step z) e)

  -- the world after the thread went on in its block
  gone : (old new : World) (nested : Nested) (r : State) → InBlock t w i old nested
      → IsSet program (layout_of new.memory) t (record { state = r; ended = false }) old.threads.alive.items new.threads.alive.items
      → new ≡ record old { memory = new.memory; threads = new.threads }
      → world_of new ≡ record w { memory = words_of new.memory; threads = update w.threads t (alive r) }
  gone old new nested r at set same =
      ap world_of same ∙ (set_world (record (world_of old) { memory = words_of new.memory }) program (layout_of new.memory) t
      (record { state = r; ended = false }) old.threads.alive.items new.threads.alive.items set
      ∙ (ap (λ (z : Worlds State). record z { memory = words_of new.memory; threads = update z.threads t (alive r) }) at.world
      ∙ ap (λ f. record w { memory = words_of new.memory; threads = f }) (update_twice w.threads t (alive i.state) (alive r))))

  pub went_in_block : (p : MemoryLayout) (old new : World) (nested after : Nested) (step : Step) (reply : Reply) → is_going_step step ≡ true
      → InBlock t w i old nested
      → Came (words_of new.memory) (copies after (words_of new.memory)) step (comes_to p i.memory i.copies i.state.event)
      → reply ≡ reply_in i.memory step i.state.event
      → IsSet program (layout_of new.memory) t (record {
        state = (source program).after i.state reply;
        ended =
            false;
      }) old.threads.alive.items new.threads.alive.items
      → new ≡ record old { memory = new.memory; threads = new.threads } → InnerStep program p t w i new after step
  went_in_block p old new nested after (Halts end) reply going at came answered set same = absurd (false≢true going)
  went_in_block p old new nested after Never reply going at came answered set same = absurd (false≢true going)
  went_in_block p old new nested after Goes reply going at came answered set same =
      let a = source program in
      let m = words_of new.memory in
      let to = to_next a p (a.after i.state (reply_in i.memory Goes i.state.event)) (a.after i.state Nothing) m (copies after m)
      (comes_to p i.memory i.copies i.state.event) (inner_by a p i i.state.event) came (alike a p i i.state.event) in
      let r : a.after i.state reply ≡ to.next.state = ap (λ (z : Reply). a.after i.state z) answered ∙ sym to.state in
      record {
        stands = set.stand;
        steps = record {
          next = to.next;
          goes_to = to.goes_to;
          at = record {
            world = gone old new nested (a.after i.state reply) at set same
                ∙ (ap (λ (z : ℕ → ℕ). record w { memory = z; threads = update w.threads t (alive (a.after i.state reply)) }) (sym to.memory)
                ∙ ap (λ (z : State). record w { memory = to.next.memory; threads = update w.threads t (alive z) }) r);
            noted = sym to.copies;
          };
        };
      }
  went_in_block p old new nested after Leaves reply going at came answered set same =
      let a = source program in
      let m = words_of new.memory in
      record {
        stands = set.stand;
        steps = record {
          state = a.after i.state Nothing;
          leaves = to_left a p (a.after i.state (reply_in i.memory Goes i.state.event)) (a.after i.state Nothing) m (copies after m)
              (comes_to p i.memory i.copies i.state.event) (inner_by a p i i.state.event) came (alike a p i i.state.event);
          world = gone old new nested (a.after i.state reply) at set same
              ∙ ap (λ (z : Reply). record w { memory = m; threads = update w.threads t (alive (a.after i.state z)) }) answered;
        };
      }

  pub stopped_in_block : (p : MemoryLayout) (new : World) (after : Nested) (m : ℕ → ℕ) (cs : List (ℕ → ℕ)) (step : Step) → is_going_step step ≡ false
      → Came m cs step (comes_to p i.memory i.copies i.state.event) → Stands program new → InnerStep program p t w i new after step
  stopped_in_block p new after m cs Goes stopped came stands = absurd (true≢false stopped)
  stopped_in_block p new after m cs Leaves stopped came stands = absurd (true≢false stopped)
  stopped_in_block p new after m cs (Halts end) stopped came stands =
      let a = source program in
      record {
        stands = stands;
        steps = to_halt a p (a.after i.state (reply_in i.memory Goes i.state.event)) (a.after i.state Nothing) m cs end
            (comes_to p i.memory i.copies i.state.event) (inner_by a p i i.state.event) came (alike a p i i.state.event);
      }
  stopped_in_block p new after m cs Never stopped came stands =
      let a = source program in
      record {
        stands = stands;
        steps = to_never a p (a.after i.state (reply_in i.memory Goes i.state.event)) (a.after i.state Nothing) m cs
            (comes_to p i.memory i.copies i.state.event) (inner_by a p i i.state.event) came (alike a p i i.state.event);
      }

pub inner_on : (program : Program) (p q : MemoryLayout) (t : ℕ) (w : Worlds State) (i : Inner State) (new : World) (nested : Nested) (step : Step) → q ≡ p
    → InnerStep program q t w i new nested step → InnerStep program p t w i new nested step
inner_on program p q t w i new nested step e h = subst (λ (z : MemoryLayout). InnerStep program z t w i new nested step) e h

pub at_goes : (program : Program) (p : MemoryLayout) (t : ℕ) (w : Worlds State) (i : Inner State) (new : World) (nested : Nested) (step : Step) → step ≡ Goes
    → InnerStep program p t w i new nested step → BlockGoes program p t w i new nested
at_goes program p t w i new nested step e h = subst (λ (z : Step). BlockSteps program p t w i new nested z) e h.steps

pub at_leaves : (program : Program) (p : MemoryLayout) (t : ℕ) (w : Worlds State) (i : Inner State) (new : World) (nested : Nested) (step : Step)
    → step ≡ Leaves → InnerStep program p t w i new nested step → BlockLeaves program p t w i new
at_leaves program p t w i new nested step e h = subst (λ (z : Step). BlockSteps program p t w i new nested z) e h.steps

pub at_halts : (program : Program) (p : MemoryLayout) (t : ℕ) (w : Worlds State) (i : Inner State) (new : World) (nested : Nested) (step : Step) (end : End)
    → step ≡ Halts end → InnerStep program p t w i new nested step
    → inner_by (source program) p i i.state.event ≡ alone.Halts end
at_halts program p t w i new nested step end e h = subst (λ (z : Step). BlockSteps program p t w i new nested z) e h.steps

pub at_never : (program : Program) (p : MemoryLayout) (t : ℕ) (w : Worlds State) (i : Inner State) (new : World) (nested : Nested) (step : Step) → step ≡ Never
    → InnerStep program p t w i new nested step → inner_by (source program) p i i.state.event ≡ alone.Never
at_never program p t w i new nested step e h = subst (λ (z : Step). BlockSteps program p t w i new nested z) e h.steps
