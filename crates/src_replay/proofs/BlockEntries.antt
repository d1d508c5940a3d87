-- A whole atomic block as one step.
use Rattle.std.proofs.Common.{ℕ, ◌≡◌, ◌+◌, Bool, true, false, Some, None, List, [], ◌∷◌, ◌++◌, map, length, refl, ap, sym, ◌∙◌, subst, arith}
use Rattle.std.specs.Prelude.{reverse, ◌≢◌}
use Rattle.tx_events.specs.declared.BlockKind.{BlockKind}
use Rattle.tx_events.specs.declared.End.{End}
use Rattle.tx_events.specs.declared.Event.{Event}
use Rattle.tx_events.specs.declared.Event.TheVariants.{BeginAtomic}
use Rattle.tx_events.specs.declared.Reply.TheVariants.{Nothing}
use Rattle.tx_events.specs.Memory.{MemoryLayout, update}
use Rattle.tx_events.specs.Alone.{Inner, BlockStep, Inside, Alone, at_start, inner_by, begin, is_over, outcome}
use Rattle.tx_events.specs.Alone as alone
use Rattle.tx_events.specs.World.{World as Worlds, alive, goes, ends, lock_free, BlockEffect, EventStep}
use Rattle.tx_memory.specs.View.{layout_of, words_of}
use Rattle.src_mean.specs.Frames.{State}
use Rattle.src_mean.specs.Linked.{Program}
use Rattle.src_mean.specs.Source.{source}
use Rattle.src_replay.specs.declared.nested.Nested.{Nested}
use Rattle.src_replay.specs.declared.world.Entry.{Entry}
use Rattle.src_replay.specs.declared.world.Entry.TheVariants.{Taken}
use Rattle.src_replay.specs.declared.world.World.{World}
use Rattle.src_replay.specs.Entries.{comes}
use Rattle.src_replay.specs.Inner.{is_inner}
use Rattle.src_replay.specs.Shown.{world_of, Stands, IsSet, Does, Inmost, ActTaken, ActRefused, ActSpent, Acted, BlockGoes, BlockLeaves, BlockRun}
use Rattle.src_replay.specs.Undone.{copies, undone}
use Rattle.src_replay.proofs.Moves.{goes_twice}
use Rattle.src_replay.proofs.Arms.{set_world, shows_going}
use Rattle.src_replay.proofs.BlockSteps.{inside_open, begin_open, comes_is}
use Rattle.src_replay.proofs.Undone.{begun_copies}

-- a block that began leaves a mark
pub some_mark : (xs before : List ℕ) (n : ℕ) → xs ≡ before ++ n ∷ [] → before ≡ [] → xs ≢ []
some_mark xs before n f g = λ none. let no : ◌≡◌ {A = List ℕ} (n ∷ []) [] = ap (λ (z : List ℕ). z ++ n ∷ []) (sym g) ∙ (sym f ∙ none) in absurd cc

module _ (program : Program) (p : MemoryLayout) (t : ℕ) (w : Worlds State) (s : State) (left : ℕ) where
  -- just after the block began
  unfoldable pub block_start : (old now : World) (first nested : Nested) → world_of old ≡ goes t w s
      → IsSet program (layout_of now.memory) t (record {
        state = (source program).after s Nothing;
        ended =
            false;
      }) old.threads.alive.items now.threads.alive.items
      → now ≡ record old { threads = now.threads } → first.notes.items ≡ [] → first.marks.items ≡ [] → nested.notes.items ≡ first.notes.items
      → nested.marks.items ≡ first.marks.items ++ length first.notes.items ∷ []
      → old.left ≡ left → BlockRun program p t w s left now nested
  block_start old now first nested e set same notes marks more_notes more_marks l =
      let r = (source program).after s Nothing in
      let world : world_of now ≡ goes t w r = ap world_of same
      ∙ (set_world (world_of old) program (layout_of now.memory) t (record { state = r; ended = false }) old.threads.alive.items now.threads.alive.items set
      ∙ (ap (λ (z : Worlds State). goes t z r) e ∙ goes_twice t w s r)) in
      let memory : words_of now.memory ≡ w.memory = ap (λ (z : Worlds State). z.memory) world in
      let none : copies first w.memory ≡ [] = ap (λ (ms : List ℕ). map (λ (k : ℕ). undone first.notes.items k w.memory) (reverse ms)) marks in
      let kept : now.left ≡ old.left = ap (λ (z : World). z.left) same in
      record {
        last = begin r w.memory;
        run = at_start;
        cost = omega (arith, kept, l);
        at = record {
          world = world;
          noted = ap (λ (m : ℕ → ℕ). copies nested m) memory
              ∙ (begun_copies p first nested w.memory more_notes more_marks ∙ ap (λ (cs : List (ℕ → ℕ)). w.memory ∷ cs) none);
        };
        stands = set.stand;
      }

  open_at : (now : World) (nested : Nested) (h : BlockRun program p t w s left now nested) → h.last.copies ≢ []
  open_at now nested h = inside_open (source program) p h.run (begin_open (source program) p ((source program).after s Nothing) w.memory)

  -- one step more
  unfoldable pub block_more : (old mid paid : World) (before nested : Nested) (h : BlockRun program p t w s left old before)
      → BlockGoes program p t w h.last mid nested → Stands program mid → mid.left ≡ old.left → paid ≡ record mid { left = paid.left } → paid.left + 1 ≡ mid.left
      → BlockRun program p t w s left paid nested
  block_more old mid paid before nested h g stands kept same less = record {
    last = g.next;
    run = alone.goes_on h.run g.goes_to;
    cost = omega (arith, h.cost, kept, less);
    at = record {
      world = ap world_of same ∙ g.at.world;
      noted = ap (λ (z : World). copies nested (words_of z.memory)) same ∙ g.at.noted;
    };
    stands = subst (λ (z : World). Stands program z) (sym same) stands;
  }

  -- no block goes on without one that is open
  pub never_shut : (mid : World) (nested : Nested) (i : Inner State) (old : World) (before : Nested) (h : BlockRun program p t w s left old before)
      (g : BlockGoes program p t w h.last mid nested) → nested.marks.items ≡ [] → ⊥
  never_shut mid nested i old before h g shut =
      let some : g.next.copies ≢ [] = inside_open (source program) p (alone.goes_on h.run g.goes_to)
      (begin_open (source program) p ((source program).after s Nothing) w.memory) in
      some (sym g.at.noted ∙ ap (λ (ms : List ℕ). map (λ (k : ℕ). undone nested.notes.items k (words_of mid.memory)) (reverse ms)) shut)

  module _ (kind : BlockKind) (begins : s.event ≡ BeginAtomic kind) (free : lock_free t w.lock ≡ true) where
    abbrev inmost : (now : World) (nested : Nested) → BlockRun program p t w s left now nested → Inmost program p t w s
    inmost now nested h = record { kind = kind; last = h.last; begins = begins; free = free; run = h.run }

    -- the block as one event
    whole : (now : World) (nested : Nested) (h : BlockRun program p t w s left now nested) (y : BlockStep State) (v : Worlds State) (k : ℕ)
        → inner_by (source program) p h.last h.last.state.event ≡ y → is_over y ≡ true → BlockEffect t w y v → k + 1 ≡ now.left
        → Does program p t w s s.event v left k
    whole now nested h y v k e over lands less =
        let alone_run : Alone (source program) p ((source program).after s Nothing) w.memory =
        record { last = h.last; run = h.run; over = ap is_over e ∙ over } in
        let does : EventStep (source program) p t w s (BeginAtomic kind) v =
        (free, alone_run, subst (λ (z : BlockStep State). BlockEffect t w z v) (sym e) lands) in
        let done : Does program p t w s (BeginAtomic kind) v left k = record { does = does; cost = omega (arith, h.cost, less) } in
        subst (λ (z : Event). Does program p t w s z v left k) (sym begins) done

    pub block_left : (old mid paid : World) (before : Nested) (h : BlockRun program p t w s left old before) → BlockLeaves program p t w h.last mid
        → Stands program mid → layout_of mid.memory ≡ p → mid.left ≡ old.left → paid ≡ record mid { left = paid.left } → paid.left + 1 ≡ mid.left
        → ActTaken program p t w s left paid
    block_left old mid paid before h g stands layout kept same less =
        let v : Worlds State = record w { memory = words_of mid.memory; threads = update w.threads t (alive g.state) } in
        let world : world_of paid ≡ v = ap world_of same ∙ g.world in
        record {
          world = v;
          done = whole old before h (alone.Leaves g.state (words_of mid.memory)) v paid.left g.leaves refl refl (less ∙ kept);
          shows = shows_going t w s program paid v world;
          stands = subst (λ (z : World). Stands program z) (sym same) stands;
          layout = ap (λ (z : World). layout_of z.memory) same ∙ layout;
        }

    pub block_halted : (old mid paid new : World) (before : Nested) (end : End) (r : Entry) (h : BlockRun program p t w s left old before)
        → inner_by (source program) p h.last h.last.state.event ≡ alone.Halts end → Stands program mid → layout_of mid.memory ≡ p
        → length mid.threads.alive.items ≡ length old.threads.alive.items → mid ≡ record old { memory = mid.memory; threads = mid.threads } → paid ≡ record mid { left = paid.left } → paid.left + 1 ≡ mid.left → (r ≡ Taken)
        × (new ≡ record paid { end = Some end }) → Acted program p t w s left new r
    block_halted old mid paid new before end r h e stands layout count kept same less n =
        let out : new.out.items ≡ w.out = ap (λ (z : World). z.out.items) n.1
        ∙ (ap (λ (z : World). z.out.items) same ∙ (ap (λ (z : World). z.out.items) kept ∙ ap (λ (z : Worlds State). z.out) h.at.world)) in
        let same_left : new.left ≡ paid.left = ap (λ (z : World). z.left) n.1 in
        let before_left : mid.left ≡ old.left = ap (λ (z : World). z.left) kept in
        let taken : ActTaken program p t w s left new = record {
          world = ends w end;
          done = whole old before h (alone.Halts end) (ends w end) new.left e refl refl (omega (arith, same_left, less, before_left));
          shows = record {
            end_is = ap (λ (z : World). z.end) n.1;
            out_is = out;
            started_is = ap (λ (z : World). length z.threads.alive.items) n.1
                ∙ (ap (λ (z : World). length z.threads.alive.items) same ∙ (count ∙ ap (λ (z : Worlds State). z.started) h.at.world));
            all = λ none. let no : Some end ≡ None = sym (ap (λ (z : World). z.end) n.1)
                ∙ none in absurd cc;
          };
          stands = subst (λ (z : World). Stands program z) (sym n.1) (subst (λ (z : World). Stands program z) (sym same) stands);
          layout = ap (λ (z : World). layout_of z.memory) n.1 ∙ (ap (λ (z : World). layout_of z.memory) same ∙ layout);
        } in
        subst (λ (z : Entry). Acted program p t w s left new z) (sym n.0) taken

    pub block_never : (old : World) (before : Nested) (h : BlockRun program p t w s left old before)
        → inner_by (source program) p h.last h.last.state.event ≡ alone.Never → ActRefused program p t w s left
    block_never old before h e = record { at = inmost old before h; cost = omega (arith, h.cost); never = ap comes e }

    pub next_comes : (old : World) (before : Nested) (h : BlockRun program p t w s left old before) (event : Event) (b : Bool) → event ≡ h.last.state.event
        → b ≡ is_inner event → comes (inner_by (source program) p h.last h.last.state.event) ≡ b
    next_comes old before h event b e q = comes_is (source program) p h.last h.last.state.event (open_at old before h) ∙ (sym (ap is_inner e) ∙ sym q)

    pub block_refused : (old : World) (before : Nested) (h : BlockRun program p t w s left old before) (event : Event) (b : Bool) → event ≡ h.last.state.event
        → b ≡ is_inner event → b ≡ false → ActRefused program p t w s left
    block_refused old before h event b e q f = record {
      at = inmost old before h;
      cost = omega (arith, h.cost);
      never = next_comes old before h event b e q
          ∙ f;
    }

    pub block_spent : (old : World) (before : Nested) (h : BlockRun program p t w s left old before) (event : Event) (b : Bool) → event ≡ h.last.state.event
        → b ≡ is_inner event → b ≡ true → old.left ≡ 0 → ActSpent program p t w s left
    block_spent old before h event b e q f none = record {
      at = inmost old before h;
      cost = omega (arith, h.cost, none);
      further =
          next_comes old before h event b e q ∙ f;
    }
