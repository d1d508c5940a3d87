-- A whole atomic block, with the events that come in it.
use Rattle.std.proofs.Common.{ℕ, ◌≡◌, ◌+◌, Bool, true, false, Some, None, List, [], ◌∷◌, ◌++◌, length, refl, ap, sym, ◌∙◌, subst, arith, append_assoc}
use Rattle.std.proofs.lemmas.Bool.{true≢false}
use Rattle.tx_events.specs.declared.BlockKind.{BlockKind}
use Rattle.tx_events.specs.declared.End.{End}
use Rattle.tx_events.specs.declared.Event.{Event}
use Rattle.tx_events.specs.declared.Event.TheVariants.{BeginAtomic}
use Rattle.tx_events.specs.declared.Reply.TheVariants.{Nothing}
use Rattle.tx_events.specs.Memory.{MemoryLayout, update}
use Rattle.tx_events.specs.Alone.{BlockStep, Alone, inner_by, begin, is_over}
use Rattle.tx_events.specs.Alone as alone
use Rattle.tx_events.specs.World.{World as Worlds, alive, goes, ends, lock_free, BlockEffect, EventStep}
use Rattle.tx_memory.specs.View.{layout_of, words_of}
use Rattle.src_mean.specs.Frames.{State}
use Rattle.src_mean.specs.Linked.{Program}
use Rattle.src_mean.specs.Source.{source}
use Rattle.src_replay.specs.declared.nested.Nested.{Nested}
use Rattle.src_replay.specs.declared.world.Entry.{Entry}
use Rattle.src_replay.specs.declared.world.Entry.TheVariants.{Taken}
use Rattle.src_replay.specs.declared.world.World.{World}
use Rattle.src_replay.specs.Entries.{comes}
use Rattle.src_replay.specs.Inner.{is_inner}
use Rattle.src_replay.specs.LoneRuns.{loud, inside_events}
use Rattle.src_replay.specs.Seen.{SeenBlock, SeenDoes, SeenTaken, SeenRefused, SeenSpent, SeenAct}
use Rattle.src_replay.specs.Shown.{world_of, Stands, IsSet, Does, Inmost, ActTaken, BlockGoes, BlockLeaves, BlockRun}
use Rattle.src_replay.proofs.Arms.{shows_going}
use Rattle.src_replay.proofs.BlockEntries.{block_start, block_more, next_comes}

module _ (program : Program) (p : MemoryLayout) (t : ℕ) (w : Worlds State) (s : State) (event : Event) (left : ℕ) (before : List Event) where
  -- just after the block began
  pub seen_start : (old now : World) (first nested : Nested) (after : List Event) → world_of old ≡ goes t w s
      → IsSet program (layout_of now.memory) t (record {
        state = (source program).after s Nothing;
        ended =
            false;
      }) old.threads.alive.items now.threads.alive.items
      → now ≡ record old { threads = now.threads } → first.notes.items ≡ [] → first.marks.items ≡ [] → nested.notes.items ≡ first.notes.items
      → nested.marks.items ≡ first.marks.items ++ length first.notes.items ∷ []
      → old.left ≡ left → after ≡ before ++ event ∷ [] → SeenBlock program p t w s event left now nested before after
  unfolding block_start
  seen_start old now first nested after e set same notes marks more_notes more_marks l told = record {
    block = block_start program p t w s left old now first nested e set same notes marks more_notes more_marks l;
    seen = told;
  }

  -- what was written down of the steps so far and of one more
  told_more : (old : World) (b : Nested) (told after : List Event) (next : Event) (h : SeenBlock program p t w s event left old b before told)
      → next ≡ h.block.last.state.event → after ≡ told ++ loud next
      → after ≡ before ++ event ∷ (inside_events (source program) p h.block.run ++ loud h.block.last.state.event)
  told_more old b told after next h e more =
      more ∙ (ap (λ (z : List Event). z ++ loud next) h.seen
      ∙ (append_assoc before (event ∷ inside_events (source program) p h.block.run) (loud next)
      ∙ ap (λ (z : Event). before ++ event ∷ (inside_events (source program) p h.block.run ++ loud z)) e))

  pub seen_more : (old mid paid : World) (b nested : Nested) (told after : List Event) (next : Event)
      (h : SeenBlock program p t w s event left old b before told) → BlockGoes program p t w h.block.last mid nested → Stands program mid → mid.left ≡ old.left
      → paid ≡ record mid { left = paid.left } → paid.left + 1 ≡ mid.left → next ≡ h.block.last.state.event → after ≡ told ++ loud next
      → SeenBlock program p t w s event left paid nested before after
  unfolding block_more
  seen_more old mid paid b nested told after next h g stands kept same less e more = record {
    block = block_more program p t w s left old mid paid b nested h.block g stands kept same less;
    seen = told_more old b told after next h e more;
  }

  module _ (kind : BlockKind) (begins : s.event ≡ BeginAtomic kind) (is : event ≡ BeginAtomic kind) (free : lock_free t w.lock ≡ true) where
    -- the block as one event
    whole : (now : World) (nested : Nested) (h : BlockRun program p t w s left now nested) (y : BlockStep State) (v : Worlds State) (k : ℕ)
        → inner_by (source program) p h.last h.last.state.event ≡ y → is_over y ≡ true → BlockEffect t w y v → k + 1 ≡ now.left
        → SeenDoes program p t w s s.event v left k (event ∷ (inside_events (source program) p h.run ++ loud h.last.state.event))
    whole now nested h y v k e over lands less =
        let alone_run : Alone (source program) p ((source program).after s Nothing) w.memory =
        record { last = h.last; run = h.run; over = ap is_over e ∙ over } in
        let does : EventStep (source program) p t w s (BeginAtomic kind) v =
        (free, alone_run, subst (λ (z : BlockStep State). BlockEffect t w z v) (sym e) lands) in
        let done : Does program p t w s (BeginAtomic kind) v left k = record { does = does; cost = omega (arith, h.cost, less) } in
        let came = event ∷ (inside_events (source program) p h.run ++ loud h.last.state.event) in
        let all : SeenDoes program p t w s (BeginAtomic kind) v left k came =
        record { done = done; all = ap (λ (z : Event). z ∷ (inside_events (source program) p h.run ++ loud h.last.state.event)) is } in
        subst (λ (z : Event). SeenDoes program p t w s z v left k came) (sym begins) all

    pub seen_left : (old mid paid : World) (b : Nested) (told after : List Event) (next : Event) (h : SeenBlock program p t w s event left old b before told)
        → BlockLeaves program p t w h.block.last mid → Stands program mid → layout_of mid.memory ≡ p
        → mid.left ≡ old.left → paid ≡ record mid { left = paid.left } → paid.left + 1 ≡ mid.left → next ≡ h.block.last.state.event → after ≡ told ++ loud next
        → SeenTaken program p t w s left paid before after
    seen_left old mid paid b told after next h g stands layout kept same less e more =
        let v : Worlds State = record w { memory = words_of mid.memory; threads = update w.threads t (alive g.state) } in
        let world : world_of paid ≡ v = ap world_of same ∙ g.world in
        let d = whole old b h.block (alone.Leaves g.state (words_of mid.memory)) v paid.left g.leaves refl refl (less ∙ kept) in
        let taken : ActTaken program p t w s left paid = record {
          world = v;
          done = d.done;
          shows = shows_going t w s program paid v world;
          stands = subst (λ (z : World). Stands program z) (sym same) stands;
          layout = ap (λ (z : World). layout_of z.memory) same ∙ layout;
        } in
        record { taken = taken; seen = told_more old b told after next h e more ∙ ap (λ (z : List Event). before ++ z) d.all }

    pub seen_halted : (old mid paid new : World) (b : Nested) (end : End) (r : Entry) (told after : List Event) (next : Event)
        (h : SeenBlock program p t w s event left old b before told) → inner_by (source program) p h.block.last h.block.last.state.event ≡ alone.Halts end
        → Stands program mid → layout_of mid.memory ≡ p → length mid.threads.alive.items ≡ length old.threads.alive.items
        → mid ≡ record old { memory = mid.memory; threads = mid.threads }
        → paid ≡ record mid { left = paid.left } → paid.left + 1 ≡ mid.left → (r ≡ Taken) × (new ≡ record paid { end = Some end })
        → next ≡ h.block.last.state.event → after ≡ told ++ loud next → SeenAct program p t w s left new before after r
    seen_halted old mid paid new b end r told after next h e stands layout count kept same less n here more =
        let out : new.out.items ≡ w.out = ap (λ (z : World). z.out.items) n.1
        ∙ (ap (λ (z : World). z.out.items) same ∙ (ap (λ (z : World). z.out.items) kept ∙ ap (λ (z : Worlds State). z.out) h.block.at.world)) in
        let same_left : new.left ≡ paid.left = ap (λ (z : World). z.left) n.1 in
        let before_left : mid.left ≡ old.left = ap (λ (z : World). z.left) kept in
        let d = whole old b h.block (alone.Halts end) (ends w end) new.left e refl refl (omega (arith, same_left, less, before_left)) in
        let taken : ActTaken program p t w s left new = record {
          world = ends w end;
          done = d.done;
          shows = record {
            end_is = ap (λ (z : World). z.end) n.1;
            out_is = out;
            started_is = ap (λ (z : World). length z.threads.alive.items) n.1
                ∙ (ap (λ (z : World). length z.threads.alive.items) same ∙ (count ∙ ap (λ (z : Worlds State). z.started) h.block.at.world));
            all = λ none. let no : Some end ≡ None = sym (ap (λ (z : World). z.end) n.1)
                ∙ none in absurd cc;
          };
          stands = subst (λ (z : World). Stands program z) (sym n.1) (subst (λ (z : World). Stands program z) (sym same) stands);
          layout = ap (λ (z : World). layout_of z.memory) n.1 ∙ (ap (λ (z : World). layout_of z.memory) same ∙ layout);
        } in
        let seen : SeenTaken program p t w s left new before after =
        record { taken = taken; seen = told_more old b told after next h here more ∙ ap (λ (z : List Event). before ++ z) d.all } in
        subst (λ (z : Entry). SeenAct program p t w s left new before after z) (sym n.0) seen

    abbrev at_last : (now : World) (nested : Nested) → BlockRun program p t w s left now nested → Inmost program p t w s
    at_last now nested h = record { kind = kind; last = h.last; begins = begins; free = free; run = h.run }

    out_there : (old : World) (b : Nested) (h : BlockRun program p t w s left old b) → old.out.items ≡ w.out
    out_there old b h = ap (λ (z : Worlds State). z.out) h.at.world

    pub seen_refused : (old : World) (b : Nested) (told : List Event) (next : Event) (inner : Bool) (h : SeenBlock program p t w s event left old b before told)
        → next ≡ h.block.last.state.event → inner ≡ is_inner next → inner ≡ false → SeenRefused program p t w s left old before told
    seen_refused old b told next inner h e q f = record {
      at = at_last old b h.block;
      cost = h.block.cost;
      never = next_comes program p t w s left kind begins free old b h.block next inner e q ∙ f;
      out = out_there old b h.block;
      seen = h.seen ∙ ap (λ (z : Event). before ++ z ∷ inside_events (source program) p h.block.run) is;
    }

    pub seen_spent : (old : World) (b : Nested) (told : List Event) (next : Event) (inner : Bool) (h : SeenBlock program p t w s event left old b before told)
        → next ≡ h.block.last.state.event → inner ≡ is_inner next → inner ≡ true → old.left ≡ 0 → SeenSpent program p t w s left old before told
    seen_spent old b told next inner h e q f none = record {
      at = at_last old b h.block;
      cost = omega (arith, h.block.cost, none);
      further = next_comes program p t w s left kind begins free old b h.block next inner e q ∙ f;
      none_left = none;
      out = out_there old b h.block;
      seen = h.seen ∙ ap (λ (z : Event). before ++ z ∷ inside_events (source program) p h.block.run) is;
    }

    -- what may come there has a step
    pub never_comes : (old : World) (b : Nested) (h : BlockRun program p t w s left old b) (next : Event) (inner : Bool) → next ≡ h.last.state.event
        → inner ≡ is_inner next → inner ≡ true → inner_by (source program) p h.last h.last.state.event ≡ alone.Never → ⊥
    never_comes old b h next inner e q f never =
        true≢false (sym (next_comes program p t w s left kind begins free old b h next inner e q ∙ f) ∙ ap comes never)
