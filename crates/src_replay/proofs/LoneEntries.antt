-- The entries of a program by itself, one more, and what is told of them.
use Rattle.std.proofs.Common.{ℕ, ◌≡◌, ◌+◌, ◌%◌, Some, None, List, [], ◌∷◌, ◌++◌, refl, ap, sym, ◌∙◌, subst, arith, append_assoc, append-nil}
use Rattle.tx_events.specs.declared.End.{End}
use Rattle.tx_events.specs.declared.Event.{Event}
use Rattle.tx_events.specs.Memory.{MemoryLayout}
use Rattle.tx_events.specs.Thread.{Thread}
use Rattle.tx_events.specs.World.{World as Worlds, Step, Replays}
use Rattle.tx_memory.specs.View.{layout_of}
use Rattle.src_bind.specs.Tables.{Given}
use Rattle.src_mean.specs.Cost.{cost, step_cost}
use Rattle.src_mean.specs.Frames.{State}
use Rattle.src_mean.specs.Source.{source}
use Rattle.src_replay.specs.declared.alone.AloneRun.{AloneRun}
use Rattle.src_replay.specs.declared.world.World.{World}
use Rattle.src_replay.specs.LoneRuns.{step_events, events, moment_events, refused_events, IsTurn, TakesTurns, CameTo, HasEnded, IsStuck, IsBroken, IsCutOff}
use Rattle.src_replay.specs.Orders.{program_in, layout_in, first_in}
use Rattle.src_replay.specs.Seen.{EntryRefused, EntrySpent}
use Rattle.src_replay.specs.Shown.{world_of, threads_of, Stands}
use Rattle.src_replay.specs.Turns.{AllAhead, IsAhead, IsFirst, NobodyGoes, IsTaken, RanAlone}
use Rattle.src_replay.proofs.Further.{at_first}
use Rattle.src_replay.proofs.OneEntry.{refused_no_step, unfinished_more}

module _ {S : Type 0} (a : Thread S) (p : MemoryLayout) where
  -- a replay in which threads take turns, that costs so much and has these events
  pub record Told (n m : ℕ) (w : Worlds S) (order : List ℕ) (v : Worlds S) (costing : ℕ) (came : List Event) : Type 0 where
    pub replays : Replays a p w order v
    pub turns : TakesTurns a p n m w order v replays
    pub costs : cost a p w order v replays ≡ costing
    pub tells : events a p w order v replays ≡ came

  last_told : (n k : ℕ) (w v u : Worlds S) (t : ℕ) → v ≡ w → (d : Step a p t v u) → IsTurn a p v n k t
      → Told n (k + 1) w (t ∷ []) u (step_cost a p t v u d) (step_events a p t v u d)
  last_told n k w v u t h d next =
      subst (λ (z : Worlds S). (e : Step a p t z u) → IsTurn a p z n k t → Told n (k + 1) w (t ∷ []) u (step_cost a p t z u e) (step_events a p t z u e))
      (sym h)
      (λ e i. record { replays = (u, e, refl); turns = (k, i, refl); costs = omega arith; tells = append-nil (step_events a p t w u e) }) d next

  pub told_more : (n m k : ℕ) (w v u : Worlds S) (ts : List ℕ) (t : ℕ) (h : Replays a p w ts v) → TakesTurns a p n m w ts v h → (d : Step a p t v u)
      → IsTurn a p v m k t
      → Told n (k + 1) w (ts ++ t ∷ []) u (cost a p w ts v h + step_cost a p t v u d) (events a p w ts v h ++ step_events a p t v u d)
  told_more n m k w v u [] t h turns d next =
      let l = last_told n k w v u t h d (subst (λ z. IsTurn a p v z k t) (sym turns) next) in
      record { replays = l.replays; turns = l.turns; costs = omega (arith, l.costs); tells = l.tells }
  told_more n m k w v u (x ∷ ts) t h turns d next =
      let l = told_more (turns.0 + 1) m k h.0 v u ts t h.2 turns.2 d next in
      record {
        replays = (h.0, h.1, l.replays);
        turns = (turns.0, turns.1, l.turns);
        costs = omega (arith, l.costs);
        tells = ap (λ (z : List Event). step_events a p x w h.0 h.1 ++ z) l.tells
            ∙ sym (append_assoc (step_events a p x w h.0 h.1) (events a p h.0 ts v h.2) (step_events a p t v u d));
      }

module _ (b : Given) (input : List ℕ) (most : ℕ) where
  pub alone_first : (now : World) (order : List ℕ) (ns : ℕ → ℕ) (told : List Event) → world_of now ≡ first_in b input → layout_of now.memory ≡ layout_in b
      → Stands (program_in b) now → now.left ≡ most → order ≡ [] → ((k : ℕ) → ns k ≡ 0) → told ≡ []
      → RanAlone b input order most 0 now ns told
  alone_first now order ns told e layout stands left empty nothing none =
      let start : RanAlone b input [] most 0 now ns told = record {
        world = first_in b input;
        replays = refl;
        turns = refl;
        cost_is = omega (arith, left);
        told_is = none;
        shows = record {
          end_is = ap (λ (z : Worlds State). z.end) e;
          out_is = ap (λ (z : Worlds State). z.out) e;
          all = λ none. record {
            world = e ∙ ap (λ f. record (first_in b input) { threads = f }) (sym (ap (λ (z : Worlds State). z.threads) e));
            each = subst (λ f. AllAhead (source (program_in b)) f (threads_of now.threads.alive.items) ns) (ap (λ (z : Worlds State). z.threads) e)
                (at_first (source (program_in b)) (threads_of now.threads.alive.items) ns nothing);
          };
        };
        stands = stands;
        layout = layout;
      } in
      subst (λ z. RanAlone b input z most 0 now ns told) (sym empty) start

  abbrev came : (order : List ℕ) (turn : ℕ) (now : World) (ns : ℕ → ℕ) (told : List Event) → RanAlone b input order most turn now ns told
      → CameTo (source (program_in b)) (layout_in b) (first_in b input) order most
  came order turn now ns told ran = record { world = ran.world; replays = ran.replays; turn = turn; turns = ran.turns; left = now.left; paid = ran.cost_is }

  -- the program has ended
  pub alone_ended : (turn : ℕ) (now : World) (ns : ℕ → ℕ) (told : List Event) (end : End) (r : AloneRun) → RanAlone b input r.order.items most turn now ns told
      → now.end ≡ Some end → r.out.items ≡ now.out.items → r.events.items ≡ told → r.cost + now.left ≡ most
      → HasEnded (source (program_in b)) (layout_in b) (first_in b input) most r end
  alone_ended turn now ns told end r ran over out lists costs = record {
    came = came r.order.items turn now ns told ran;
    end_is = sym ran.shows.end_is ∙ over;
    out_is = out ∙ ran.shows.out_is;
    events_are = lists ∙ ran.told_is;
    cost_is = omega (arith, costs, ran.cost_is);
  }

  module _ (order : List ℕ) (turn : ℕ) (old : World) (ns : ℕ → ℕ) (told : List Event) (ran : RanAlone b input order most turn old ns told)
      (none : old.end ≡ None) where
    pub going : ran.world.end ≡ None
    going = sym ran.shows.end_is ∙ none

    pub ahead : IsAhead (program_in b) ns ran.world old
    ahead = ran.shows.all none

    module _ (k t : ℕ) (next : IsFirst (program_in b) (layout_of old.memory) turn k t ran.world old.left) where
      is_next : IsTurn (source (program_in b)) (layout_in b) ran.world turn k t
      is_next =
          let f : IsFirst (program_in b) (layout_in b) turn k t ran.world old.left =
          subst (λ (z : MemoryLayout). IsFirst (program_in b) z turn k t ran.world old.left) ran.layout next in
          record {
            behind = f.behind;
            passes = λ i v above below d. refused_no_step (source (program_in b)) (layout_in b) (i % ran.world.started) ran.world old.left v
                (f.refused i above below) d;
            is = f.is;
          }

      pub alone_taken : (new : World) (ms : ℕ → ℕ) (after : List Event) (longer : List ℕ) → longer ≡ order ++ t ∷ []
          → IsTaken (program_in b) (layout_of old.memory) t ran.world old.left new ms told after → RanAlone b input longer most (k + 1) new ms after
      alone_taken new ms after longer more h =
          let a = source (program_in b) in
          let p = layout_in b in
          let first = first_in b input in
          let s : IsTaken (program_in b) p t ran.world old.left new ms told after =
          subst (λ (z : MemoryLayout). IsTaken (program_in b) z t ran.world old.left new ms told after) ran.layout h in
          let m = told_more a p 0 turn k first ran.world s.world order t ran.replays ran.turns s.step is_next in
          let all : RanAlone b input (order ++ t ∷ []) most (k + 1) new ms after = record {
            world = s.world;
            replays = m.replays;
            turns = m.turns;
            cost_is = omega (arith, m.costs, s.cost, ran.cost_is);
            told_is = s.seen ∙ (ap (λ (z : List Event). z ++ step_events a p t ran.world s.world s.step) ran.told_is ∙ sym m.tells);
            shows = s.shows;
            stands = s.stands;
            layout = s.layout;
          } in
          subst (λ z. RanAlone b input z most (k + 1) new ms after) (sym more) all

  module _ (r : AloneRun) (turn : ℕ) (old : World) (ns : ℕ → ℕ) (told : List Event) (ran : RanAlone b input r.order.items most turn old ns told)
      (none : old.end ≡ None) (new : World) (out : r.out.items ≡ new.out.items) (costs : r.cost + new.left ≡ most) where
    -- no thread goes
    pub alone_stuck : NobodyGoes (program_in b) (layout_of old.memory) ran.world old.left new → r.events.items ≡ told
        → IsStuck (source (program_in b)) (layout_in b) (first_in b input) most r
    alone_stuck h lists =
        let s : NobodyGoes (program_in b) (layout_in b) ran.world old.left new =
        subst (λ (z : MemoryLayout). NobodyGoes (program_in b) z ran.world old.left new) ran.layout h in
        record {
          came = came r.order.items turn old ns told ran;
          going = sym ran.shows.end_is ∙ none;
          refused = s.refused;
          no_step = λ t v d. refused_no_step (source (program_in b)) (layout_in b) t ran.world old.left v (s.refused t) d;
          out_is = out ∙ s.out;
          events_are = lists ∙ ran.told_is;
          cost_is = omega (arith, costs, s.left_is, ran.cost_is);
        }

    module _ (k t : ℕ) (next : IsFirst (program_in b) (layout_of old.memory) turn k t ran.world old.left) where
      -- it stays in its block
      pub alone_broken : (after : List Event) → r.events.items ≡ after → EntryRefused (program_in b) (layout_of old.memory) t ran.world old.left new told after
          → IsBroken (source (program_in b)) (layout_in b) (first_in b input) most r
      alone_broken after lists h =
          let a = source (program_in b) in
          let p = layout_in b in
          let s : EntryRefused (program_in b) p t ran.world old.left new told after =
          subst (λ (z : MemoryLayout). EntryRefused (program_in b) z t ran.world old.left new told after) ran.layout h in
          record {
            came = came r.order.items turn old ns told ran;
            going = sym ran.shows.end_is ∙ none;
            turn = k;
            thread = t;
            next = is_next r.order.items turn old ns told ran none k t next;
            refused = s.refused;
            no_step = λ v d. refused_no_step a p t ran.world old.left v s.refused d;
            out_is = out ∙ s.out;
            events_are = lists ∙ (s.seen ∙ ap (λ (z : List Event). z ++ refused_events a p t ran.world old.left s.refused) ran.told_is);
            cost_is = omega (arith, costs, s.cost, ran.cost_is);
          }

      -- it takes more than there is
      pub alone_cut : (after : List Event) → r.events.items ≡ after → EntrySpent (program_in b) (layout_of old.memory) t ran.world old.left new told after
          → IsCutOff (source (program_in b)) (layout_in b) (first_in b input) most r
      alone_cut after lists h =
          let a = source (program_in b) in
          let p = layout_in b in
          let s : EntrySpent (program_in b) p t ran.world old.left new told after =
          subst (λ (z : MemoryLayout). EntrySpent (program_in b) z t ran.world old.left new told after) ran.layout h in
          record {
            came = came r.order.items turn old ns told ran;
            turn = k;
            thread = t;
            next = is_next r.order.items turn old ns told ran none k t next;
            unfinished = s.unfinished;
            costs_more = λ v d. unfinished_more a p t ran.world old.left v s.unfinished d;
            out_is = out ∙ s.out;
            events_are = lists ∙ (s.seen ∙ ap (λ (z : List Event). z ++ moment_events a p t ran.world s.unfinished.moment) ran.told_is);
            cost_is = omega (arith, costs, s.none_left);
          }

      -- nothing came of it
      pub alone_silent : r.events.items ≡ told → EntrySpent (program_in b) (layout_of old.memory) t ran.world old.left new [] []
          → IsCutOff (source (program_in b)) (layout_in b) (first_in b input) most r
      alone_silent lists h = alone_cut told lists (record {
        unfinished = h.unfinished;
        none_left = h.none_left;
        out = h.out;
        seen = sym (append-nil told) ∙ ap (λ (z : List Event). told ++ z) h.seen;
      })
