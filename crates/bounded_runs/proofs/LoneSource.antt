-- A source that ends alone, and what its run by itself comes to.
use Rattle.std.proofs.Common.{ℕ, ◌≡◌, ◌≤◌, ◌<◌, ◌+◌, ◌*◌, false, refl, ap, sym, ◌∙◌, subst, List, Option, Some, None, arith}
use Rattle.std.proofs.lemmas.Bool.{true≢false}
use Rattle.source_runs.specs.Sources.{RunsTo, RunsWithin, RunsWith, end_in}
use Rattle.src_bind.specs.Tables.{Given}
use Rattle.src_mean.specs.Cost.{cost, step_cost}
use Rattle.src_mean.specs.Frames.{State}
use Rattle.src_mean.specs.Source.{source}
use Rattle.src_replay.specs.LoneRuns.{CameTo, IsTurn, IsStuck, IsBroken, IsCutOff, IsRunAlone, RunsAlone}
use Rattle.src_replay.specs.Orders.{program_in, layout_in, first_in}
use Rattle.src_replay.specs.declared.alone.AloneEnd.{AloneEnd}
use Rattle.src_replay.specs.declared.alone.AloneEnd.TheVariants.{Ended, NotEnabled, InBlock, Spent}
use Rattle.src_replay.specs.declared.alone.AloneRun.{AloneRun}
use Rattle.turn_bounds.specs.Alone.{IsOnTheWay, zeros_in}
use Rattle.turn_bounds.specs.Linked.{EndsAloneIn, KeepsTurnBound, RanSo}
use Rattle.turn_bounds.proofs.LoneRuns.{mod_one}
use Rattle.turn_bounds.proofs.OnTheWay.{on_the_way, next_step, ended_so}
use Rattle.tx_events.specs.declared.End.{End}
use Rattle.tx_events.specs.declared.End.TheVariants.{StepsOut}
use Rattle.tx_events.specs.Memory.{MemoryLayout}
use Rattle.tx_events.specs.Thread.{Thread}
use Rattle.tx_events.specs.World.{World, Step, Replays}
use Rattle.tx_machine.specs.declared.run.Ran.{Ran}
use Rattle.vm_thread.specs.declared.thread.Here.{Here}
use Rattle.tx_events.proofs.OneReplay.{same_replays}
use Rattle.bounded_runs.specs.BoundedRuns.{IsPlain, starts, never_waits, has_ended}

later : (c l s r m n : ℕ) → c + l ≡ m → l < s → s ≤ r → c + r ≤ n → m < n
later c l s r m n e h g f = omega (arith, e, h, g, f)

module _ {S : Type 0} (a : Thread S) (p : MemoryLayout) (first : World S) (n : ℕ) (out : List ℕ) (end : End)
    (ways : (order : List ℕ) (v : World S) (h : Replays a p first order v) → IsOnTheWay a p v (cost a p first order v h) n out end) where
  -- where the run by itself stops, the program goes on, or has come to its end
  way_of : (order : List ℕ) (most : ℕ) (came : CameTo a p first order most)
      → IsOnTheWay a p came.world (cost a p first order came.world came.replays) n out end
  way_of order most came = ways order came.world came.replays

  not_stuck : (most : ℕ) (r : AloneRun) → IsStuck a p first most r → ⊥
  not_stuck most r h =
      let s = next_step a p out end h.came.world _ n (way_of r.order.items most h.came) h.going in
      h.no_step 0 s.world s.step

  its_turn : (w : World S) (turn k t : ℕ) → w.started ≡ 1 → IsTurn a p w turn k t → t ≡ 0
  its_turn w turn k t one h = h.is ∙ mod_one k w.started one

  not_broken : (most : ℕ) (r : AloneRun) → IsBroken a p first most r → ⊥
  not_broken most r h =
      let way = way_of r.order.items most h.came in
      let s = next_step a p out end h.came.world _ n way h.going in
      let own = its_turn h.came.world h.came.turn h.turn h.thread way.started h.next in
      h.no_step s.world (subst (λ (t : ℕ). Step a p t h.came.world s.world) (sym own) s.step)

  cut_off : (most : ℕ) (r : AloneRun) → IsCutOff a p first most r → most < n
  cut_off most r h =
      let w = h.came.world in
      let way = way_of r.order.items most h.came in
      let s = next_step a p out end w _ n way h.unfinished.going in
      let own = its_turn w h.came.turn h.turn h.thread way.started h.next in
      let more : (v : World S) (d : Step a p 0 w v) → h.came.left < step_cost a p 0 w v d =
      subst (λ (t : ℕ). (v : World S) (d : Step a p t w v) → h.came.left < step_cost a p t w v d) own h.costs_more in
      later (cost a p first r.order.items w h.came.replays) h.came.left (step_cost a p 0 w s.world s.step) way.left most n h.came.paid (more s.world s.step)
      s.within way.within

  going_on : (most : ℕ) (r : AloneRun) (e : AloneEnd) → IsRunAlone a p first most r e → has_ended e ≡ false → most < n
  going_on most r (Ended x) h q = absurd (true≢false q)
  going_on most r NotEnabled h q = absurd (not_stuck most r h)
  going_on most r InBlock h q = absurd (not_broken most r h)
  going_on most r Spent h q = cut_off most r h

module _ (g : Given) (input : List ℕ) (n : ℕ) (out : List ℕ) (end : End) (alone : EndsAloneIn g input n out end) where
  abbrev Way : (w : World State) → ℕ → Type 0
  Way w spent = IsOnTheWay (source (program_in g)) (layout_in g) w spent n out end

  ways : (order : List ℕ) (v : World State) (h : Replays (source (program_in g)) (layout_in g) (first_in g input) order v)
      → Way v (cost (source (program_in g)) (layout_in g) (first_in g input) order v h)
  ways order v h = on_the_way (source (program_in g)) (layout_in g) out end order (first_in g input) v h alone.order alone.world alone.replays n refl (λ k. refl)
      alone.spawns_nothing alone.within alone.out_is alone.end_is

  pub costs_more_than : (most : ℕ) (r : AloneRun) → RunsAlone g input most r → has_ended r.stopped ≡ false → most < n
  costs_more_than most r h q = going_on (source (program_in g)) (layout_in g) (first_in g input) n out end ways most r r.stopped h q

  -- a run of the source starts no thread, and where it has ended it has this end and output
  module _ (order text : List ℕ) (e : End) (run : RunsTo g input order text e) where
    pub starts_none : run.world.started ≡ 1
    starts_none = (ways order run.world run.replays).started

    pub ends_so : (e ≡ StepsOut → ⊥) → (e ≡ end) × (text ≡ out)
    ends_so other = by_end run.world.end refl
      where
        by_end : (o : Option End) → run.world.end ≡ o → (e ≡ end) × (text ≡ out)
        by_end None is = absurd (other (run.end_is ∙ ap end_in is))
        by_end (Some x) is =
            let s = ended_so (source (program_in g)) (layout_in g) out end run.world _ n (ways order run.world run.replays) x is in
            (run.end_is ∙ ap end_in s.0, run.out_is ∙ s.1)

too_late : {P : Type 0} (z m : ℕ) → z < m → m ≤ z → P
too_late z m h g = let no : ⊥ = omega (arith, h, g) in absurd no

-- the turn bound of a run of the source, in which so many threads were started
module _ (started most : ℕ) (g : Given) (input : List ℕ) (ran : Ran Here) (run : RunsWith started most g input ran.order.items ran.out.items ran.end) where
  -- there is none where one was spawned
  pub bound_of_many : (started ≡ 1 → ⊥) → KeepsTurnBound g input ran
  bound_of_many many = λ n out end alone. absurd (many (run.started_is
      ∙ starts_none g input n out end alone ran.order.items ran.out.items ran.end run.run.runs))

  module _ (waited : ran.waited ≡ 0) (rolled : ran.rolled ≡ 0) where
    same_end : (n : ℕ) (out : List ℕ) (end : End) → EndsAloneIn g input n out end → (ran.end ≡ StepsOut → ⊥) → RanSo ran out end
    same_end n out end alone other =
        let e = ends_so g input n out end alone ran.order.items ran.out.items ran.end run.run.runs other in
        record { end_is = e.0; out_is = e.1 }

    pub bound_of_ended : (ran.end ≡ StepsOut → ⊥) → KeepsTurnBound g input ran
    bound_of_ended other = λ n out end alone. record {
      never_waits = (waited, rolled);
      ended = same_end n out end alone;
      in_time = λ many. same_end n out end alone other;
    }

    pub bound_of_open : ((n : ℕ) (out : List ℕ) (end : End) → EndsAloneIn g input n out end → zeros_in ran.picked.items < 66 * n + 64) → KeepsTurnBound g input ran
    bound_of_open more = λ n out end alone. record {
      never_waits = (waited, rolled);
      ended = same_end n out end alone;
      in_time = λ many. too_late (zeros_in ran.picked.items) (66 * n + 64) (more n out end alone) many;
    }

-- two runs of one order start as many threads
same_started : (s t m n : ℕ) (g : Given) (input order out : List ℕ) (e : End) → RunsWith s m g input order out e → RunsWith t n g input order out e → s ≡ t
same_started s t m n g input order out e h k = h.started_is ∙ (ap (λ (w : World State). w.started) (same_replays (source (program_in g)) (layout_in g) order
    (first_in g input) h.run.runs.world k.run.runs.world h.run.runs.replays k.run.runs.replays) ∙ sym k.started_is)

-- what is refused is no plain run
module _ (started : ℕ) (g : Given) (input : List ℕ) (ran : Ran Here) where
  module _ (run : RunsWith started 4294967295 g input ran.order.items ran.out.items ran.end) (one : started ≡ 1) where
    pub waits_no : (ran.waited ≡ 0 → ran.rolled ≡ 0 → ⊥) → IsPlain g input ran → ⊥
    waits_no waits (starts s r many) = many (same_started s started 4294967295 4294967295 g input ran.order.items ran.out.items ran.end r run ∙ one)
    waits_no waits (never_waits r waited rolled few) = waits waited rolled

    pub turns_no : ran.end ≡ StepsOut → 64 ≤ zeros_in ran.picked.items → IsPlain g input ran → ⊥
    turns_no is_open enough (starts s r many) = many (same_started s started 4294967295 4294967295 g input ran.order.items ran.out.items ran.end r run ∙ one)
    turns_no is_open enough (never_waits r waited rolled few) = too_late (zeros_in ran.picked.items) 64 (few is_open) enough
