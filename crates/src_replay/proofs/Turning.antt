-- A thread is looked at whose entry may be next, and takes it.
use Rattle.std.proofs.Common.{ℕ, ◌≡◌, ◌==◌, ◌<◌, ◌≤◌, ◌+◌, ◌-◌, ◌*◌, ◌/◌, ◌%◌, Bool, true, false, not, cond, Option, Some, None, List, [], ◌++◌, length, refl}
use Rattle.std.proofs.Common.{ap, sym, ◌∙◌, subst, arith, append-nil, inl, inr}
use Rattle.std.proofs.lemmas.Bool.{eqb-true, cases_lt, ne_eqb, false≢true}
use Rattle.std.proofs.lemmas.Nat.{div-add-mod', mod_below, mod-mul-add}
use Rattle.std.proofs.lemmas.Option.{slice_get_past}
use Rattle.tx_events.specs.declared.Event.{Event}
use Rattle.tx_events.specs.Memory.{MemoryLayout, update}
use Rattle.tx_events.specs.Thread.{is_silent}
use Rattle.tx_events.specs.World.{World as Worlds, Alive as Started, alive, goes, SilentSteps}
use Rattle.tx_memory.specs.View.{layout_of}
use Rattle.src_mean.specs.Cost.{silent_cost, event_cost}
use Rattle.src_mean.specs.Frames.{State}
use Rattle.src_mean.specs.Linked.{Program}
use Rattle.src_mean.specs.Source.{source}
use Rattle.src_replay.specs.declared.threads.Alive.{Alive}
use Rattle.src_replay.specs.declared.turns.Choice.{Choice}
use Rattle.src_replay.specs.declared.turns.Choice.TheVariants.{Nobody, Ready as ReadyThread, Spent as SpentThread}
use Rattle.src_replay.specs.declared.turns.Look.{Look}
use Rattle.src_replay.specs.declared.turns.Look.TheVariants.{Ready, Waits, Spent as SpentThere}
use Rattle.src_replay.specs.declared.world.Entry.{Entry}
use Rattle.src_replay.specs.declared.world.Entry.TheVariants.{Taken, Refused, Spent}
use Rattle.src_replay.specs.declared.world.World.{World}
use Rattle.src_replay.specs.Entries.{is_going, is_enabled, outside, within, absent, stays, Unfinished}
use Rattle.src_replay.specs.Entries as entries
use Rattle.src_replay.specs.LoneRuns.{event_events}
use Rattle.src_replay.specs.Seen.{SeenAct, EntryRefused, EntrySpent}
use Rattle.src_replay.specs.Shown.{world_of, threads_of, alive_in, Stands, Shows, SkipsAll, SkipsOn}
use Rattle.src_replay.specs.Turns.{AheadAt, AllAhead, IsAhead, ShowsAhead, IsWaiting, IsReady, Looked, AllWait, IsFirst, NobodyGoes, Chosen, IsTaken, Entered}
use Rattle.src_replay.proofs.EntrySteps.{either_true, second_of}
use Rattle.src_replay.proofs.Further.{Joined, joined, cut, going_same, Behind, Carried, carried, enabled_further}
use Rattle.src_replay.proofs.Moves.{update_at, goes_same}

-- nothing was written down
pub no_more : (before after : List Event) → after ≡ before → after ≡ before ++ []
no_more before after e = e ∙ sym (append-nil before)

-- a thread that goes, there and further on
pub record Both (program : Program) (o q : Option (Started State)) (n : ℕ) : Type 0 where
  pub from : State
  pub here : State
  pub is : o ≡ alive from
  pub is_here : q ≡ alive here
  pub steps : SilentSteps (source program) from here
  pub cost : silent_cost steps ≡ n

not_true : (b : Bool) → not b ≡ true → b ≡ false
not_true true h = absurd (false≢true h)
not_true false h = refl

pub both : (program : Program) (o q : Option (Started State)) (n : ℕ) → is_going o ≡ true → AheadAt (source program) o q n → Both program o q n
both program None q n h k = absurd (false≢true h)
both program (Some x) None n h k = absurd k
both program (Some x) (Some y) n h k =
    let x_goes : x.ended ≡ false = not_true x.ended h in
    let y_goes : y.ended ≡ false = sym k.ended ∙ x_goes in
    record {
      from = x.state;
      here = y.state;
      is = ap (λ b. Some (record { state = x.state; ended = b })) x_goes;
      is_here = ap (λ b. Some (record { state = y.state; ended = b })) y_goes;
      steps = k.steps;
      cost = k.cost;
    }

-- one thread has gone on
moved_on : (program : Program) (f g h : ℕ → Option (Started State)) (ns ms : ℕ → ℕ) (t m : ℕ) (from here : State) → AllAhead (source program) f g ns
    → h ≡ update g t (alive here) → ((k : ℕ) → ms k ≡ update ns t m k) → f t ≡ alive from
    → (steps : SilentSteps (source program) from here) → silent_cost steps ≡ m → AllAhead (source program) f h ms
moved_on program f g h ns ms t m from here each e same is steps cost k =
    subst (λ z. AheadAt (source program) (f k) (z k) (ms k)) (sym e)
    (subst (λ z. AheadAt (source program) (f k) (update g t (alive here) k) z) (sym (same k)) (at (k == t) refl))
  where
    at : (b : Bool) → (k == t) ≡ b → AheadAt (source program) (f k) (cond b (alive here) (g k)) (cond b m (ns k))
    at true q =
        let there : f k ≡ alive from = ap f (eqb-true k t q) ∙ is in
        let further : AheadAt (source program) (alive from) (alive here) m = record { steps = steps; cost = cost; ended = refl } in
        subst (λ z. AheadAt (source program) z (alive here) m) (sym there) further
    at false q = each k

module _ (program : Program) (p : MemoryLayout) (t : ℕ) (w : Worlds State) (old : World) (ns : ℕ → ℕ) (left : ℕ) (ahead : IsAhead program ns w old) where
  pub out_there : (now : World) (s : State) → world_of now ≡ goes t (world_of old) s → now.out.items ≡ w.out
  out_there now s e = ap (λ (z : Worlds State). z.out) e ∙ ap (λ (z : Worlds State). z.out) ahead.world

  module _ (going : w.end ≡ None) (goes_there : is_going (w.threads t) ≡ true) where
    pub there : Both program (w.threads t) (threads_of old.threads.alive.items t) (ns t)
    there = both program (w.threads t) (threads_of old.threads.alive.items t) (ns t) goes_there (ahead.each t)

    -- it took more silent steps than are left
    pub spent_ahead : (new : World) → left < ns t → new.left ≡ 0 → new.out.items ≡ old.out.items → EntrySpent program p t w left new [] []
    spent_ahead new few none out =
        let b = there in
        let c = cut (source program) b.from b.here b.steps left (omega (arith, few, b.cost)) in
        record {
          unfinished = record {
            going = going;
            moment = outside b.from c.here b.is c.steps;
            all = c.cost;
            further = either_true (is_silent c.here.event) (is_enabled t w c.here.event) (ap is_silent c.silent);
          };
          none_left = none;
          out = out ∙ ap (λ (z : Worlds State). z.out) ahead.world;
          seen = refl;
        }

    module _ (q : MemoryLayout) (rest : ℕ) (paid : ns t + rest ≡ left) (new : World) where
      -- too many silent steps
      pub spent_further : SkipsOn program q t (world_of old) (there).here rest new → EntrySpent program p t w left new [] []
      spent_further h =
          let b = there in
          let j = joined (source program) b.from b.here h.skips.here b.steps h.skips.steps in
          record {
            unfinished = record {
              going = going;
              moment = outside b.from h.skips.here b.is j.steps;
              all = omega (arith, j.cost, b.cost, h.skips.cost, h.spent, paid);
              further = either_true (is_silent h.skips.here.event) (is_enabled t w h.skips.here.event) h.silent;
            };
            none_left = h.spent;
            out = out_there new h.skips.here h.skips.world;
            seen = refl;
          }

      module _ (h : SkipsAll program q t (world_of old) (there).here rest new) (ms : ℕ → ℕ) (counted : (k : ℕ) → ms k ≡ update ns t (left - new.left) k) where
        threads_now : threads_of new.threads.alive.items ≡ update (threads_of old.threads.alive.items) t (alive h.skips.here)
        threads_now = ap (λ (z : Worlds State). z.threads) h.skips.world

        world_now : world_of new ≡ record w { threads = threads_of new.threads.alive.items }
        world_now = h.skips.world
            ∙ (ap (λ (z : Worlds State). record z { threads = update (threads_of old.threads.alive.items) t (alive h.skips.here) }) ahead.world
            ∙ ap (λ f. record w { threads = f }) (sym threads_now))

        all_steps : Joined (source program) (there).from h.skips.here (silent_cost (there).steps + silent_cost h.skips.steps)
        all_steps = joined (source program) (there).from (there).here h.skips.here (there).steps h.skips.steps

        taken : silent_cost (all_steps).steps ≡ left - new.left
        taken = omega (arith, (all_steps).cost, (there).cost, h.skips.cost, paid)

        pub looked_on : IsAhead program ms w new
        looked_on = record {
          world = world_now;
          each = moved_on program w.threads (threads_of old.threads.alive.items) (threads_of new.threads.alive.items) ns ms t (left - new.left)
              (there).from h.skips.here ahead.each threads_now counted (there).is (all_steps).steps taken;
        }

        enabled_there : (event : Event) (b : Bool) → event ≡ h.skips.here.event → b ≡ is_enabled t (world_of new) event → is_enabled t w h.skips.here.event ≡ b
        enabled_there event b e q =
            sym (enabled_further (source program) p t w (threads_of new.threads.alive.items) ms (λ k far. (looked_on).each k) h.skips.here.event)
            ∙ (ap (λ (z : Worlds State). is_enabled t z h.skips.here.event) (sym world_now)
            ∙ (ap (λ (z : Event). is_enabled t (world_of new) z) (sym e) ∙ sym q))

        pub ready_there : (event : Event) (b : Bool) → event ≡ h.skips.here.event → b ≡ is_enabled t (world_of new) event → b ≡ true → layout_of new.memory ≡ p
            → IsReady program p t w left new ms
        ready_there event b e q there_is layout =
            let own : ms t ≡ left - new.left = counted t ∙ update_at ns t (left - new.left) in
            record {
              looked = record { ahead = looked_on; stands = h.skips.stands; layout = layout };
              paid = omega (arith, own, h.skips.cost, paid);
              here = h.skips.here;
              stands_there = ap (λ f. f t) threads_now ∙ update_at (threads_of old.threads.alive.items) t (alive h.skips.here);
              loud = h.loud;
              enabled = enabled_there event b e q ∙ there_is;
            }

        pub waits_there : (event : Event) (b : Bool) → event ≡ h.skips.here.event → b ≡ is_enabled t (world_of new) event → b ≡ false → layout_of new.memory ≡ p
            → IsWaiting program p t w left (record new { left = left }) ms
        waits_there event b e q there_is_none layout = record {
          looked = record { ahead = record { world = world_now; each = (looked_on).each }; stands = h.skips.stands; layout = layout };
          left_is = refl;
          refused = stays (outside (there).from h.skips.here (there).is (all_steps).steps) (omega (arith, taken, h.skips.cost, paid))
              (second_of (is_silent h.skips.here.event) (is_enabled t w h.skips.here.event) false h.loud (enabled_there event b e q ∙ there_is_none));
        }

-- a thread that was not started or has ended

pub waits_absent : (program : Program) (p : MemoryLayout) (t : ℕ) (w : Worlds State) (old : World) (ns : ℕ → ℕ) (left : ℕ) → IsAhead program ns w old
    → Stands program old → layout_of old.memory ≡ p → old.left ≡ left → is_going (threads_of old.threads.alive.items t) ≡ false
    → IsWaiting program p t w left old ns
waits_absent program p t w old ns left ahead stands layout same e = record {
  looked = record { ahead = ahead; stands = stands; layout = layout };
  left_is = same;
  refused = absent (sym (going_same (source program) (w.threads t) (threads_of old.threads.alive.items t) (ns t) (ahead.each t)) ∙ e);
}

none_past : (xs : List Alive) (t : ℕ) → length xs ≤ t → threads_of xs t ≡ None
unfolding threads_of
none_past xs t h = ap alive_in (slice_get_past xs t h)

absent_past : (program : Program) (p : MemoryLayout) (w : Worlds State) (now : World) (ns : ℕ → ℕ) (left : ℕ) → IsAhead program ns w now → (u : ℕ)
    → length now.threads.alive.items ≤ u → entries.Refused (source program) p u w left
absent_past program p w now ns left ahead u h =
    let none : threads_of now.threads.alive.items u ≡ None = none_past now.threads.alive.items u h in
    absent (sym (going_same (source program) (w.threads u) (threads_of now.threads.alive.items u) (ns u) (ahead.each u)) ∙ ap is_going none)

-- the turns from one on, one more

module _ (program : Program) (p : MemoryLayout) (from i t : ℕ) (w : Worlds State) (left : ℕ) (old : World) (ns : ℕ → ℕ)
    (a : AllWait program p from i w left old ns) (is : t ≡ i % w.started) (new : World) (ms : ℕ → ℕ) (k : Look)
    (h : Looked program (layout_of old.memory) t w old.left new ms k) where
  looked_there : (l : Look) → k ≡ l → Looked program p t w left new ms l
  looked_there l e =
      subst (λ z. Looked program p t w left new ms z) e
      (subst (λ z. Looked program p t w z new ms k) a.left_is
      (subst (λ z. Looked program z t w old.left new ms k) a.looked.layout h))

  pub wait_more : (next : ℕ) → next ≡ i + 1 → k ≡ Waits → AllWait program p from next w left new ms
  wait_more next more e =
      let l : IsWaiting program p t w left new ms = looked_there Waits e in
      let own : entries.Refused (source program) p (i % w.started) w left = subst (λ z. entries.Refused (source program) p z w left) is l.refused in
      record {
        looked = l.looked;
        left_is = l.left_is;
        refused = λ j above below. elim (cases_lt j i) [
          | inl b ↦ a.refused j above b
          | inr b ↦ let same : i ≡ j = omega (arith, b, below, more) in subst (λ z. entries.Refused (source program) p (z % w.started) w left) same own
        ];
      }

  module _ (behind : from ≤ i) (near : i < from + w.started) where
    first_there : IsFirst program p from i t w left
    first_there = record { behind = behind; near = near; refused = a.refused; is = is }

    pub ready_first : k ≡ Ready → IsFirst program p from i t w left × IsReady program p t w left new ms
    ready_first e = (first_there, looked_there Ready e)

    pub spent_first : k ≡ SpentThere → IsFirst program p from i t w left × EntrySpent program p t w left new [] []
    spent_first e = (first_there, looked_there SpentThere e)

pub none_waits : (program : Program) (from to : ℕ) (w : Worlds State) (old : World) (ns : ℕ → ℕ) → to ≡ from → IsAhead program ns w old → Stands program old
    → AllWait program (layout_of old.memory) from to w old.left old ns
none_waits program from to w old ns e ahead stands = record {
  looked = record { ahead = ahead; stands = stands; layout = refl };
  left_is = refl;
  refused = λ u above below. absurd (omega (arith, above, below, e));
}

-- how many were started
pub started_is : (program : Program) (w : Worlds State) (now : World) (ns : ℕ → ℕ) → IsAhead program ns w now → length now.threads.alive.items ≡ w.started
started_is program w now ns ahead = ap (λ (z : Worlds State). z.started) ahead.world

-- a whole round of turns

-- each thread has its turn in it
record InRound (from s u : ℕ) : Type 0 where
  pub turn : ℕ
  pub behind : from ≤ turn
  pub near : turn < from + s
  pub is : turn % s ≡ u

in_round : (from s u : ℕ) → u < s → InRound from s u
in_round from s u h =
    let q = from / s in
    let split : q * s + from % s ≡ from = div-add-mod' from s in
    let low : from % s < s = mod_below from s (omega (arith, h)) in
    let next : (q + 1) * s ≡ q * s + s = omega arith in
    elim (cases_lt u (from % s)) [
      | inl l ↦ record {
        turn = (q + 1) * s + u;
        behind = omega (arith, split, low, next);
        near = omega (arith, split, next, l);
        is = mod-mul-add
            (q + 1) s u h;
      }
      | inr l ↦ record { turn = q * s + u; behind = omega (arith, split, l); near = omega (arith, split, h); is = mod-mul-add q s u h }
    ]

pub nobody_goes : (program : Program) (p : MemoryLayout) (from to : ℕ) (w : Worlds State) (left : ℕ) (now : World) (ns : ℕ → ℕ) → from + w.started ≤ to
    → AllWait program p from to w left now ns → NobodyGoes program p w left now
nobody_goes program p from to w left now ns all a = record {
  left_is = a.left_is;
  out = ap (λ (z : Worlds State). z.out) a.looked.ahead.world;
  refused = λ u. elim (cases_lt u w.started) [
    | inl l ↦ let r = in_round from w.started u l in subst (λ z. entries.Refused (source program) p z w left) r.is
        (a.refused r.turn r.behind (omega (arith, r.near, all)))
    | inr l ↦ absent_past program p w now ns left a.looked.ahead u (omega (arith, l, started_is program w now ns a.looked.ahead))
  ];
}

-- it is near
pub near_turn : (program : Program) (p : MemoryLayout) (from k t : ℕ) (w : Worlds State) (left : ℕ) (now : World) (ns : ℕ → ℕ) → IsAhead program ns w now
    → Stands program now → IsFirst program p from k t w left → k < from + 256
near_turn program p from k t w left now ns ahead stand f = omega (arith, f.near, started_is program w now ns ahead, stand.few, stand.limit)

-- a choice by its cases

module _ (program : Program) (p : MemoryLayout) (from : ℕ) (w : Worlds State) (left : ℕ) (new : World) (ns : ℕ → ℕ) (c : Choice) where
  pub nobody_is : c ≡ Nobody → Chosen program p from w left new ns c → NobodyGoes program p w left new
  nobody_is e h = subst (λ z. Chosen program p from w left new ns z) e h

  pub ready_is : (k t : ℕ) → c ≡ ReadyThread k t → Chosen program p from w left new ns c → IsFirst program p from k t w left × IsReady program p t w left new ns
  ready_is k t e h = subst (λ z. Chosen program p from w left new ns z) e h

  pub spent_is : (k t : ℕ) → c ≡ SpentThread k t → Chosen program p from w left new ns c → IsFirst program p from k t w left
      × EntrySpent program p t w left new [] []
  spent_is k t e h = subst (λ z. Chosen program p from w left new ns z) e h

-- The entry

pub record From (program : Program) (o : Option (Started State)) (here : State) (n : ℕ) : Type 0 where
  pub from : State
  pub is : o ≡ alive from
  pub steps : SilentSteps (source program) from here
  pub cost : silent_cost steps ≡ n

from_there : (program : Program) (o : Option (Started State)) (here : State) (n : ℕ) → AheadAt (source program) o (alive here) n → From program o here n
from_there program None here n h = absurd h
from_there program (Some x) here n h = record {
  from = x.state;
  is = ap (λ b. Some (record { state = x.state; ended = b })) h.ended;
  steps = h.steps;
  cost =
      h.cost;
}

module _ (program : Program) (p : MemoryLayout) (t : ℕ) (w : Worlds State) (left : ℕ) (old : World) (ns : ℕ → ℕ) (r : IsReady program p t w left old ns)
    (going : w.end ≡ None) where
  abbrev pub further : Worlds State
  further = record w { threads = threads_of old.threads.alive.items }

  began : From program (w.threads t) r.here (ns t)
  began = from_there program (w.threads t) r.here (ns t) (subst (λ z. AheadAt (source program) (w.threads t) z (ns t)) r.stands_there (r.looked.ahead.each t))

  -- the world at hand
  pub goes_from : (paid : World) → paid ≡ record old { left = paid.left } → world_of paid ≡ goes t further r.here
  goes_from paid same = ap world_of same ∙ (r.looked.ahead.world ∙ sym (goes_same t further r.here r.stands_there))

  pub enabled_from : (event : Event) → event ≡ r.here.event → is_enabled t further event ≡ true
  enabled_from event e =
      ap (λ z. is_enabled t further z) e
      ∙ (enabled_further (source program) p t w (threads_of old.threads.alive.items) ns (λ k far. r.looked.ahead.each k) r.here.event ∙ r.enabled)

  -- no unit is left for the event
  pub spent_unpaid : (paid : World) (told : List Event) → old.left ≡ 0 → paid ≡ record old { left = paid.left } → paid.left ≤ old.left
      → EntrySpent program p t w left paid told told
  spent_unpaid paid told none same less = record {
    unfinished = record {
      going = going;
      moment = outside (began).from r.here (began).is (began).steps;
      all = omega (arith, (began).cost, r.paid, none);
      further = second_of (is_silent r.here.event) (is_enabled t w r.here.event) true r.loud r.enabled;
    };
    none_left = omega (arith, none, less);
    out = ap (λ (z : World). z.out.items) same ∙ ap (λ (z : Worlds State). z.out) r.looked.ahead.world;
    seen = no_more told told refl;
  }

  module _ (ms : ℕ → ℕ) (counted : (k : ℕ) → ms k ≡ update ns t 0 k) where
    others : (k : ℕ) → (k ≡ t → ⊥) → AheadAt (source program) (w.threads k) (threads_of old.threads.alive.items k) (ms k)
    others k far = subst (λ n. AheadAt (source program) (w.threads k) (threads_of old.threads.alive.items k) n)
        (sym (counted k ∙ ap (λ b. cond b 0 (ns k)) (ne_eqb k t far))) (r.looked.ahead.each k)

    free : threads_of old.threads.alive.items w.started ≡ None
    free =
        let count : length old.threads.alive.items ≡ w.started = ap (λ (z : Worlds State). z.started) r.looked.ahead.world in
        none_past old.threads.alive.items w.started (omega (arith, count))

    apart : w.started ≡ t → ⊥
    apart e = let no : None ≡ alive r.here = sym free ∙ (ap (threads_of old.threads.alive.items) e ∙ r.stands_there) in absurd cc

    shows_behind : (v u : Worlds State) (new : World) → Behind (source program) ms v u → Shows new u → ShowsAhead program ms v new
    shows_behind v u new b h = record {
      end_is = h.end_is ∙ b.end_is;
      out_is = h.out_is ∙ b.out_is;
      all = λ none.
          let over : u.end ≡ None = sym h.end_is ∙ none in
          let threads : threads_of new.threads.alive.items ≡ u.threads = ap (λ (z : Worlds State). z.threads) (h.all none) in
          record {
            world = h.all none ∙ (b.same over ∙ ap (λ f. record v { threads = f }) (sym threads));
            each = subst (λ f. AllAhead (source program) v.threads f ms) (sym threads) (b.each over);
          };
    }

    pub entered : (k : ℕ) (new : World) (before after : List Event) (q : Entry) → k + 1 ≡ old.left → SeenAct program p t further r.here k new before after q
        → Entered program p t w left new ms before after q
    entered k new before after Taken less h =
        let c : Carried (source program) p t w (threads_of old.threads.alive.items) ms others (counted t ∙ update_at ns t 0) r.here r.here.event h.taken.world
        (event_cost (source program) p t further r.here r.here.event h.taken.world h.taken.done.does)
        (event_events (source program) p t further r.here r.here.event h.taken.world h.taken.done.does) =
        carried (source program) p t w (threads_of old.threads.alive.items) ms others
        (counted t ∙ update_at ns t 0) r.here r.here.event h.taken.world h.taken.done.does free (others w.started apart) in
        record {
          world = c.world;
          step = record { going = going; from = (began).from; before = r.here; is = (began).is; silents = (began).steps; does = c.does };
          cost = omega (arith, (began).cost, c.cost, h.taken.done.cost, less, r.paid);
          seen = h.seen ∙ ap (λ (z : List Event). before ++ z) (sym c.tells);
          shows = shows_behind c.world h.taken.world new c.behind h.taken.shows;
          stands = h.taken.stands;
          layout = h.taken.layout;
        }
    entered k new before after Refused less h = record {
      refused = stays (within (began).from r.here h.at.kind h.at.last (began).is (began).steps h.at.begins h.at.free h.at.run)
          (omega (arith, (began).cost, h.cost, less, r.paid)) h.never;
      cost = omega (arith, (began).cost, h.cost, less, r.paid);
      out = h.out;
      seen = h.seen;
    }
    entered k new before after Spent less h = record {
      unfinished = record {
        going = going;
        moment = within (began).from r.here h.at.kind h.at.last (began).is (began).steps h.at.begins h.at.free h.at.run;
        all = omega (arith, (began).cost, h.cost, less, r.paid);
        further = h.further;
      };
      none_left = h.none_left;
      out = h.out;
      seen = h.seen;
    }

-- an entry by its cases

module _ (program : Program) (p : MemoryLayout) (t : ℕ) (w : Worlds State) (left : ℕ) (new : World) (ns : ℕ → ℕ) (before after : List Event) (e : Entry) where
  pub taken_is : e ≡ Taken → Entered program p t w left new ns before after e → IsTaken program p t w left new ns before after
  taken_is q h = subst (λ z. Entered program p t w left new ns before after z) q h

  pub stays_is : e ≡ Refused → Entered program p t w left new ns before after e → EntryRefused program p t w left new before after
  stays_is q h = subst (λ z. Entered program p t w left new ns before after z) q h

  pub cut_is : e ≡ Spent → Entered program p t w left new ns before after e → EntrySpent program p t w left new before after
  cut_is q h = subst (λ z. Entered program p t w left new ns before after z) q h

-- what a subtraction that gives nothing shows
pub is_below : (left taken n : ℕ) → (taken ≤ left → ⊥) → taken ≡ n → left < n
is_below left taken n h e = elim (cases_lt left taken) [ inl l ↦ omega (arith, l, e) | inr l ↦ absurd (h l) ]
