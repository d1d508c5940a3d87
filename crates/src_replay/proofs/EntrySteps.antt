-- An entry: silent steps, then an event or a whole block.
use Rattle.std.proofs.Common.{ℕ, ◌≡◌, ◌<◌, ◌≤◌, ◌+◌, ◌||◌, Bool, true, false, not, is_some, Option, Some, None, length, refl, ap, sym, ◌∙◌, subst, arith}
use Rattle.std.specs.Prelude.{Result, Ok, Err, OnOk, IfOk}
use Rattle.std.specs.declared.alloc.AllocError.{AllocError}
use Rattle.std.proofs.lemmas.Bool.{false≢true, true≢false}
use Rattle.tx_events.specs.declared.Event.{Event}
use Rattle.tx_events.specs.declared.Event.TheVariants.{Silent, Load, Store, Out, Inp, Spawn, Join, BeginAtomic, EndAtomic, Raise, BeginSync, EndSync, Done}
use Rattle.tx_events.specs.declared.Event.TheVariants.{Stop}
use Rattle.tx_events.specs.declared.Reply.TheVariants.{Nothing}
use Rattle.tx_events.specs.Memory.{MemoryLayout}
use Rattle.tx_events.specs.Thread.{Thread, is_silent}
use Rattle.tx_events.specs.World.{World as Worlds, alive, goes, SilentSteps, none, one_more, EventStep}
use Rattle.tx_memory.specs.View.{layout_of}
use Rattle.src_mean.specs.Cost.{silent_cost, event_cost}
use Rattle.src_mean.specs.Frames.{State}
use Rattle.src_mean.specs.Linked.{Program}
use Rattle.src_mean.specs.Source.{source}
use Rattle.src_replay.specs.declared.world.Entry.{Entry}
use Rattle.src_replay.specs.declared.world.Entry.TheVariants.{Taken, Refused, Spent}
use Rattle.src_replay.specs.declared.world.World.{World}
use Rattle.src_replay.specs.Entries.{is_enabled, outside, within, stays}
use Rattle.src_replay.specs.Entries as entries
use Rattle.src_replay.specs.Shown.{threads_of, world_of, Stands, IsSet, Took, Acted, ActTaken, Skips, SkipsAll, SkipsOn, Skipped, Stepped}
use Rattle.src_replay.proofs.Moves.{goes_twice, goes_same, silent_is, enabled_same}
use Rattle.src_replay.proofs.Arms.{set_world, stand_on}

-- an event that is no block costs one unit

abbrev pub is_single : Event → Bool
is_single (BeginAtomic kind) = false
is_single Silent = true
is_single (Load addr size volatile) = true
is_single (Store addr size value volatile) = true
is_single (Out byte) = true
is_single Inp = true
is_single (Spawn func arg) = true
is_single (Join id) = true
is_single EndAtomic = true
is_single (Raise kind cancels) = true
is_single BeginSync = true
is_single EndSync = true
is_single Done = true
is_single (Stop end) = true

one_unit : {S : Type 0} (a : Thread S) (p : MemoryLayout) (t : ℕ) (w : Worlds S) (s : S) (e : Event) (v : Worlds S) (d : EventStep a p t w s e v)
    → is_single e ≡ true → event_cost a p t w s e v d ≡ 1
one_unit a p t w s (BeginAtomic kind) v d h = absurd (false≢true h)
one_unit a p t w s Silent v d h = refl
one_unit a p t w s (Load addr size volatile) v d h = refl
one_unit a p t w s (Store addr size value volatile) v d h = refl
one_unit a p t w s (Out byte) v d h = refl
one_unit a p t w s Inp v d h = refl
one_unit a p t w s (Spawn func arg) v d h = refl
one_unit a p t w s (Join id) v d h = refl
one_unit a p t w s EndAtomic v d h = refl
one_unit a p t w s (Raise kind cancels) v d h = refl
one_unit a p t w s BeginSync v d h = refl
one_unit a p t w s EndSync v d h = refl
one_unit a p t w s Done v d h = refl
one_unit a p t w s (Stop end) v d h = refl

pub took_acted : (program : Program) (t : ℕ) (w : Worlds State) (s : State) (event : Event) (old new : World) (r : Entry) → is_single event ≡ true
    → s.event ≡ event → Took program t w s event old new r
    → Acted program (layout_of old.memory) t w s old.left new r
took_acted program t w s event old new r single e h =
    let a = source program in
    let p = layout_of old.memory in
    let does : EventStep a p t w s s.event h.world = subst (λ (z : Event). EventStep a p t w s z h.world) (sym e) h.does in
    let one : event_cost a p t w s s.event h.world does ≡ 1 = one_unit a p t w s s.event h.world does (ap is_single e ∙ single) in
    let taken : ActTaken program p t w s old.left new = record {
      world = h.world;
      done = record { does = does; cost = omega (arith, one, h.left) };
      shows = h.shows;
      stands = h.stays.stands;
      layout = h.stays.layout;
    } in
    subst (λ (z : Entry). Acted program p t w s old.left new z) (sym h.taken) taken

-- silent steps

module _ (program : Program) (p : MemoryLayout) (t : ℕ) (w : Worlds State) (s : State) (left : ℕ) where
  pub skips_none : (now : World) → w ≡ world_of now → left ≡ now.left → p ≡ layout_of now.memory → w.threads t ≡ alive s → Stands program now
      → Skips program p t w s left now
  skips_none now e l q at stands = record {
    here = s;
    steps = none;
    cost = omega (arith, l);
    world = sym e ∙ sym (goes_same t w s at);
    stands = stands;
    layout = sym q;
  }

  pub skips_more : (mid paid new : World) (h : Skips program p t w s left mid) → paid ≡ record mid { left = paid.left } → paid.left + 1 ≡ mid.left
      → is_silent h.here.event ≡ true
      → IsSet program (layout_of paid.memory) t (record {
        state = (source program).after h.here Nothing;
        ended =
            false;
      }) paid.threads.alive.items new.threads.alive.items
      → world_of new ≡ record (world_of paid) { threads = threads_of new.threads.alive.items; started = length new.threads.alive.items }
      → layout_of new.memory ≡ layout_of paid.memory → new.left ≡ paid.left
      → Skips program p t w s left new
  skips_more mid paid new h same less silent set world layout l =
      let r = (source program).after h.here Nothing in
      let one : world_of paid ≡ goes t w h.here = ap world_of same ∙ h.world in
      let mapped : layout_of paid.memory ≡ p = ap (λ (z : World). layout_of z.memory) same ∙ h.layout in
      record {
        here = r;
        steps = one_more h.steps (silent_is h.here.event silent);
        cost = omega (arith, h.cost, less, l);
        world = world ∙ (set_world (world_of paid) program (layout_of paid.memory) t
            (record { state = r; ended = false }) paid.threads.alive.items new.threads.alive.items set
            ∙ (ap (λ (z : Worlds State). goes t z r) one ∙ goes_twice t w h.here r));
        stands = stand_on program (layout_of paid.memory) (layout_of new.memory) new.threads.alive.items layout set.stand;
        layout = layout ∙ mapped;
      }

  -- at the end no unit is left
  pub skipped_end : (now : World) (h : Skips program p t w s left now) (b : Bool) → b ≡ is_silent h.here.event → now.left ≡ 0
      → Skipped program p t w s left now (not b)
  skipped_end now h true e spent = record { skips = h; silent = sym e; spent = spent }
  skipped_end now h false e spent = record { skips = h; loud = sym e }

  pub all_skipped : (now : World) (b : Bool) → Skipped program p t w s left now b → b ≡ true → SkipsAll program p t w s left now
  all_skipped now b h e = subst (λ (z : Bool). Skipped program p t w s left now z) e h

  pub on_skipped : (now : World) (b : Bool) → Skipped program p t w s left now b → b ≡ false → SkipsOn program p t w s left now
  on_skipped now b h e = subst (λ (z : Bool). Skipped program p t w s left now z) e h

-- the entry

pub either_true : (a b : Bool) → a ≡ true → (a || b) ≡ true
either_true true b h = refl
either_true false b h = absurd (false≢true h)

pub second_of : (a b c : Bool) → a ≡ false → b ≡ c → (a || b) ≡ c
second_of true b c h e = absurd (true≢false h)
second_of false b c h e = e

module _ (program : Program) (p : MemoryLayout) (t : ℕ) (w : Worlds State) (s : State) (left : ℕ) (going : w.end ≡ None) (at : w.threads t ≡ alive s) where
  -- too many silent steps
  unfoldable pub spent_silently : (now : World) → SkipsOn program p t w s left now → entries.Unfinished (source program) p t w left
  spent_silently now h = record {
    going = going;
    moment = outside s h.skips.here at h.skips.steps;
    all = omega (arith, h.skips.cost, h.spent);
    further = either_true (is_silent h.skips.here.event) (is_enabled t w h.skips.here.event) h.silent;
  }

  pub enabled_from : (now : World) (h : Skips program p t w s left now) (event : Event) (b : Bool) → event ≡ h.here.event
      → b ≡ is_enabled t (world_of now) event → is_enabled t w h.here.event ≡ b
  enabled_from now h event b e q =
      sym (q ∙ (ap (λ (z : Event). is_enabled t (world_of now) z) e ∙
      (ap (λ (z : Worlds State). is_enabled t z h.here.event) h.world ∙ enabled_same t w h.here h.here.event)))

  -- an event that is not enabled
  unfoldable pub refused_there : (now : World) (h : SkipsAll program p t w s left now) (event : Event) (b : Bool) → event ≡ h.skips.here.event
      → b ≡ is_enabled t (world_of now) event → b ≡ false → entries.Refused (source program) p t w left
  refused_there now h event b e q f =
      stays (outside s h.skips.here at h.skips.steps) (omega (arith, h.skips.cost))
      (second_of (is_silent h.skips.here.event) (is_enabled t w h.skips.here.event) false h.loud (enabled_from now h.skips event b e q ∙ f))

  -- an event for which no unit is left
  unfoldable pub spent_there : (now : World) (h : SkipsAll program p t w s left now) (event : Event) (b : Bool) → event ≡ h.skips.here.event
      → b ≡ is_enabled t (world_of now) event → b ≡ true → now.left ≡ 0 → entries.Unfinished (source program) p t w left
  spent_there now h event b e q f l = record {
    going = going;
    moment = outside s h.skips.here at h.skips.steps;
    all = omega (arith, h.skips.cost, l);
    further = second_of (is_silent h.skips.here.event) (is_enabled t w h.skips.here.event) true h.loud (enabled_from now h.skips event b e q ∙ f);
  }

  -- the event or the block
  unfoldable pub stepped : (here : State) (steps : SilentSteps (source program) s here) (k : ℕ) (new : World) (r : Entry) → silent_cost steps + (k + 1) ≡ left
      → Acted program p t w here k new r → Stepped program p t w left new r
  stepped here steps k new Taken c h = record {
    world = h.world;
    step = record { going = going; from = s; before = here; is = at; silents = steps; does = h.done.does };
    shows = h.shows;
    stands = h.stands;
    layout = h.layout;
    cost = omega (arith, h.done.cost, c);
  }
  stepped here steps k new Refused c h = stays (within s here h.at.kind h.at.last at steps h.at.begins h.at.free h.at.run) (omega (arith, h.cost, c)) h.never
  stepped here steps k new Spent c h = record {
    going = going;
    moment = within s here h.at.kind h.at.last at steps h.at.begins h.at.free h.at.run;
    all = omega (arith, h.cost, c);
    further = h.further;
  }

-- no end is there
pub none_there : {A : Type 0} (o : Option A) → is_some o ≡ false → o ≡ None
none_there None h = refl
none_there (Some x) h = absurd (true≢false h)

-- a unit was paid where one was left
pub has_paid : (b : Bool) (k m : ℕ) → (b ≡ true → k + 1 ≡ m) → (b ≡ false → m ≡ 0) → 0 < m → k + 1 ≡ m
has_paid true k m h g l = h refl
has_paid false k m h g l = let none : m ≡ 0 = g refl in absurd (omega (arith, none, l))

-- what is left after a step that was paid
pub paid_less : (r : Result Entry AllocError) (n k m : ℕ) → OnOk r (n ≤ k) → k + 1 ≤ m → IfOk r (λ e. e ≡ Taken → n < m)
paid_less (Ok e) n k m h l = λ _. omega (arith, h, l)
paid_less (Err e) n k m h l = tt
