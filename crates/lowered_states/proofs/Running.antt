-- Runs: what stays from one state to each that is reached from it.
use Rattle.std.proofs.Common.{◌≡◌, ◌∙◌, refl, sym, ap, false, ℕ, zero, suc, ◌+◌, ◌-◌, ◌<◌, ◌≤◌, List, [], ◌∷◌, length, map, get_or, slice_get, Some, arith}
use Rattle.std.proofs.lemmas.List.{length-map, get_or_append_left}
use Rattle.std.proofs.lemmas.Bool.Decides.{nat_tests}
use Rattle.cpp_tree.specs.Trees.{nowhere}
use Rattle.cpp_tree.specs.cpp_types.declared.classes.At.{At}
use Rattle.cpp_tree.specs.declared.arena.TNodeId.{TNodeId}
use Rattle.low_code.specs.declared.scopes.Scope.{Scope}
use Rattle.low_code.specs.Names.{number_of}
use Rattle.low_code.specs.Scopes.{outermost}
use Rattle.unwind_lower.specs.declared.items.Item.{Item}
use Rattle.unwind_lower.specs.declared.items.Item.TheVariants.{Pads, Run, BodyEnds}
use Rattle.unwind_lower.specs.declared.items.Way.TheVariants.{Dropped}
use Rattle.unwind_lower.specs.States.{State, later}
use Rattle.unwind_lower.specs.States as states
use Rattle.unwind_lower.specs.Settings.{Setting}
use Rattle.unwind_lower.specs.Steps.{Reaches, here, behind}
use Rattle.unwind_lower.specs.Steps as steps_of
use Rattle.unwind_lower.specs.Functions.{begun, started, WrittenTo}
use Rattle.lowered_states.specs.Claims.{with_claims, is_place, opens, is_lost}
use Rattle.lowered_states.specs.Kept.{Begins, Kept, bare, IsSame}
use Rattle.lowered_states.specs.Sound.{SoundWith, Sound, AreNumbered, scope_from, room}
use Rattle.lowered_states.specs.Runs.{IsApart, AreApart, Sleeps}
use Rattle.lowered_states.proofs.Counting.{put_sum, begins_longer}
use Rattle.lowered_states.proofs.Knowing.{bare_at}
use Rattle.lowered_states.proofs.Naming.{number_append, named_number, name_there}
use Rattle.lowered_states.proofs.Moves.{Start, same}
use Rattle.lowered_states.proofs.Single.{Step, step_same, step_then}
use Rattle.lowered_states.proofs.Whole.{steps, asleep_in, sound_in}
use Rattle.lowered_states.proofs.Basic.{more}
use Rattle.lowered_states.proofs.Functions.{store_words}
use Rattle.lowered_states.proofs.Steps.{written}

-- ---- one item

-- the claims of an item that is taken are at hand
pub taken : (item : Item) (s : State) → Sound (later item s) → SoundWith (with_claims item []) s
unfolding later
taken item s h = record {
  numbered = h.numbered;
  nested = h.nested;
  led = h.led;
  within = h.within;
  known = h.known;
  knows = h.knows.1;
  found = omega (arith, h.found, put_sum (is_lost (length s.body.scopes)) item [] s.work);
  once = λ scope sort. omega (arith, h.once scope sort, put_sum (is_place scope sort) item [] s.work);
  apart = λ index. omega (arith, h.apart index, put_sum (opens index s.body.pending) item [] s.work);
  jumps = λ index k. h.jumps index (omega (arith, put_sum (opens index s.body.pending) item [] s.work));
}

abbrev awake : (item : Item) (s : State) → Sound (later item s) → Start
awake item s h = record { from = s; claims = with_claims item []; sound = taken item s h; asleep = ⊥; rests = λ a. absurd a }

item_step : (g : Setting) (item : Item) (s : State) → Sound (later item s) → IsApart g item s
    → Step (with_claims item []) s [] (steps_of.written g item s)
unfolding later
item_step g item s h a = steps {z = awake item s h} (written g item h.knows.0 (λ e. absurd e) {cs = []} a same)

pub step_of : (g : Setting) (item : Item) (s : State) → Sound (later item s) → IsApart g item s → Step [] (later item s) [] (steps_of.written g item s)
unfolding later
step_of g item s h a = let p = item_step g item s h a in record {
  kept = record {
    names = p.kept.names;
    scopes = p.kept.scopes;
    catches = p.kept.catches;
    pads = p.kept.pads;
    pending = p.kept.pending;
    lows = p.kept.lows;
  };
  sound = p.sound;
  stays = λ index l e. p.stays index l (omega (arith, put_sum (opens index s.body.pending) item [] s.work));
  waits = λ index l k.
      let w = p.waits index l k in
      (w.0, omega (arith, w.1, put_sum (opens index s.body.pending) item [] s.work));
  gone = λ scope sort l e. p.gone scope sort l (omega (arith, put_sum (is_place scope sort) item [] s.work));
}

-- where no instruction can be reached, none is written
pub none_written : (g : Setting) (item : Item) (s : State) → Sound (later item s) → IsApart g item s → Sleeps item → s.body.live ≡ false
    → ((steps_of.written g item s).body.live ≡ false) × ((steps_of.written g item s).body.code ≡ s.body.code)
unfolding later
none_written g item s h a sleeps dead =
    let z : Start = record { from = s; claims = with_claims item []; sound = taken item s h; asleep = Unit {0}; rests = λ e. dead } in
    asleep_in {z = z} (written g item h.knows.0 (λ e. sleeps) {cs = []} a same) tt

-- ---- runs

pub run_step : (g : Setting) (from : State) {to : State} → Sound from → AreApart g from → Reaches g from to → Step [] from [] to
run_step g from h a here = step_same [] from h
run_step g from h a (behind item s r) = let p = run_step g from h a r in step_then p (step_of g item s p.sound (a item s r))

-- one run behind another
pub reaches_then : (g : Setting) (from mid : State) {to : State} → Reaches g from mid → Reaches g mid to → Reaches g from to
reaches_then g from mid p here = p
reaches_then g from mid p (behind item s r) = behind item s (reaches_then g from mid p r)

pub apart_on : (g : Setting) (from to : State) → AreApart g from → Reaches g from to → AreApart g to
apart_on g from to a r item s q = a item s (reaches_then g from to r q)

pub same_scopes : (from to : State) → Kept from to → (number : ℕ) → number < length from.body.scopes
    → IsSame (scope_from from.body.scopes number) (scope_from to.body.scopes number)
same_scopes from to k number l =
    sym (bare_at from.body.scopes number)
    ∙ sym (get_or_append_left (map bare from.body.scopes) k.scopes.rest (bare (outermost nowhere)) number (omega (arith, l, length-map from.body.scopes bare)))
    ∙ ap (λ (ss : List Scope). get_or ss number (bare (outermost nowhere))) (sym k.scopes.is)
    ∙ bare_at to.body.scopes number

pub more_scopes : (from to : State) → Kept from to → length from.body.scopes ≤ length to.body.scopes
more_scopes from to k = omega (arith, begins_longer k.scopes, length-map from.body.scopes bare, length-map to.body.scopes bare)

pub same_number : (from to : List (List ℕ)) → Begins from to → (name : List ℕ) → number_of name from < length from → number_of name to ≡ number_of name from
same_number from to b name l = ap (number_of name) b.is ∙ number_append name from b.rest l

-- the number of a name that came
pub number_stays : (name : List ℕ) (s to : State) → Begins (states.named name s).names to.names → number_of name to.names ≡ number_of name s.names
unfolding states.named
number_stays name s to b =
    let n = named_number name s.names in
    same_number (states.named name s).names to.names b name (omega (arith, n.0, n.1)) ∙ n.0

-- and the name stands at its number
pub name_stays : (name : List ℕ) (s to : State) → Begins (states.named name s).names to.names → slice_get to.names (number_of name s.names) ≡ Some name
unfolding states.named
name_stays name s to b =
    let e = number_stays name s to b in
    let n = named_number name s.names in
    ap (slice_get to.names) (sym e) ∙ name_there name to.names (omega (arith, e, n.1, begins_longer b))

-- ---- beginnings

pub begun_sound : (g : Setting) (names : List (List ℕ)) (at : At) → AreNumbered names → Sound (begun g names at)
begun_sound g names at n = record {
  numbered = n;
  nested = λ number. nested number;
  led = (omega arith, tt);
  within = omega arith;
  known = tt;
  knows = tt;
  found = refl;
  once = λ scope sort. once 1 scope;
  apart = λ index. once 0 index;
  jumps = λ index k. absurd (omega arith);
}
  where
    nested : (number : ℕ) → (scope_from (outermost at ∷ []) number).parent ≤ number - 1
    nested zero = omega arith
    nested (suc number) = omega arith

    once : (n number : ℕ) → 0 + 0 + room n number ≤ 1
    once n number = grind (arith, nat_tests)

abbrev idle : (s : State) → Sound s → Start
idle s h = record { from = s; claims = []; sound = h; asleep = ⊥; rests = λ a. absurd a }

pub started_sound : (g : Setting) (root : TNodeId) (at : At) (s : State) → Sound s → Sound (started g root at s)
unfolding started
started_sound g root at s h = sound_in {z = idle s h} (more (Run root Dropped) tt (more (BodyEnds at) tt (store_words g at same)))

pub pads_sound : (s : State) → Sound s → Sound (later (Pads 0) s)
pads_sound s h = sound_in {z = idle s h} (more (Pads 0) tt same)

pub whole_sound : (g : Setting) (root : TNodeId) (names : List (List ℕ)) (at : At) (to : State) (w : WrittenTo g root at (begun g names at) to)
    → AreNumbered names → AreApart g (started g root at (begun g names at)) → AreApart g (later (Pads 0) w.body) → Sound to
whole_sound g root names at to w n a b =
    let body = (run_step g (started g root at (begun g names at)) (started_sound g root at (begun g names at) (begun_sound g names at n)) a
    w.body_written.reaches).sound in
    (run_step g (later (Pads 0) w.body) (pads_sound w.body body) b w.pads_written.reaches).sound
