-- Single steps: what they keep, and what holds behind them.
use Rattle.std.proofs.Common.{◌≡◌, ◌∙◌, refl, sym, ap, subst, Bool, true, false, cond, ℕ, zero, suc, ◌+◌, ◌-◌, ◌<◌, ◌≤◌, nat_eq, nat_le, List, [], ◌∷◌, ◌++◌, length, map, get_or, slice_set, Option, Some, None, arith, ◌⊎◌, inl, inr, length-set, le_refl, le_trans, ap₂, ◌&&◌, fold}
use Rattle.std.proofs.lemmas.Bool.Decides.{nat_tests}
use Rattle.std.proofs.lemmas.List.{get_or_append_left, get_or_push, length_push, map-append, get_or-set_other}
use Rattle.tx_code.specs.declared.instr.Instr.{Instr}
use Rattle.cpp_tree.specs.cpp_types.declared.classes.At.{At}
use Rattle.low_code.specs.declared.scopes.Scope.{Scope}
use Rattle.low_code.specs.declared.writer.LowInstr.{LowInstr}
use Rattle.low_code.specs.declared.writer.Jump.{Jump}
use Rattle.low_code.specs.declared.writer.Sort.{Sort}
use Rattle.low_code.specs.declared.writer.Sort.TheVariants.{Past as PastIt, Again}
use Rattle.low_code.specs.declared.writer.Pending.{Pending}
use Rattle.low_code.specs.declared.writer.Catch.{Catch}
use Rattle.low_code.specs.Effects.{takes_of, leaves_of}
use Rattle.low_code.specs.Names.{with_name}
use Rattle.low_code.specs.Writer.{Body, same_sort, leads_to, no_low, outer_by, led}
use Rattle.low_code.specs.Writer as low
use Rattle.unwind_lower.specs.declared.items.Item.{Item}
use Rattle.unwind_lower.specs.States.{State}
use Rattle.lowered_states.specs.Claims.{Claim, jump, coming, with_jump, claims_in, one_if, sum_of, held, is_place, waiting, opens, is_lost, is_open}
use Rattle.lowered_states.specs.Kept.{Begins, Kept, bare, instr_in, unaimed}
use Rattle.lowered_states.specs.Sound.{SoundWith, AreLed, AreKnown, AllKnow, room}
use Rattle.lowered_states.proofs.Counting.{begins_is, shown_longer, begins_same, begins_push, begins_then, held_push, none_wait, known_more, known_push}
use Rattle.lowered_states.proofs.Knowing.{all_know_more, led_more, led_push, led_set, led_at, led_outer, nested_push, bare_set, same_parent}
use Rattle.lowered_states.proofs.Naming.{name_kept, name_numbered}
use Rattle.lowered_states.proofs.Moves.{with_body, with_work, Fewer}

-- what a step with claims at hand leaves behind
pub record Step (cs : List Claim) (s : State) (ds : List Claim) (t : State) : Type 0 where
  pub kept : Kept s t
  pub sound : SoundWith ds t
  -- an instruction that is no open jump stays, and is none
  pub stays : (index : ℕ) → index < length s.body.code → held (opens index s.body.pending) cs s.work ≡ 0
      → (instr_in index t.body.code ≡ instr_in index s.body.code) × (held (opens index t.body.pending) ds t.work ≡ 0)
  -- one that is an open jump still is as it was
  pub waits : (index : ℕ) → index < length s.body.code → 1 ≤ held (opens index t.body.pending) ds t.work
      → (instr_in index t.body.code ≡ instr_in index s.body.code) × (1 ≤ held (opens index s.body.pending) cs s.work)
  -- a place that is no more to come does not come again
  pub gone : (scope : ℕ) (sort : Sort) → scope < length s.body.scopes → held (is_place scope sort) cs s.work ≡ 0 → held (is_place scope sort) ds t.work ≡ 0

pub kept_same : (s : State) → Kept s s
kept_same s = record {
  names = begins_same s.names;
  scopes = begins_same (map bare s.body.scopes);
  catches = begins_same s.body.catches;
  pads = begins_same s.body.pads;
  pending = begins_same s.body.pending;
  lows = begins_same (map unaimed s.body.code);
}

pub kept_then : {s t u : State} → Kept s t → Kept t u → Kept s u
kept_then p q = record {
  names = begins_then p.names q.names;
  scopes = begins_then p.scopes q.scopes;
  catches = begins_then p.catches q.catches;
  pads = begins_then p.pads q.pads;
  pending = begins_then p.pending q.pending;
  lows = begins_then p.lows q.lows;
}

pub step_same : (cs : List Claim) (s : State) → SoundWith cs s → Step cs s cs s
step_same cs s h = record { kept = kept_same s; sound = h; stays = λ index l e. (refl, e); waits = λ index l k. (refl, k); gone = λ scope sort l e. e }

pub step_then : {cs ds es : List Claim} {s t u : State} → Step cs s ds t → Step ds t es u → Step cs s es u
step_then {s = s} {t = t} p q = record {
  kept = kept_then p.kept q.kept;
  sound = q.sound;
  stays = λ index l e.
      let a = p.stays index l e in
      let b = q.stays index (le_trans l (shown_longer unaimed s.body.code t.body.code p.kept.lows)) a.1 in
      (b.0 ∙ a.0, b.1);
  waits = λ index l k.
      let b = q.waits index (le_trans l (shown_longer unaimed s.body.code t.body.code p.kept.lows)) k in
      let a = p.waits index l b.1 in
      (b.0 ∙ a.0, a.1);
  gone = λ scope sort l e. q.gone scope sort (le_trans l (shown_longer bare s.body.scopes t.body.scopes p.kept.scopes)) (p.gone scope sort l e);
}

-- ---- the code, and what else a body has beside its scopes and the jumps that wait

pub record Coded : Type 0 where
  pub code : List LowInstr
  pub catches : List Catch
  pub pads : List ℕ
  pub scope : ℕ
  pub depth : ℕ
  pub live : Bool

abbrev pub coded_body : Coded → Body → Body
coded_body c b = record {
  code = c.code;
  scopes = b.scopes;
  catches = c.catches;
  pads = c.pads;
  pending = b.pending;
  scope = c.scope;
  depth = c.depth;
  live = c.live;
}

abbrev pub coded_of : Body → Coded
coded_of b = record { code = b.code; catches = b.catches; pads = b.pads; scope = b.scope; depth = b.depth; live = b.live }

-- the instructions stay that are no open jumps, or are still open
abbrev pub Same : List Claim → List Claim → State → List LowInstr → Type 0
Same cs ds s code = (index : ℕ) → index < length s.body.code
    → (held (opens index s.body.pending) cs s.work ≡ 0) ⊎ (1 ≤ held (opens index s.body.pending) ds s.work)
    → instr_in index code ≡ instr_in index s.body.code

held_fewer : (w : Claim → ℕ) (cs ds : List Claim) (items : List Item) → Fewer ds cs → held w ds items ≤ held w cs items
held_fewer w cs ds items f = omega (arith, f w)

room_falls : (m n index : ℕ) → m ≤ n → room n index ≤ room m index
room_falls m n index l = grind (arith, nat_tests)

pub room_none : (n index held : ℕ) → 1 ≤ held → held + room n index ≤ 1 → index < n
room_none n index held h k = grind (arith, nat_tests)

pub coded_step : {cs : List Claim} (ds : List Claim) {s : State} → SoundWith cs s → (c : Coded) → Fewer ds cs → c.scope < length s.body.scopes
    → Begins (map unaimed s.body.code) (map unaimed c.code) → Begins s.body.catches c.catches → Begins s.body.pads c.pads → Same cs ds s c.code
    → Step cs s ds (with_body (coded_body c s.body) s)
coded_step {cs} ds {s} h c f w n b p same = record {
  kept = record {
    names = begins_same s.names;
    scopes = begins_same (map bare s.body.scopes);
    catches = b;
    pads = p;
    pending = begins_same s.body.pending;
    lows = n;
  };
  sound = record {
    numbered = h.numbered;
    nested = h.nested;
    led = h.led;
    within = w;
    known = h.known;
    knows = h.knows;
    found = omega (arith, h.found, held_fewer (is_lost (length s.body.scopes)) cs ds s.work f);
    once = λ scope sort. omega (arith, h.once scope sort, held_fewer (is_place scope sort) cs ds s.work f);
    apart = λ index. omega (
      arith,
      h.apart index,
      held_fewer (opens index s.body.pending) cs ds s.work f,
      room_falls (length s.body.code) (length c.code) index (shown_longer unaimed s.body.code c.code n),
    );
    jumps = λ index k. let e : 1 ≤ held (opens index s.body.pending) cs s.work = omega (arith, held_fewer (opens index s.body.pending) cs ds s.work f) in
        let there : index < length s.body.code = room_none (length s.body.code) index (held (opens index s.body.pending) cs s.work) e (h.apart index) in
        ap is_open (same index there (inr k)) ∙ h.jumps index e;
  };
  stays = λ index k e. (same index k (inl e), omega (arith, held_fewer (opens index s.body.pending) cs ds s.work f));
  waits = λ index l k. (same index l (inr k), omega (arith, held_fewer (opens index s.body.pending) cs ds s.work f));
  gone = λ scope sort k e. omega (arith, held_fewer (is_place scope sort) cs ds s.work f);
}

pub fewer_all : (cs : List Claim) → Fewer cs cs
fewer_all cs w = le_refl (sum_of w cs)

same_code : (cs : List Claim) (s : State) → Same cs cs s s.body.code
same_code cs s index l h = refl

-- only what is told beside the code changes
pub beside_step : {cs : List Claim} {s : State} → SoundWith cs s → (c : Coded) → c.code ≡ s.body.code → c.scope < length s.body.scopes
    → Begins s.body.catches c.catches → Begins s.body.pads c.pads → Step cs s cs (with_body (coded_body c s.body) s)
beside_step {cs} {s} h c e w b p = coded_step cs h c (fewer_all cs) w (begins_is (map unaimed s.body.code) (map unaimed c.code) (ap (map unaimed) e)) b p
    (λ index l k. ap (instr_in index) e)

-- ---- an instruction behind the others

pub instr_left : (xs ys : List LowInstr) (index : ℕ) → index < length xs → instr_in index (xs ++ ys) ≡ instr_in index xs
instr_left xs ys index l = ap (λ (x : LowInstr). x.instr) (get_or_append_left xs ys no_low index l)

maybe_lows : (live : Bool) (xs : List LowInstr) (x : LowInstr) → Begins (map unaimed xs) (map unaimed (cond live (xs ++ x ∷ []) xs))
maybe_lows true xs x = record { rest = unaimed x ∷ []; is = map-append unaimed xs (x ∷ []) }
maybe_lows false xs x = begins_same (map unaimed xs)

maybe_left : (live : Bool) (xs : List LowInstr) (x : LowInstr) (index : ℕ) → index < length xs
    → instr_in index (cond live (xs ++ x ∷ []) xs) ≡ instr_in index xs
maybe_left true xs x index l = instr_left xs (x ∷ []) index l
maybe_left false xs x index l = refl

pub wrote_step : {cs : List Claim} {s : State} → SoundWith cs s → (instr : Instr) (at : At) (takes leaves : ℕ)
    → Step cs s cs (with_body (low.written instr at takes leaves s.body) s)
wrote_step {cs} {s} h instr at takes leaves = coded_step cs h (coded_of (low.written instr at takes leaves s.body)) (fewer_all cs) h.within
    (maybe_lows s.body.live s.body.code (record { instr = instr; at = at; scope = (low.innermost s.body).rows }))
    (begins_same s.body.catches) (begins_same s.body.pads)
    (λ index l k. maybe_left s.body.live s.body.code (record { instr = instr; at = at; scope = (low.innermost s.body).rows }) index l)

-- ---- an open jump behind the others

next_open : (n index held : ℕ) → held + room n index ≤ 1 → (one_if (nat_eq n index) + held) + room (n + 1) index ≤ 1
next_open n index held h = grind (arith, nat_tests)

here_or : (n index held : ℕ) → 1 ≤ one_if (nat_eq n index) + held → (n ≡ index) ⊎ (1 ≤ held)
here_or n index held h = grind (arith, nat_tests)

not_here : (n index held : ℕ) → index < n → held ≡ 0 → one_if (nat_eq n index) + held ≡ 0
not_here n index held l e = grind (arith, nat_tests)

is_behind_it : (n index : ℕ) → index < n → one_if (nat_eq n index) ≡ 0
is_behind_it n index l = grind (arith, nat_tests)

not_lost : (count scope : ℕ) → scope < count → one_if (nat_le count scope) ≡ 0
not_lost count scope l = grind (arith, nat_tests)

opened_by : {cs : List Claim} {s : State} → SoundWith cs s → (j : Jump) (x : LowInstr) (depth : ℕ) (live : Bool) → j.index ≡ length s.body.code
    → j.scope < length s.body.scopes → is_open x.instr ≡ true → (v : Bool)
    → Step cs s (with_jump (cond v (Some j) None) cs) (with_body (coded_body (record {
      code = cond v (s.body.code ++ x ∷ []) s.body.code;
      catches = s.body.catches;
      pads = s.body.pads;
      scope = s.body.scope;
      depth = depth;
      live = live;
    }) s.body) s)
opened_by {cs} {s} h j x depth live at l o false = beside_step h (record {
  code = s.body.code;
  catches = s.body.catches;
  pads = s.body.pads;
  scope = s.body.scope;
  depth = depth;
  live = live;
}) refl h.within (begins_same s.body.catches) (begins_same s.body.pads)
opened_by {cs} {s} h j x depth live at l o true = record {
  kept = record {
    names = begins_same s.names;
    scopes = begins_same (map bare s.body.scopes);
    catches = begins_same s.body.catches;
    pads = begins_same s.body.pads;
    pending = begins_same s.body.pending;
    lows = record { rest = unaimed x ∷ []; is = map-append unaimed s.body.code (x ∷ []) };
  };
  sound = record {
    numbered = h.numbered;
    nested = h.nested;
    led = h.led;
    within = h.within;
    known = h.known;
    knows = h.knows;
    found = omega (arith, h.found, not_lost (length s.body.scopes) j.scope l);
    once = λ scope sort. omega (arith, h.once scope sort);
    apart = λ index. apart_now index;
    jumps = λ index k. jumps_now index (here_or (length s.body.code) index (held (opens index s.body.pending) cs s.work) (moved_here index k));
  };
  stays = λ index k e. (instr_left s.body.code (x ∷ []) index k, open_none index k e);
  waits = λ index l k. (instr_left s.body.code (x ∷ []) index l, still_open index l k);
  gone = λ scope sort k e. omega arith;
}
  where
    one_here : (index : ℕ) → one_if (nat_eq j.index index) ≡ one_if (nat_eq (length s.body.code) index)
    one_here index = ap (λ (n : ℕ). one_if (nat_eq n index)) at

    apart_now : (index : ℕ) → held (opens index s.body.pending) (jump j ∷ cs) s.work + room (length (s.body.code ++ x ∷ [])) index ≤ 1
    apart_now index =
        let e : length (s.body.code ++ x ∷ []) ≡ length s.body.code + 1 = length_push s.body.code x in
        let r : room (length (s.body.code ++ x ∷ [])) index ≡ room (length s.body.code + 1) index = ap (λ (n : ℕ). room n index) e in
        omega (arith, r, one_here index, next_open (length s.body.code) index (held (opens index s.body.pending) cs s.work) (h.apart index))

    moved_here : (index : ℕ) → 1 ≤ held (opens index s.body.pending) (jump j ∷ cs) s.work
        → 1 ≤ one_if (nat_eq (length s.body.code) index) + held (opens index s.body.pending) cs s.work
    moved_here index k = omega (arith, one_here index)

    jumps_now : (index : ℕ) → (length s.body.code ≡ index) ⊎ (1 ≤ held (opens index s.body.pending) cs s.work)
        → is_open (instr_in index (s.body.code ++ x ∷ [])) ≡ true
    jumps_now index (inl e) = ap (λ (y : LowInstr). is_open y.instr) (get_or_push s.body.code x no_low index e) ∙ o
    jumps_now index (inr k) = let there : index < length s.body.code =
        room_none (length s.body.code) index (held (opens index s.body.pending) cs s.work) k (h.apart index) in
        ap is_open (instr_left s.body.code (x ∷ []) index there) ∙ h.jumps index k

    still_open : (index : ℕ) → index < length s.body.code → 1 ≤ held (opens index s.body.pending) (jump j ∷ cs) s.work
        → 1 ≤ held (opens index s.body.pending) cs s.work
    still_open index l k = omega (arith, one_here index, is_behind_it (length s.body.code) index l)

    open_none : (index : ℕ) → index < length s.body.code → held (opens index s.body.pending) cs s.work ≡ 0
        → held (opens index s.body.pending) (jump j ∷ cs) s.work ≡ 0
    open_none index k e = omega (arith, one_here index, not_here (length s.body.code) index (held (opens index s.body.pending) cs s.work) k e)

pub opened_step : {cs : List Claim} {s : State} → SoundWith cs s → (instr : Instr) (at : At) → is_open instr ≡ true
    → Step cs s (with_jump (low.opened instr s.body) cs) (with_body (low.put instr at s.body) s)
opened_step {cs} {s} h instr at o = opened_by h (record {
  index = length s.body.code;
  scope = s.body.scope;
  depth = (s.body.depth - takes_of instr) + leaves_of instr;
}) (record { instr = instr; at = at; scope = (low.innermost s.body).rows }) (low.put instr at s.body).depth (low.put instr at s.body).live refl h.within o
    s.body.live

-- ---- a jump leads to the next index

pub aimed_longer : (index : ℕ) (code : List LowInstr) → length (low.aimed index code) ≡ length code
aimed_longer index code = length-set code index (low.aimed_low (length code) (get_or code index no_low))

lows_set : (code : List LowInstr) (index target : ℕ)
    → map unaimed (slice_set code index (low.aimed_low target (get_or code index no_low))) ≡ map unaimed code
lows_set [] zero target = refl
lows_set [] (suc index) target = refl
lows_set (x ∷ code) zero target = refl
lows_set (x ∷ code) (suc index) target = ap (λ (ys : List LowInstr). unaimed x ∷ ys) (lows_set code index target)

aimed_lows : (index : ℕ) (code : List LowInstr) → map unaimed (low.aimed index code) ≡ map unaimed code
aimed_lows index code = lows_set code index (length code)

pub aimed_other : (index other : ℕ) (code : List LowInstr) → (other ≡ index → ⊥) → instr_in other (low.aimed index code) ≡ instr_in other code
aimed_other index other code n = ap (λ (x : LowInstr). x.instr)
    (get_or-set_other code index other (low.aimed_low (length code) (get_or code index no_low)) no_low n)

other_index : (n index held : ℕ) → (one_if (nat_eq n index) + held ≡ 0) ⊎ (1 ≤ held) → one_if (nat_eq n index) + held ≤ 1 → index ≡ n → ⊥
other_index n index held h k e = grind (arith, nat_tests)

found_scope : (count scope rest : ℕ) → one_if (nat_le count scope) + rest ≡ 0 → scope < count
found_scope count scope rest h = grind (arith, nat_tests)

pub bound_step : {cs : List Claim} {s : State} (jump : Option Jump) → SoundWith (with_jump jump cs) s
    → Step (with_jump jump cs) s cs (with_body (low.bound jump s.body) s)
bound_step {cs} {s} None h = step_same cs s h
bound_step {cs} {s} (Some j) h = coded_step cs h (record {
  code = low.aimed j.index s.body.code;
  catches = s.body.catches;
  pads = s.body.pads;
  scope = j.scope;
  depth = j.depth;
  live = true;
}) (λ w. omega arith) (found_scope (length s.body.scopes) j.scope (held (is_lost (length s.body.scopes)) cs s.work) (omega (arith, h.found)))
    (begins_is (map unaimed s.body.code) (map unaimed (low.aimed j.index s.body.code)) (aimed_lows j.index s.body.code)) (begins_same s.body.catches)
    (begins_same s.body.pads)
    (λ index l k. aimed_other j.index index s.body.code (differs index k))
  where
    once : (index : ℕ) → one_if (nat_eq j.index index) + held (opens index s.body.pending) cs s.work ≤ 1
    once index = omega (arith, h.apart index)

    zero_or : (index : ℕ) → (held (opens index s.body.pending) (jump j ∷ cs) s.work ≡ 0) ⊎ (1 ≤ held (opens index s.body.pending) cs s.work)
        → (one_if (nat_eq j.index index) + held (opens index s.body.pending) cs s.work ≡ 0) ⊎ (1 ≤ held (opens index s.body.pending) cs s.work)
    zero_or index (inl e) = inl (omega arith)
    zero_or index (inr k) = inr k

    differs : (index : ℕ) → (held (opens index s.body.pending) (jump j ∷ cs) s.work ≡ 0) ⊎ (1 ≤ held (opens index s.body.pending) cs s.work)
        → index ≡ j.index → ⊥
    differs index k = other_index j.index index (held (opens index s.body.pending) cs s.work) (zero_or index k) (once index)

-- ---- the jumps that wait for a place lead to the next index

pub record AllBound (scope : ℕ) (sort : Sort) (ps : List Pending) (b c : Body) : Type 0 where
  pub scopes : c.scopes ≡ b.scopes
  pub catches : c.catches ≡ b.catches
  pub pads : c.pads ≡ b.pads
  pub pending : c.pending ≡ b.pending
  pub code : length c.code ≡ length b.code
  pub lows : map unaimed c.code ≡ map unaimed b.code
  pub within : (n : ℕ) → AreKnown n ps → b.scope < n → c.scope < n
  pub same : (index : ℕ) → waiting index scope sort ps ≡ 0 → instr_in index c.code ≡ instr_in index b.code

waits_here : (v w : Bool) (rest : ℕ) → v ≡ true → one_if (v && w) + rest ≡ 0 → w ≡ false
waits_here true true rest v e = absurd (omega arith)
waits_here true false rest v e = refl
waits_here false w rest v e = absurd cc

eq_differs : (m n : ℕ) → nat_eq m n ≡ false → n ≡ m → ⊥
eq_differs m n h e = grind (arith, nat_tests)

all_bound_by : (scope : ℕ) (sort : Sort) (ps : List Pending) (b : Body) → AllBound scope sort ps b (fold (low.bound_there scope sort) b ps)
all_bound_by scope sort [] b = record {
  scopes = refl;
  catches = refl;
  pads = refl;
  pending = refl;
  code = refl;
  lows = refl;
  within = λ n k l. l;
  same = λ index e. refl;
}
all_bound_by scope sort (p ∷ ps) b = by (leads_to scope sort p) refl (all_bound_by scope sort ps (low.bound_there scope sort b p))
  where
    by : (v : Bool) → leads_to scope sort p ≡ v → AllBound scope sort ps (low.bound_there scope sort b p) (fold (low.bound_there scope sort) b (p ∷ ps))
        → AllBound scope sort (p ∷ ps) b (fold (low.bound_there scope sort) b (p ∷ ps))
    by true e h =
        let is : low.bound_there scope sort b p ≡ low.bound (Some p.jump) b = ap (λ v. cond v (low.bound (Some p.jump) b) b) e in
        record {
          scopes = h.scopes ∙ ap (λ (c : Body). c.scopes) is;
          catches = h.catches ∙ ap (λ (c : Body). c.catches) is;
          pads = h.pads ∙ ap (λ (c : Body). c.pads) is;
          pending = h.pending ∙ ap (λ (c : Body). c.pending) is;
          code = h.code ∙ ap (λ (c : Body). length c.code) is ∙ aimed_longer p.jump.index b.code;
          lows = h.lows ∙ ap (λ (c : Body). map unaimed c.code) is ∙ aimed_lows p.jump.index b.code;
          within = λ n k l. h.within n k.2 (subst (λ (c : Body). c.scope < n) (sym is) k.1);
          same = λ index z.
              let d : nat_eq p.jump.index index ≡ false = waits_here (leads_to scope sort p) (nat_eq p.jump.index index) (waiting index scope sort ps) e z in
              h.same index (omega arith) ∙ ap (λ (c : Body). instr_in index c.code) is
              ∙ aimed_other p.jump.index index b.code (eq_differs p.jump.index index d);
        }
    by false e h =
        let is : low.bound_there scope sort b p ≡ b = ap (λ v. cond v (low.bound (Some p.jump) b) b) e in
        record {
          scopes = h.scopes ∙ ap (λ (c : Body). c.scopes) is;
          catches = h.catches ∙ ap (λ (c : Body). c.catches) is;
          pads = h.pads ∙ ap (λ (c : Body). c.pads) is;
          pending = h.pending ∙ ap (λ (c : Body). c.pending) is;
          code = h.code ∙ ap (λ (c : Body). length c.code) is;
          lows = h.lows ∙ ap (λ (c : Body). map unaimed c.code) is;
          within = λ n k l. h.within n k.2 (subst (λ (c : Body). c.scope < n) (sym is) l);
          same = λ index z. h.same index (omega arith) ∙ ap (λ (c : Body). instr_in index c.code) is;
        }

pub all_bound : (scope : ℕ) (sort : Sort) (b : Body) → AllBound scope sort b.pending b (low.bound_all scope sort b)
all_bound scope sort b = all_bound_by scope sort b.pending b

-- a body by what it has in common with another one
as_coded : (b c : Body) → c.scopes ≡ b.scopes → c.pending ≡ b.pending → coded_body (coded_of c) b ≡ c
as_coded b c e f = ap₂ (λ (ss : List Scope) (ps : List Pending). record {
  code = c.code;
  scopes = ss;
  catches = c.catches;
  pads = c.pads;
  pending = ps;
  scope = c.scope;
  depth = c.depth;
  live = c.live;
}) (sym e) (sym f)

zero_by : (waits held : ℕ) → (waits + held ≡ 0) ⊎ (1 ≤ held) → waits + held ≤ 1 → waits ≡ 0
zero_by waits held h k = grind arith

pub all_bound_step : {cs : List Claim} {s : State} (scope : ℕ) (sort : Sort) → SoundWith (coming scope sort ∷ cs) s
    → Step (coming scope sort ∷ cs) s cs (with_body (low.bound_all scope sort s.body) s)
all_bound_step {cs} {s} scope sort h =
    let a = all_bound scope sort s.body in
    subst (λ (b : Body). Step (coming scope sort ∷ cs) s cs (with_body b s)) (as_coded s.body (low.bound_all scope sort s.body) a.scopes a.pending)
    (coded_step cs h (coded_of (low.bound_all scope sort s.body)) (λ w. omega arith) (a.within (length s.body.scopes) h.known h.within)
    (begins_is (map unaimed s.body.code) (map unaimed (low.bound_all scope sort s.body).code) a.lows) (begins_is s.body.catches
    (low.bound_all scope sort s.body).catches a.catches)
    (begins_is s.body.pads (low.bound_all scope sort s.body).pads a.pads)
    (λ index l k. a.same index (none_here index k)))
  where
    zero_or : (index : ℕ) → (held (opens index s.body.pending) (coming scope sort ∷ cs) s.work ≡ 0) ⊎ (1 ≤ held (opens index s.body.pending) cs s.work)
        → (waiting index scope sort s.body.pending + held (opens index s.body.pending) cs s.work ≡ 0) ⊎ (1 ≤ held (opens index s.body.pending) cs s.work)
    zero_or index (inl e) = inl (omega arith)
    zero_or index (inr k) = inr k

    none_here : (index : ℕ) → (held (opens index s.body.pending) (coming scope sort ∷ cs) s.work ≡ 0) ⊎ (1 ≤ held (opens index s.body.pending) cs s.work)
        → waiting index scope sort s.body.pending ≡ 0
    none_here index k = zero_by (waiting index scope sort s.body.pending) (held (opens index s.body.pending) cs s.work) (zero_or index k)
        (omega (arith, h.apart index))

-- ---- a jump waits for a place

place_once : (count scope held : ℕ) → held + room count scope ≤ 1 → held ≤ 1
place_once count scope held h = omega arith

pub parked_step : {cs : List Claim} {s : State} (scope : ℕ) (sort : Sort) (jump : Option Jump) → scope < length s.body.scopes
    → SoundWith (with_jump jump cs) s
    → Step (with_jump jump cs) s cs (with_body (record s.body { pending = low.noted scope sort jump s.body.pending }) s)
parked_step {cs} {s} scope sort None l h = step_same cs s h
parked_step {cs} {s} scope sort (Some j) l h = record {
  kept = record {
    names = begins_same s.names;
    scopes = begins_same (map bare s.body.scopes);
    catches = begins_same s.body.catches;
    pads = begins_same s.body.pads;
    pending = begins_push s.body.pending p;
    lows = begins_same (map unaimed s.body.code);
  };
  sound = record {
    numbered = h.numbered;
    nested = h.nested;
    led = h.led;
    within = h.within;
    known = known_push s.body.pending p h.known l
        (found_scope (length s.body.scopes) j.scope (held (is_lost (length s.body.scopes)) cs s.work) (omega (arith, h.found)));
    knows = h.knows;
    found = omega (arith, h.found);
    once = λ place_scope place_sort. omega (arith, h.once place_scope place_sort);
    apart = λ index. omega (arith, h.apart index, fewer index);
    jumps = λ index k. h.jumps index (omega (arith, fewer index));
  };
  stays = λ index k e. (refl, omega (arith, fewer index));
  waits = λ index l k. (refl, omega (arith, fewer index));
  gone = λ place_scope place_sort k e. omega arith;
}
  where
    p : Pending
    p = record { jump = j; scope = scope; sort = sort }

    fewer : (index : ℕ) → held (opens index (s.body.pending ++ record { jump = j; scope = scope; sort = sort } ∷ [])) cs s.work
        ≤ one_if (nat_eq j.index index) + held (opens index s.body.pending) cs s.work
    fewer index = held_push index s.body.pending (record { jump = j; scope = scope; sort = sort }) cs s.work
        (place_once (length s.body.scopes) scope (held (is_place scope sort) cs s.work) (omega (arith, h.once scope sort)))

-- ---- scopes

-- a place of the new scope
new_places : (n scope : ℕ) (sort : Sort) → is_place scope sort (coming n PastIt) + is_place scope sort (coming n Again) ≤ one_if (nat_eq scope n)
new_places n scope PastIt = by (nat_eq scope n)
  where
    by : (v : Bool) → one_if (v && true) + one_if (v && false) ≤ one_if v
    by true = omega arith
    by false = omega arith
new_places n scope Again = by (nat_eq scope n)
  where
    by : (v : Bool) → one_if (v && false) + one_if (v && true) ≤ one_if v
    by true = omega arith
    by false = omega arith

below_differs : (m n : ℕ) → m < n → one_if (nat_eq m n) ≡ 0
below_differs m n l = grind (arith, nat_tests)

next_room : (n scope news held : ℕ) → news ≤ one_if (nat_eq scope n) → held + room n scope ≤ 1 → (news + held) + room (n + 1) scope ≤ 1
next_room n scope news held h k = grind (arith, nat_tests)

-- what is not lost is not lost with more scopes
lost_falls : (m n : ℕ) → m ≤ n → (c : Claim) → is_lost n c ≤ is_lost m c
lost_falls m n l (jump j) = room_falls m n j.scope l
lost_falls m n l (coming scope sort) = omega arith

lost_sum : (m n : ℕ) → m ≤ n → (cs : List Claim) → sum_of (is_lost n) cs ≤ sum_of (is_lost m) cs
lost_sum m n l [] = omega arith
lost_sum m n l (c ∷ cs) = omega (arith, lost_falls m n l c, lost_sum m n l cs)

pub added_step : {cs : List Claim} {s : State} → SoundWith cs s → (scope : Scope) → scope.parent < length s.body.scopes
    → outer_by scope.kind 0 ≤ length s.body.scopes
    → Step cs s (coming (length s.body.scopes) PastIt ∷ coming (length s.body.scopes) Again ∷ cs) (with_body (low.added scope s.body) s)
added_step {cs} {s} h scope p o = record {
  kept = record {
    names = begins_same s.names;
    scopes = record { rest = bare scope ∷ []; is = map-append bare s.body.scopes (scope ∷ []) };
    catches = begins_same s.body.catches;
    pads = begins_same s.body.pads;
    pending = begins_same s.body.pending;
    lows = begins_same (map unaimed s.body.code);
  };
  sound = record {
    numbered = h.numbered;
    nested = nested_push s.body.scopes scope h.nested p;
    led = led_push s.body.scopes scope (led_more more s.body.scopes h.led) (omega (arith, length_push s.body.scopes scope));
    within = omega (arith, h.within, length_push s.body.scopes scope);
    known = known_more more s.body.pending h.known;
    knows = all_know_more more s.work h.knows;
    found = omega (
      arith,
      h.found,
      lost_sum (length s.body.scopes) (length (s.body.scopes ++ scope ∷ [])) more cs,
      lost_sum (length s.body.scopes) (length (s.body.scopes ++ scope ∷ [])) more (claims_in s.work),
    );
    once = λ number sort. once_now number sort;
    apart = λ index. omega (arith, h.apart index, none index PastIt, none index Again);
    jumps = λ index k. h.jumps index (omega (arith, none index PastIt, none index Again));
  };
  stays = λ index k e. (refl, omega (arith, none index PastIt, none index Again));
  waits = λ index l k. (refl, omega (arith, none index PastIt, none index Again));
  gone = λ number sort k e. omega (arith, new_places (length s.body.scopes) number sort, below_differs number (length s.body.scopes) k);
}
  where
    more : length s.body.scopes ≤ length (s.body.scopes ++ scope ∷ [])
    more = omega (arith, length_push s.body.scopes scope)

    none : (index : ℕ) (sort : Sort) → waiting index (length s.body.scopes) sort s.body.pending ≡ 0
    none index sort = none_wait index (length s.body.scopes) (length s.body.scopes) sort s.body.pending h.known (le_refl (length s.body.scopes))

    once_now : (number : ℕ) (sort : Sort)
        → held (is_place number sort) (coming (length s.body.scopes) PastIt ∷ coming (length s.body.scopes) Again ∷ cs) s.work
        + room (length (s.body.scopes ++ scope ∷ [])) number ≤ 1
    once_now number sort =
        let r : room (length (s.body.scopes ++ scope ∷ [])) number ≡ room (length s.body.scopes + 1) number =
        ap (λ (n : ℕ). room n number) (length_push s.body.scopes scope) in
        omega (
          arith,
          r,
          next_room (length s.body.scopes) number
              (is_place number sort (coming (length s.body.scopes) PastIt) + is_place number sort (coming (length s.body.scopes) Again))
              (held (is_place number sort) cs s.work) (new_places (length s.body.scopes) number sort) (h.once number sort),
        )

-- scopes that are as before but for the ways out of blocks around
scopes_step : {cs : List Claim} {s : State} → SoundWith cs s → (scopes : List Scope) → length scopes ≡ length s.body.scopes
    → map bare scopes ≡ map bare s.body.scopes → AreLed (length s.body.scopes) scopes → Step cs s cs (with_body (record s.body { scopes = scopes }) s)
scopes_step {cs} {s} h scopes l e d = record {
  kept = record {
    names = begins_same s.names;
    scopes = begins_is (map bare s.body.scopes) (map bare scopes) e;
    catches = begins_same s.body.catches;
    pads = begins_same s.body.pads;
    pending = begins_same s.body.pending;
    lows = begins_same (map unaimed s.body.code);
  };
  sound = record {
    numbered = h.numbered;
    nested = λ number. omega (arith, same_parent scopes s.body.scopes e number, h.nested number);
    led = subst (λ n. AreLed n scopes) (sym l) d;
    within = omega (arith, l, h.within);
    known = subst (λ n. AreKnown n s.body.pending) (sym l) h.known;
    knows = subst (λ n. AllKnow n s.work) (sym l) h.knows;
    found = subst (λ n. held (is_lost n) cs s.work ≡ 0) (sym l) h.found;
    once = λ scope sort. subst (λ n. held (is_place scope sort) cs s.work + room n scope ≤ 1) (sym l) (h.once scope sort);
    apart = h.apart;
    jumps = h.jumps;
  };
  stays = λ index k z. (refl, z);
  waits = λ index l k. (refl, k);
  gone = λ scope sort k z. z;
}

pub linked_step : {cs : List Claim} {s : State} → SoundWith cs s → (inner outer : ℕ) → outer < length s.body.scopes
    → Step cs s cs (with_body (low.linked inner outer s.body) s)
linked_step {cs} {s} h inner outer l = by (nat_eq inner 0)
  where
    by : (v : Bool) → Step cs s cs (with_body (cond v s.body
        (record s.body { scopes = slice_set s.body.scopes inner (led outer (low.scope_in s.body inner)) })) s)
    by true = step_same cs s h
    by false = scopes_step h (slice_set s.body.scopes inner (led outer (low.scope_in s.body inner)))
        (length-set s.body.scopes inner (led outer (low.scope_in s.body inner))) (bare_set s.body.scopes inner outer)
        (led_set s.body.scopes inner (led outer (low.scope_in s.body inner)) h.led
        (led_outer outer (low.scope_in s.body inner).kind l (led_at s.body.scopes inner (omega (arith, h.within)) h.led)))

-- ---- names

pub named_step : {cs : List Claim} {s : State} → SoundWith cs s → (name : List ℕ)
    → Step cs s cs (record s { names = with_name name s.names })
named_step {cs} {s} h name = record {
  kept = record {
    names = name_kept name s.names;
    scopes = begins_same (map bare s.body.scopes);
    catches = begins_same s.body.catches;
    pads = begins_same s.body.pads;
    pending = begins_same s.body.pending;
    lows = begins_same (map unaimed s.body.code);
  };
  sound = record {
    numbered = name_numbered name s.names h.numbered;
    nested = h.nested;
    led = h.led;
    within = h.within;
    known = h.known;
    knows = h.knows;
    found = h.found;
    once = h.once;
    apart = h.apart;
    jumps = h.jumps;
  };
  stays = λ index k e. (refl, e);
  waits = λ index l k. (refl, k);
  gone = λ scope sort k e. e;
}

-- ---- what is to be written

pub work_step : {cs : List Claim} {s : State} → SoundWith cs s → (ds : List Claim) (items : List Item) → AllKnow (length s.body.scopes) items
    → ((w : Claim → ℕ) → held w ds items ≤ held w cs s.work) → Step cs s ds (with_work items s)
work_step {cs} {s} h ds items k f = record {
  kept = record {
    names = begins_same s.names;
    scopes = begins_same (map bare s.body.scopes);
    catches = begins_same s.body.catches;
    pads = begins_same s.body.pads;
    pending = begins_same s.body.pending;
    lows = begins_same (map unaimed s.body.code);
  };
  sound = record {
    numbered = h.numbered;
    nested = h.nested;
    led = h.led;
    within = h.within;
    known = h.known;
    knows = k;
    found = omega (arith, h.found, f (is_lost (length s.body.scopes)));
    once = λ scope sort. omega (arith, h.once scope sort, f (is_place scope sort));
    apart = λ index. omega (arith, h.apart index, f (opens index s.body.pending));
    jumps = λ index l. h.jumps index (omega (arith, f (opens index s.body.pending)));
  };
  stays = λ index l e. (refl, omega (arith, f (opens index s.body.pending)));
  waits = λ index l k. (refl, omega (arith, f (opens index s.body.pending)));
  gone = λ scope sort l e. omega (arith, f (is_place scope sort));
}
