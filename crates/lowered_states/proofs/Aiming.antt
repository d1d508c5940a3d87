-- Jumps that lead somewhere, and what stays of instructions.
use Rattle.std.proofs.Common.{◌≡◌, ◌∙◌, refl, sym, ap, subst, Bool, true, false, cond, ◌&&◌, ℕ, zero, suc, ◌+◌, ◌-◌, ◌<◌, ◌≤◌, nat_eq, List, [], ◌∷◌, ◌++◌, length, get_or, map, Option, Some, None, arith, ◌⊎◌, inl, inr, fold, le_trans}
use Rattle.std.proofs.lemmas.List.{get_or-set_same, get_or_append_left, length-map, length_push}
use Rattle.std.proofs.lemmas.Bool.Decides.{nat_tests}
use Rattle.tx_code.specs.declared.instr.Instr.{Instr}
use Rattle.tx_code.specs.declared.instr.Instr.TheVariants.{Jump as JumpTo, JumpZero}
use Rattle.low_code.specs.declared.scopes.Scope.{Scope}
use Rattle.low_code.specs.declared.scopes.ScopeKind.{ScopeKind}
use Rattle.low_code.specs.declared.scopes.ScopeKind.TheVariants.{Behind}
use Rattle.low_code.specs.declared.writer.Jump.{Jump}
use Rattle.low_code.specs.declared.writer.LowInstr.{LowInstr}
use Rattle.low_code.specs.declared.writer.Pending.{Pending}
use Rattle.low_code.specs.declared.writer.Sort.{Sort}
use Rattle.low_code.specs.declared.writer.Sort.TheVariants.{Past as PastIt, Again}
use Rattle.low_code.specs.Scopes.{led_to}
use Rattle.low_code.specs.Writer.{Body, aimed_instr, leads_to, no_low}
use Rattle.low_code.specs.Writer as low
use Rattle.unwind_lower.specs.declared.items.Item.{Item}
use Rattle.unwind_lower.specs.declared.items.Item.TheVariants.{Bind, Other, OtherAgain, StepDone, BodyDone, TestDone, Past, Handle, Pads}
use Rattle.unwind_lower.specs.declared.items.Other.{Other as OtherPart}
use Rattle.unwind_lower.specs.declared.items.Turn.{Turn}
use Rattle.unwind_lower.specs.States.{State, later}
use Rattle.unwind_lower.specs.States as states
use Rattle.unwind_lower.specs.Settings.{Setting, node_in}
use Rattle.unwind_lower.specs.Kids as kids
use Rattle.unwind_lower.specs.Conditions as conditions
use Rattle.unwind_lower.specs.Blocks as blocks
use Rattle.unwind_lower.specs.Steps.{Reaches, written}
use Rattle.lowered_states.specs.Claims.{Claim, jump, coming, with_jump, with_claims, claims_in, sum_of, one_if, held, waiting, opens, is_open, open_in, is_place}
use Rattle.lowered_states.specs.Kept.{Kept, IsSame, instr_in, instr_at, unaimed, is_behind}
use Rattle.lowered_states.specs.Sound.{SoundWith, Sound}
use Rattle.lowered_states.specs.Runs.{IsApart, AreApart, Leads, WritesNone}
use Rattle.lowered_states.proofs.Counting.{shown_longer, jump_sum}
use Rattle.lowered_states.proofs.Single.{aimed_longer, aimed_other, all_bound, room_none, instr_left}
use Rattle.lowered_states.proofs.Whole.{code_none, wrote_none}
use Rattle.lowered_states.proofs.Running.{taken, step_of, run_step, none_written}

-- ---- instructions stay

no_or : (held : ℕ) → (held ≡ 0) ⊎ (1 ≤ held)
no_or held = grind arith

-- what is no open jump is not claimed
unclaimed : (s : State) (index : ℕ) → Sound s → is_open (instr_at index s) ≡ false → open_in index s ≡ 0
unclaimed s index h e = elim (no_or (open_in index s)) as (λ _. open_in index s ≡ 0) [
  | inl z ↦ z
  | inr k ↦ let t : is_open (instr_at index s) ≡ true = h.jumps index k in absurd cc
]

pub closed_stays : (g : Setting) (from to : State) → Sound from → AreApart g from → Reaches g from to → (index : ℕ) → index < length from.body.code
    → is_open (instr_at index from) ≡ false → instr_at index to ≡ instr_at index from
closed_stays g from to h a r index l e = ((run_step g from h a r).stays index l (unclaimed from index h e)).0

pub same_low : (from to : State) → Kept from to → (index : ℕ) → index < length from.body.code
    → unaimed (get_or from.body.code index no_low) ≡ unaimed (get_or to.body.code index no_low)
same_low from to k index l =
    sym (shown from.body.code index)
    ∙ sym (get_or_append_left (map unaimed from.body.code) k.lows.rest (unaimed no_low) index (omega (arith, l, length-map from.body.code unaimed)))
    ∙ ap (λ (ls : List LowInstr). get_or ls index (unaimed no_low)) (sym k.lows.is)
    ∙ shown to.body.code index
  where
    shown : (code : List LowInstr) (n : ℕ) → get_or (map unaimed code) n (unaimed no_low) ≡ unaimed (get_or code n no_low)
    shown [] zero = refl
    shown [] (suc n) = refl
    shown (x ∷ code) zero = refl
    shown (x ∷ code) (suc n) = shown code n

-- ---- scopes keep their kinds

behind_led : (kind : ScopeKind) → is_behind (led_to 0 kind) ≡ is_behind kind
behind_led (Behind block next outer) = refl
behind_led kind = refl

led_same : (kind : ScopeKind) → is_behind kind ≡ false → led_to 0 kind ≡ kind
led_same (Behind block next outer) e = absurd cc
led_same kind e = refl

pub same_kind : (a b : Scope) → IsSame a b → is_behind a.kind ≡ false → b.kind ≡ a.kind
same_kind a b e n =
    let k : led_to 0 a.kind ≡ led_to 0 b.kind = ap (λ (s : Scope). s.kind) e in
    let m : is_behind b.kind ≡ false = sym (behind_led b.kind) ∙ ap is_behind (sym k) ∙ behind_led a.kind ∙ n in
    sym (led_same b.kind m) ∙ sym k ∙ led_same a.kind n

-- ---- where jumps lead

aimed_same : (index : ℕ) (code : List LowInstr) → index < length code → instr_in index (low.aimed index code) ≡ aimed_instr (length code) (instr_in index code)
aimed_same index code l = ap (λ (x : LowInstr). x.instr)
    (get_or-set_same code index (low.aimed_low (length code) (get_or code index no_low)) no_low l)

not_zero : (target : ℕ) → 1 ≤ target → nat_eq target 0 ≡ false
not_zero target l = grind (arith, nat_tests)

aimed_closed : (target : ℕ) (instr : Instr) → 1 ≤ target → is_open (aimed_instr target instr) ≡ false
aimed_closed target (JumpZero other) l = not_zero target l
aimed_closed target instr l = not_zero target l

aimed_twice : (target : ℕ) (instr : Instr) → aimed_instr target (aimed_instr target instr) ≡ aimed_instr target instr
aimed_twice target (JumpZero other) = refl
aimed_twice target instr = refl

-- what is claimed is there
pub claimed_there : (cs : List Claim) (s : State) (index : ℕ) → SoundWith cs s → 1 ≤ held (opens index s.body.pending) cs s.work → index < length s.body.code
claimed_there cs s index h k = room_none (length s.body.code) index (held (opens index s.body.pending) cs s.work) k (h.apart index)

pub claimed_once : (s : State) (index : ℕ) → Sound s → open_in index s ≤ 1
claimed_once s index h = omega (arith, h.apart index)

leads_by : (g : Setting) (item : Item) (s : State) (index target : ℕ) → Sound (later item s) → IsApart g item s → index < length s.body.code → 1 ≤ target
    → instr_at index (written g item s) ≡ aimed_instr target (instr_at index s) → Leads g item s index target
unfolding later
leads_by g item s index target h a l k e to apart r =
    let p = step_of g item s h a in
    closed_stays g (written g item s) to p.sound apart r index
    (le_trans l (shown_longer unaimed s.body.code (written g item s).body.code p.kept.lows))
    (ap is_open e ∙ aimed_closed target (instr_at index s) k) ∙ e

eq_self : (n : ℕ) → one_if (nat_eq n n) ≡ 1
eq_self n = grind (arith, nat_tests)

first_there : (j : Jump) (cs : List Claim) (s : State) → SoundWith (jump j ∷ cs) s → j.index < length s.body.code
first_there j cs s h = claimed_there (jump j ∷ cs) s j.index h (omega (arith, eq_self j.index))

second_there : (c : Claim) (j : Jump) (cs : List Claim) (s : State) → SoundWith (c ∷ jump j ∷ cs) s → j.index < length s.body.code
second_there c j cs s h = claimed_there (c ∷ jump j ∷ cs) s j.index h (omega (arith, eq_self j.index))

pub bind_leads : (g : Setting) (j : Jump) (s : State) → Sound (later (Bind (Some j)) s) → Leads g (Bind (Some j)) s j.index (states.here s)
unfolding written states.bound states.here
bind_leads g j s h =
    let l = first_there j [] s (taken (Bind (Some j)) s h) in
    leads_by g (Bind (Some j)) s j.index (length s.body.code) h tt l (omega arith) (aimed_same j.index s.body.code l)

-- a jump that is made meanwhile stands behind
jumped_left : (live : Bool) (code : List LowInstr) (x : LowInstr) (index : ℕ) → index < length code
    → (instr_in index (cond live (code ++ x ∷ []) code) ≡ instr_in index code) × (index < length (cond live (code ++ x ∷ []) code))
jumped_left true code x index l = (instr_left code (x ∷ []) index l, omega (arith, length_push code x))
jumped_left false code x index l = (refl, l)

test_there : (o : OtherPart) (j : Jump) (s : State) → o.test ≡ Some j → SoundWith (with_jump o.test []) s → j.index < length s.body.code
test_there o j s e h = first_there j [] s (subst (λ (t : Option Jump). SoundWith (with_jump t []) s) e h)

bound_some : (t : Option Jump) (j : Jump) (b : Body) → t ≡ Some j → (low.bound t b).code ≡ low.aimed j.index b.code
bound_some t j b e = ap (λ (i : Option Jump). (low.bound i b).code) e

other_code : (o : OtherPart) (j : Jump) (s : State) → o.test ≡ Some j → j.index < length s.body.code
    → (instr_in j.index (conditions.start_other o s).body.code ≡ aimed_instr (states.here (states.jumped o.at s)) (instr_at j.index s))
    × (1 ≤ states.here (states.jumped o.at s))
unfolding conditions.start_other states.bound states.at_scope states.jumped states.here
other_code o j s e l =
    let k = jumped_left s.body.live s.body.code (record { instr = JumpTo 0; at = o.at; scope = (low.innermost s.body).rows }) j.index l in (
      ap (instr_in j.index) (bound_some o.test j (low.at_scope o.scope (low.put (JumpTo 0) o.at s.body)) e)
          ∙ aimed_same j.index (low.put (JumpTo 0) o.at s.body).code k.1
          ∙ ap (aimed_instr (length (low.put (JumpTo 0) o.at s.body).code)) k.0,
      omega (arith, k.1),
    )

pub other_leads : (g : Setting) (o : OtherPart) (j : Jump) (s : State) → o.test ≡ Some j → Sound (later (Other o) s)
    → Leads g (Other o) s j.index (states.here (states.jumped o.at s))
unfolding written conditions.other later
other_leads g o j s e h =
    let l = test_there o j s e (taken (Other o) s h) in
    let c = other_code o j s e l in
    leads_by g (Other o) s j.index (states.here (states.jumped o.at s)) h tt l c.1 c.0

pub other_again_leads : (g : Setting) (o : OtherPart) (j : Jump) (s : State) → o.test ≡ Some j → Sound (later (OtherAgain o) s)
    → Leads g (OtherAgain o) s j.index (states.here (states.jumped o.at s))
unfolding written conditions.other_again conditions.bind_behind later
other_again_leads g o j s e h =
    let l = test_there o j s e (taken (OtherAgain o) s h) in
    let c = other_code o j s e l in
    leads_by g (OtherAgain o) s j.index (states.here (states.jumped o.at s)) h tt l c.1 c.0

pub step_leads : (g : Setting) (turn : Turn) (j : Jump) (s : State) → turn.first ≡ Some j → Sound (later (StepDone turn) s)
    → Leads g (StepDone turn) s j.index (states.here s)
unfolding written blocks.step_done kids.run_kid later states.bound states.here
step_leads g turn j s e h =
    let l = second_there (coming turn.scope PastIt) j [] s
    (subst (λ (t : Option Jump). SoundWith (coming turn.scope PastIt ∷ with_jump t []) s) e (taken (StepDone turn) s h)) in
    leads_by g (StepDone turn) s j.index (length s.body.code) h tt l (omega arith)
    (ap (instr_in j.index) (bound_some turn.first j s.body e) ∙ aimed_same j.index s.body.code l)

-- ---- where the jumps lead that wait for a place

here_or_later : (v w : Bool) (rest : ℕ) → 1 ≤ one_if (v && w) + rest → ((v ≡ true) × (w ≡ true)) ⊎ (1 ≤ rest)
here_or_later true true rest h = inl (refl, refl)
here_or_later true false rest h = inr (omega arith)
here_or_later false w rest h = inr (omega arith)

same_index : (m n : ℕ) → nat_eq m n ≡ true → n ≡ m
same_index m n e = grind (arith, nat_tests)

other_or : (m n : ℕ) → (n ≡ m) ⊎ (n ≡ m → ⊥)
other_or m n = grind arith

-- the instruction at an index has been led to `n`, or waits for it still
abbrev Stage : ℕ → Sort → ℕ → Instr → ℕ → List Pending → Body → Type 0
Stage scope sort index instr n ps b = (length b.code ≡ n)
    × ((instr_in index b.code ≡ aimed_instr n instr) ⊎ ((instr_in index b.code ≡ instr) × (1 ≤ waiting index scope sort ps)))

module _ (scope : ℕ) (sort : Sort) (index : ℕ) (instr : Instr) (n : ℕ) (within : index < n) where
  led_now : (p : Pending) (ps : List Pending) (b : Body) → Stage scope sort index instr n (p ∷ ps) b
      → Stage scope sort index instr n ps (low.bound (Some p.jump) b)
  led_now p ps b h = (aimed_longer p.jump.index b.code ∙ h.0, by (other_or p.jump.index index) h.1)
    where
      at_it : index ≡ p.jump.index → (i : Instr) → instr_in index b.code ≡ i → instr_in index (low.aimed p.jump.index b.code) ≡ aimed_instr n i
      at_it d i e = ap (λ (k : ℕ). instr_in index (low.aimed k b.code)) (sym d) ∙ aimed_same index b.code (omega (arith, h.0))
          ∙ ap (λ (k : ℕ). aimed_instr k (instr_in index b.code)) h.0 ∙ ap (aimed_instr n) e

      by : (index ≡ p.jump.index) ⊎ (index ≡ p.jump.index → ⊥)
          → (instr_in index b.code ≡ aimed_instr n instr) ⊎ ((instr_in index b.code ≡ instr) × (1 ≤ waiting index scope sort (p ∷ ps)))
          → (instr_in index (low.aimed p.jump.index b.code) ≡ aimed_instr n instr)
          ⊎ ((instr_in index (low.aimed p.jump.index b.code) ≡ instr) × (1 ≤ waiting index scope sort ps))
      by (inl d) (inl e) = inl (at_it d (aimed_instr n instr) e ∙ aimed_twice n instr)
      by (inl d) (inr k) = inl (at_it d instr k.0)
      by (inr d) (inl e) = inl (aimed_other p.jump.index index b.code d ∙ e)
      by (inr d) (inr k) = inr (
        aimed_other p.jump.index index b.code d ∙ k.0,
        still (here_or_later (leads_to scope sort p) (nat_eq p.jump.index index) (waiting index scope sort ps) k.1),
      )
        where
          still : ((leads_to scope sort p ≡ true) × (nat_eq p.jump.index index ≡ true)) ⊎ (1 ≤ waiting index scope sort ps) → 1 ≤ waiting index scope sort ps
          still (inl e) = absurd (d (same_index p.jump.index index e.1))
          still (inr w) = w

  not_now : (p : Pending) (ps : List Pending) (b : Body) → leads_to scope sort p ≡ false → Stage scope sort index instr n (p ∷ ps) b
      → Stage scope sort index instr n ps b
  not_now p ps b e h = (h.0, by h.1)
    where
      still : ((leads_to scope sort p ≡ true) × (nat_eq p.jump.index index ≡ true)) ⊎ (1 ≤ waiting index scope sort ps) → 1 ≤ waiting index scope sort ps
      still (inl k) = let t : leads_to scope sort p ≡ true = k.0 in absurd cc
      still (inr w) = w

      by : (instr_in index b.code ≡ aimed_instr n instr) ⊎ ((instr_in index b.code ≡ instr) × (1 ≤ waiting index scope sort (p ∷ ps)))
          → (instr_in index b.code ≡ aimed_instr n instr) ⊎ ((instr_in index b.code ≡ instr) × (1 ≤ waiting index scope sort ps))
      by (inl k) = inl k
      by (inr k) = inr (k.0, still (here_or_later (leads_to scope sort p) (nat_eq p.jump.index index) (waiting index scope sort ps) k.1))

  stage_next : (p : Pending) (ps : List Pending) (b : Body) → Stage scope sort index instr n (p ∷ ps) b
      → Stage scope sort index instr n ps (low.bound_there scope sort b p)
  stage_next p ps b h = by (leads_to scope sort p) refl
    where
      by : (v : Bool) → leads_to scope sort p ≡ v → Stage scope sort index instr n ps (cond v (low.bound (Some p.jump) b) b)
      by true e = led_now p ps b h
      by false e = not_now p ps b e h

  aimed_all : (ps : List Pending) (b : Body) → Stage scope sort index instr n ps b
      → instr_in index (fold (low.bound_there scope sort) b ps).code ≡ aimed_instr n instr
  aimed_all [] b h = by h.1
    where
      by : (instr_in index b.code ≡ aimed_instr n instr) ⊎ ((instr_in index b.code ≡ instr) × (1 ≤ 0)) → instr_in index b.code ≡ aimed_instr n instr
      by (inl e) = e
      by (inr k) = absurd (omega (arith, k.1))
  aimed_all (p ∷ ps) b h = aimed_all ps (low.bound_there scope sort b p) (stage_next p ps b h)

all_aimed : (scope : ℕ) (sort : Sort) (index : ℕ) (b : Body) → index < length b.code → 1 ≤ waiting index scope sort b.pending
    → instr_in index (low.bound_all scope sort b).code ≡ aimed_instr (length b.code) (instr_in index b.code)
all_aimed scope sort index b l w =
    aimed_all scope sort index (instr_in index b.code) (length b.code) l b.pending b (refl, inr (refl, w))

pub body_leads : (g : Setting) (turn : Turn) (index : ℕ) (s : State) → 1 ≤ waiting index turn.scope Again s.body.pending → Sound (later (BodyDone turn) s)
    → Leads g (BodyDone turn) s index (states.here s)
unfolding written blocks.body_done kids.run_kid later states.bound_all states.left_scope states.here
body_leads g turn index s w h =
    let l = claimed_there (with_claims (BodyDone turn) []) s index (taken (BodyDone turn) s h) (omega (arith, w)) in
    leads_by g (BodyDone turn) s index (length s.body.code) h tt l (omega arith) (all_aimed turn.scope Again index (low.left_scope turn.scope s.body) l w)

pub past_leads : (g : Setting) (scope index : ℕ) (s : State) → 1 ≤ waiting index scope PastIt s.body.pending → Sound (later (Past scope) s)
    → Leads g (Past scope) s index (states.here s)
unfolding written blocks.past later states.bound_all states.at_scope states.here
past_leads g scope index s w h =
    let l = claimed_there (with_claims (Past scope) []) s index (taken (Past scope) s h) (omega (arith, w)) in
    leads_by g (Past scope) s index (length s.body.code) h tt l (omega arith) (all_aimed scope PastIt index s.body l w)

-- a jump that is made and led on at once changes no other instruction
led_on : (v : Bool) (j : Jump) (b : Body) (index : ℕ) → (index ≡ j.index → ⊥)
    → (instr_in index (low.bound (cond v (Some j) None) b).code ≡ instr_in index b.code) × (length (low.bound (cond v (Some j) None) b).code ≡ length b.code)
    × ((low.bound (cond v (Some j) None) b).pending ≡ b.pending)
led_on true j b index n = (aimed_other j.index index b.code n, aimed_longer j.index b.code, refl)
led_on false j b index n = (refl, refl, refl)

below_not : (m n : ℕ) → m < n → m ≡ n → ⊥
below_not m n l e = omega arith

pub test_leads : (g : Setting) (turn : Turn) (index : ℕ) (s : State) → 1 ≤ waiting index turn.scope PastIt s.body.pending → Sound (later (TestDone turn) s)
    → Leads g (TestDone turn) s index (states.here (states.put (JumpTo turn.top) (node_in g turn.id).at (states.jumped_if_zero (node_in g turn.id).at s)))
unfolding written blocks.test_done later states.bound_all states.bound states.zero_jump_from states.put states.jumped_if_zero states.here
test_leads g turn index s w h =
    let at = (node_in g turn.id).at in
    let l = claimed_there (with_claims (TestDone turn) []) s index (taken (TestDone turn) s h) (omega (arith, w)) in
    let tested : Body = low.put (JumpZero 0) at s.body in
    let gone : Body = low.put (JumpTo turn.top) at tested in
    let a = jumped_left s.body.live s.body.code (record { instr = JumpZero 0; at = at; scope = (low.innermost s.body).rows }) index l in
    let c = jumped_left tested.live tested.code (record { instr = JumpTo turn.top; at = at; scope = (low.innermost tested).rows }) index a.1 in
    let led = low.bound (low.opened (JumpZero 0) s.body) gone in
    let o = led_on s.body.live (record { index = length s.body.code; scope = s.body.scope; depth = (s.body.depth - 1) + 0 }) gone index
    (below_not index (length s.body.code) l) in
    leads_by g (TestDone turn) s index (length gone.code) h tt l (omega (arith, c.1))
    (all_aimed turn.scope PastIt index led (omega (arith, o.1, c.1)) (subst (λ ps. 1 ≤ waiting index turn.scope PastIt ps) (sym o.2) w)
    ∙ ap (λ (n : ℕ). aimed_instr n (instr_in index led.code)) o.1
    ∙ ap (aimed_instr (length gone.code)) (o.0 ∙ c.0 ∙ a.0))

-- ---- where no instruction can be reached

bound_long : (j : Option Jump) (b : Body) → length (low.bound j b).code ≡ length b.code
bound_long None b = refl
bound_long (Some j) b = aimed_longer j.index b.code

pub none_more : (g : Setting) (item : Item) (s : State) → Sound (later item s) → IsApart g item s → WritesNone item → s.body.live ≡ false
    → states.here (written g item s) ≡ states.here s
unfolding written states.here states.bound states.bound_all states.put states.jumped states.jumped_if_zero states.zero_jump_from states.at_scope states.left_scope later conditions.other conditions.other_again conditions.start_other conditions.bind_behind blocks.body_done blocks.step_done blocks.test_done blocks.past kids.run_kid
none_more g (Bind j) s h a w d = bound_long j s.body
none_more g (Other o) s h a w d = bound_long o.test (low.at_scope o.scope (low.put (JumpTo 0) o.at s.body))
    ∙ ap {B = ℕ} length (code_none (JumpTo 0) o.at 0 0 s.body d)
none_more g (OtherAgain o) s h a w d = bound_long o.test (low.at_scope o.scope (low.put (JumpTo 0) o.at s.body))
    ∙ ap {B = ℕ} length (code_none (JumpTo 0) o.at 0 0 s.body d)
none_more g (BodyDone turn) s h a w d = (all_bound turn.scope Again (low.left_scope turn.scope s.body)).code
none_more g (StepDone turn) s h a w d = bound_long turn.first s.body
none_more g (TestDone turn) s h a w d =
    let at = (node_in g turn.id).at in
    (all_bound turn.scope PastIt (low.bound (low.opened (JumpZero 0) s.body) (low.put (JumpTo turn.top) at (low.put (JumpZero 0) at s.body)))).code
    ∙ bound_long (low.opened (JumpZero 0) s.body) (low.put (JumpTo turn.top) at (low.put (JumpZero 0) at s.body))
    ∙ ap {B = ℕ} length (code_none (JumpTo turn.top) at 0 0 (low.put (JumpZero 0) at s.body) (wrote_none (JumpZero 0) s.body d))
    ∙ ap {B = ℕ} length (code_none (JumpZero 0) at 1 0 s.body d)
none_more g (Past scope) s h a w d = (all_bound scope PastIt s.body).code
none_more g (Handle id scope live) s h a w d = ap {B = ℕ} length (none_written g (Handle id scope live) s h a w d).1
none_more g (Pads scope) s h a w d = absurd w
none_more g item s h a w d = ap {B = ℕ} length (none_written g item s h a tt d).1

-- ---- places that have come

place_here : (n : ℕ) → one_if (nat_eq n n && true) ≡ 1
place_here n = by (nat_eq n n) (eq_self n)
  where
    by : (v : Bool) → one_if v ≡ 1 → one_if (v && true) ≡ 1
    by true e = refl
    by false e = absurd (omega arith)

place_not : (v : Bool) → one_if (v && false) ≡ 0
place_not true = refl
place_not false = refl

no_place : (scope : ℕ) (sort : Sort) (j : Option Jump) → sum_of (is_place scope sort) (with_jump j []) ≡ 0
no_place scope sort None = refl
no_place scope sort (Some j) = refl

pub body_gone : (g : Setting) (turn : Turn) (s : State) → Sound (later (BodyDone turn) s)
    → held (is_place turn.scope Again) [] (written g (BodyDone turn) s).work ≡ 0
unfolding written blocks.body_done kids.run_kid later states.bound_all states.left_scope
body_gone g turn s h = omega (
  arith,
  (taken (BodyDone turn) s h).once turn.scope Again,
  place_here turn.scope,
  place_not (nat_eq turn.scope turn.scope),
  no_place turn.scope Again turn.first,
  jump_sum (is_place turn.scope Again) turn.first (claims_in s.work),
)

pub test_gone : (g : Setting) (turn : Turn) (s : State) → Sound (later (TestDone turn) s)
    → held (is_place turn.scope PastIt) [] (written g (TestDone turn) s).work ≡ 0
unfolding written blocks.test_done later states.bound_all states.bound states.put states.jumped_if_zero
test_gone g turn s h = omega (arith, (taken (TestDone turn) s h).once turn.scope PastIt, place_here turn.scope)

pub past_gone : (g : Setting) (scope : ℕ) (s : State) → Sound (later (Past scope) s) → held (is_place scope PastIt) [] (written g (Past scope) s).work ≡ 0
unfolding written blocks.past later states.bound_all states.at_scope
past_gone g scope s h = omega (arith, (taken (Past scope) s h).once scope PastIt, place_here scope)

pub places_gone : (g : Setting) (from to : State) → Sound from → AreApart g from → Reaches g from to → (scope : ℕ) (sort : Sort)
    → scope < length from.body.scopes → held (is_place scope sort) [] from.work ≡ 0 → held (is_place scope sort) [] to.work ≡ 0
places_gone g from to h a r scope sort l e = (run_step g from h a r).gone scope sort l e
