-- Sums over claims, and lists that begin with others.
use Rattle.std.proofs.Common.{◌≡◌, ◌∙◌, refl, sym, ap, Bool, true, false, cond, ◌&&◌, ℕ, ◌+◌, ◌<◌, ◌≤◌, nat_eq, List, [], ◌∷◌, ◌++◌, length, map, Option, Some, None, arith, ◌⊎◌, append_assoc, append-nil, length-append}
use Rattle.std.proofs.lemmas.Bool.Decides.{nat_tests}
use Rattle.std.proofs.lemmas.List.{length-map}
use Rattle.low_code.specs.declared.writer.Jump.{Jump}
use Rattle.low_code.specs.declared.writer.Sort.{Sort}
use Rattle.low_code.specs.declared.writer.Pending.{Pending}
use Rattle.low_code.specs.Writer.{same_sort, leads_to}
use Rattle.unwind_lower.specs.declared.items.Item.{Item}
use Rattle.unwind_lower.specs.declared.items.Item.TheVariants.{Bind, Other, OtherAgain, BodyDone, StepDone, TestDone, Past}
use Rattle.unwind_lower.specs.Conditions.{is_end, with_behind}
use Rattle.lowered_states.specs.Claims.{Claim, jump, coming, with_jump, with_claims, claims_in, one_if, sum_of, held, is_place, waiting, opens}
use Rattle.lowered_states.specs.Kept.{Begins}
use Rattle.lowered_states.specs.Sound.{AreKnown}

pub below_or : (a b : ℕ) → (a < b) ⊎ (b ≤ a)
below_or a b = grind arith

-- ---- lists that begin with others

module _ {A : Type 0} where
  pub begins_same : (xs : List A) → Begins xs xs
  begins_same xs = record { rest = []; is = sym (append-nil xs) }

  pub begins_is : (xs ys : List A) → ys ≡ xs → Begins xs ys
  begins_is xs ys e = record { rest = []; is = e ∙ sym (append-nil xs) }

  pub begins_push : (xs : List A) (x : A) → Begins xs (xs ++ x ∷ [])
  begins_push xs x = record { rest = x ∷ []; is = refl }

  pub begins_then : {xs ys zs : List A} → Begins xs ys → Begins ys zs → Begins xs zs
  begins_then {xs} p q = record { rest = p.rest ++ q.rest; is = q.is ∙ ap (λ l. l ++ q.rest) p.is ∙ append_assoc xs p.rest q.rest }

  pub begins_longer : {xs ys : List A} → Begins xs ys → length xs ≤ length ys
  begins_longer {xs} p = let e : length (xs ++ p.rest) ≡ length xs + length p.rest = length-append xs p.rest in
      let f : _ ≡ length (xs ++ p.rest) = ap length p.is in omega arith

-- a list that is shown by another one is as long
pub shown_longer : {A B : Type 0} (f : A → B) (xs ys : List A) → Begins (map f xs) (map f ys) → length xs ≤ length ys
shown_longer f xs ys b = omega (arith, begins_longer b, length-map xs f, length-map ys f)

-- ---- sums

module _ (w : Claim → ℕ) where
  pub jump_sum : (j : Option Jump) (cs : List Claim) → sum_of w (with_jump j cs) ≡ sum_of w (with_jump j []) + sum_of w cs
  jump_sum None cs = omega arith
  jump_sum (Some j) cs = omega arith

  pub item_sum : (item : Item) (cs : List Claim) → sum_of w (with_claims item cs) ≡ sum_of w (with_claims item []) + sum_of w cs
  item_sum (Bind j) cs = jump_sum j cs
  item_sum (Other o) cs = jump_sum o.test cs
  item_sum (OtherAgain o) cs = jump_sum o.test cs
  item_sum (BodyDone turn) cs = omega (arith, jump_sum turn.first cs)
  item_sum (StepDone turn) cs = omega (arith, jump_sum turn.first cs)
  item_sum (TestDone turn) cs = omega arith
  item_sum (Past scope) cs = omega arith
  item_sum item cs = omega arith

  pub claims_append : (xs ys : List Item) → sum_of w (claims_in (xs ++ ys)) ≡ sum_of w (claims_in xs) + sum_of w (claims_in ys)
  claims_append [] ys = omega arith
  claims_append (x ∷ xs) ys = omega (arith, item_sum x (claims_in (xs ++ ys)), item_sum x (claims_in xs), claims_append xs ys)

  -- an item takes over claims that are at hand
  pub put_sum : (item : Item) (cs : List Claim) (items : List Item) → held w cs (item ∷ items) ≡ held w (with_claims item cs) items
  put_sum item cs items = omega (arith, item_sum item (claims_in items), item_sum item cs)

  pub behind_sum : (new : Item) (items : List Item) → sum_of w (claims_in (with_behind new items)) ≡ sum_of w (with_claims new []) + sum_of w (claims_in items)
  unfolding with_behind
  behind_sum new [] = omega (arith, item_sum new [])
  behind_sum new (item ∷ items) = elim (is_end item) as (λ b. sum_of w (claims_in (cond b (item ∷ new ∷ items) (item ∷ with_behind new items)))
      ≡ sum_of w (with_claims new []) + sum_of w (with_claims item (claims_in items))) [
        | true ↦ omega (arith, item_sum item (with_claims new (claims_in items)), item_sum new (claims_in items), item_sum item (claims_in items))
        | false ↦ omega (arith, item_sum item (claims_in (with_behind new items)), item_sum item (claims_in items), behind_sum new items)
      ]

-- ---- what jumps that wait keep open

-- one more jump waits
waiting_push : (index scope : ℕ) (sort : Sort) (ps : List Pending) (p : Pending)
    → waiting index scope sort (ps ++ p ∷ []) ≡ waiting index scope sort ps + one_if (leads_to scope sort p && nat_eq p.jump.index index)
waiting_push index scope sort [] p = omega arith
waiting_push index scope sort (q ∷ ps) p = omega (arith, waiting_push index scope sort ps p)

and_split : (a b : Bool) → one_if (a && b) ≡ cond b (one_if a) 0
and_split true true = refl
and_split true false = refl
and_split false true = refl
and_split false false = refl

opens_push : (index : ℕ) (ps : List Pending) (p : Pending) (c : Claim)
    → opens index (ps ++ p ∷ []) c ≡ opens index ps c + cond (nat_eq p.jump.index index) (is_place p.scope p.sort c) 0
opens_push index ps p (jump j) = elim (nat_eq p.jump.index index) as (λ b. one_if (nat_eq j.index index) ≡ one_if (nat_eq j.index index) + cond b 0 0) [
  | true ↦ omega arith
  | false ↦ omega arith
]
opens_push index ps p (coming scope sort) = omega (
  arith,
  waiting_push index scope sort ps p,
  and_split (leads_to scope sort p) (nat_eq p.jump.index index),
)

cond_sum : (b : Bool) (m n : ℕ) → cond b m 0 + cond b n 0 ≡ cond b (m + n) 0
cond_sum true m n = refl
cond_sum false m n = refl

pub sum_push : (index : ℕ) (ps : List Pending) (p : Pending) (cs : List Claim) → sum_of (opens index (ps ++ p ∷ [])) cs
    ≡ sum_of (opens index ps) cs + cond (nat_eq p.jump.index index) (sum_of (is_place p.scope p.sort) cs) 0
sum_push index ps p [] = elim (nat_eq p.jump.index index) as (λ b. 0 ≡ 0 + cond b 0 0) [ true ↦ refl | false ↦ refl ]
sum_push index ps p (c ∷ cs) = omega (
  arith,
  opens_push index ps p c,
  sum_push index ps p cs,
  cond_sum (nat_eq p.jump.index index) (is_place p.scope p.sort c) (sum_of (is_place p.scope p.sort) cs),
)

-- with places that are claimed once it keeps one jump open more
pub held_push : (index : ℕ) (ps : List Pending) (p : Pending) (cs : List Claim) (items : List Item) → held (is_place p.scope p.sort) cs items ≤ 1
    → held (opens index (ps ++ p ∷ [])) cs items ≤ one_if (nat_eq p.jump.index index) + held (opens index ps) cs items
held_push index ps p cs items h = by (nat_eq p.jump.index index) (sum_push index ps p cs) (sum_push index ps p (claims_in items))
  where
    by : (b : Bool) → sum_of (opens index (ps ++ p ∷ [])) cs ≡ sum_of (opens index ps) cs + cond b (sum_of (is_place p.scope p.sort) cs) 0
        → sum_of (opens index (ps ++ p ∷ [])) (claims_in items)
        ≡ sum_of (opens index ps) (claims_in items) + cond b (sum_of (is_place p.scope p.sort) (claims_in items)) 0
        → held (opens index (ps ++ p ∷ [])) cs items ≤ one_if b + held (opens index ps) cs items
    by true e f = omega arith
    by false e f = omega arith

-- no jump waits for a place of a scope that is not there
no_lead : (scope count : ℕ) (sort : Sort) (p : Pending) (b : Bool) → p.scope < count → count ≤ scope → one_if (leads_to scope sort p && b) ≡ 0
no_lead scope count sort p b h k = by (nat_eq p.scope scope) (differs p.scope scope (omega arith))
  where
    differs : (m n : ℕ) → m < n → nat_eq m n ≡ false
    differs m n l = grind (arith, nat_tests)

    by : (e : Bool) → e ≡ false → one_if ((e && same_sort p.sort sort) && b) ≡ 0
    by false d = refl
    by true d = absurd cc

pub none_wait : (index scope count : ℕ) (sort : Sort) (ps : List Pending) → AreKnown count ps → count ≤ scope → waiting index scope sort ps ≡ 0
none_wait index scope count sort [] h k = refl
none_wait index scope count sort (p ∷ ps) h k =
    omega (arith, no_lead scope count sort p (nat_eq p.jump.index index) h.0 k, none_wait index scope count sort ps h.2 k)

-- ---- what is known of numbers of scopes holds with more scopes

pub known_more : {m n : ℕ} → m ≤ n → (ps : List Pending) → AreKnown m ps → AreKnown n ps
known_more l [] h = tt
known_more l (p ∷ ps) h = (omega (arith, h.0), omega (arith, h.1), known_more l ps h.2)

pub known_push : {n : ℕ} (ps : List Pending) (p : Pending) → AreKnown n ps → p.scope < n → p.jump.scope < n → AreKnown n (ps ++ p ∷ [])
known_push [] p h k l = (k, l, tt)
known_push (q ∷ ps) p h k l = (h.0, h.1, known_push ps p h.2 k l)
