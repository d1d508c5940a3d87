-- What is known of scopes, with more scopes and other lists of work.
use Rattle.std.proofs.Common.{◌≡◌, ◌∙◌, refl, sym, ap, true, false, cond, ℕ, zero, suc, ◌-◌, ◌<◌, ◌≤◌, List, [], ◌∷◌, ◌++◌, length, map, get_or, slice_set, arith, ◌⊎◌, inl, inr}
use Rattle.std.proofs.lemmas.List.{get_or_append_left, get_or_push, get_or_past, length_push}
use Rattle.cpp_tree.specs.Trees.{nowhere}
use Rattle.low_code.specs.declared.scopes.Scope.{Scope}
use Rattle.low_code.specs.declared.scopes.ScopeKind.{ScopeKind}
use Rattle.low_code.specs.declared.scopes.ScopeKind.TheVariants.{Behind}
use Rattle.low_code.specs.Scopes.{outermost, led_to}
use Rattle.low_code.specs.Writer.{outer_by, led}
use Rattle.unwind_lower.specs.declared.items.Item.{Item}
use Rattle.unwind_lower.specs.declared.items.Item.TheVariants.{Other, OtherAgain, TryDone, Handle, HandlerDone, Leave}
use Rattle.unwind_lower.specs.Conditions.{is_end, up_to_end, with_behind}
use Rattle.lowered_states.specs.Kept.{bare}
use Rattle.lowered_states.specs.Sound.{scope_from, AreNested, AreLed, Knows, AllKnow}
use Rattle.lowered_states.proofs.Counting.{below_or}

-- ---- items

pub knows_more : {m n : ℕ} → m ≤ n → (item : Item) → Knows m item → Knows n item
knows_more l (Other o) h = omega arith
knows_more l (OtherAgain o) h = omega arith
knows_more l (TryDone id scope) h = omega arith
knows_more l (Handle id scope live) h = omega arith
knows_more l (HandlerDone handler scope at) h = omega arith
knows_more l (Leave leaving origin at) h = omega arith
knows_more l item h = tt

pub all_know_more : {m n : ℕ} → m ≤ n → (items : List Item) → AllKnow m items → AllKnow n items
all_know_more l [] h = tt
all_know_more l (item ∷ items) h = (knows_more l item h.0, all_know_more l items h.1)

pub all_know_append : (n : ℕ) (xs ys : List Item) → AllKnow n xs → AllKnow n ys → AllKnow n (xs ++ ys)
all_know_append n [] ys h k = k
all_know_append n (x ∷ xs) ys h k = (h.0, all_know_append n xs ys h.1 k)

pub up_to_know : (n : ℕ) (items : List Item) → AllKnow n items → AllKnow n (up_to_end items)
unfolding up_to_end
up_to_know n [] h = tt
up_to_know n (item ∷ items) h = elim (is_end item) as (λ b. AllKnow n (cond b (item ∷ []) (item ∷ up_to_end items))) [
  | true ↦ (h.0, tt)
  | false ↦ (h.0, up_to_know n items h.1)
]

pub behind_know : (n : ℕ) (new : Item) (items : List Item) → Knows n new → AllKnow n items → AllKnow n (with_behind new items)
unfolding with_behind
behind_know n new [] k h = (k, tt)
behind_know n new (item ∷ items) k h = elim (is_end item) as (λ b. AllKnow n (cond b (item ∷ new ∷ items) (item ∷ with_behind new items))) [
  | true ↦ (h.0, (k, h.1))
  | false ↦ (h.0, behind_know n new items k h.1)
]

-- ---- ways out of blocks around

pub led_more : {m n : ℕ} → m ≤ n → (scopes : List Scope) → AreLed m scopes → AreLed n scopes
led_more l [] h = tt
led_more l (scope ∷ scopes) h = (omega (arith, h.0), led_more l scopes h.1)

pub led_push : {n : ℕ} (scopes : List Scope) (scope : Scope) → AreLed n scopes → outer_by scope.kind 0 < n → AreLed n (scopes ++ scope ∷ [])
led_push [] scope h k = (k, tt)
led_push (x ∷ scopes) scope h k = (h.0, led_push scopes scope h.1 k)

pub led_set : {n : ℕ} (scopes : List Scope) (number : ℕ) (scope : Scope) → AreLed n scopes → outer_by scope.kind 0 < n
    → AreLed n (slice_set scopes number scope)
led_set [] zero scope h k = tt
led_set [] (suc number) scope h k = tt
led_set (x ∷ scopes) zero scope h k = (k, h.1)
led_set (x ∷ scopes) (suc number) scope h k = (h.0, led_set scopes number scope h.1 k)

pub led_at : {n : ℕ} (scopes : List Scope) (number : ℕ) → 0 < n → AreLed n scopes → outer_by (scope_from scopes number).kind 0 < n
led_at [] zero p h = p
led_at [] (suc number) p h = p
led_at (x ∷ scopes) zero p h = h.0
led_at (x ∷ scopes) (suc number) p h = led_at scopes number p h.1

-- with another way out it leads there, or nowhere
pub led_outer : {n : ℕ} (outer : ℕ) (kind : ScopeKind) → outer < n → outer_by kind 0 < n → outer_by (led_to outer kind) 0 < n
led_outer outer (Behind block next other) l h = l
led_outer outer kind l h = h

-- ---- parents

pub parent_below : (scopes : List Scope) → 0 < length scopes → AreNested scopes → (number : ℕ) → (scope_from scopes number).parent < length scopes
parent_below scopes p h number = elim (below_or number (length scopes)) as (λ _. (scope_from scopes number).parent < length scopes) [
  | inl l ↦ omega (arith, h number)
  | inr k ↦ let e : (scope_from scopes number).parent ≡ 0 = ap (λ (s : Scope). s.parent) (get_or_past scopes number (outermost nowhere) k) in omega arith
]

pub nested_push : (scopes : List Scope) (scope : Scope) → AreNested scopes → scope.parent < length scopes → AreNested (scopes ++ scope ∷ [])
nested_push scopes scope h p number = elim (below_or number (length scopes)) as (λ _. (scope_from (scopes ++ scope ∷ []) number).parent ≤ number - 1) [
  | inl l ↦ let e : (scope_from (scopes ++ scope ∷ []) number).parent ≡ (scope_from scopes number).parent =
      ap (λ (s : Scope). s.parent) (get_or_append_left scopes (scope ∷ []) (outermost nowhere) number l) in omega (arith, h number)
  | inr k ↦ at_end k (below_or (length scopes) number)
]
  where
    at_end : length scopes ≤ number → (length scopes < number) ⊎ (number ≤ length scopes) → (scope_from (scopes ++ scope ∷ []) number).parent ≤ number - 1
    at_end k (inl l) = let e : (scope_from (scopes ++ scope ∷ []) number).parent ≡ 0 =
        ap (λ (s : Scope). s.parent) (get_or_past (scopes ++ scope ∷ []) number (outermost nowhere) (omega (arith, length_push scopes scope))) in omega arith
    at_end k (inr m) = let same : length scopes ≡ number = omega arith in
        let e : (scope_from (scopes ++ scope ∷ []) number).parent ≡ scope.parent =
        ap (λ (s : Scope). s.parent) (get_or_push scopes scope (outermost nowhere) number same) in omega arith

-- ---- scopes that are one but for the way out of the block around

pub bare_led : (outer : ℕ) (scope : Scope) → bare (led outer scope) ≡ bare scope
bare_led outer scope = ap (λ k. record scope { kind = k }) (twice scope.kind)
  where
    twice : (kind : ScopeKind) → led_to 0 (led_to outer kind) ≡ led_to 0 kind
    twice (Behind block next other) = refl
    twice kind = refl

pub bare_set : (scopes : List Scope) (number outer : ℕ) → map bare (slice_set scopes number (led outer (scope_from scopes number))) ≡ map bare scopes
bare_set [] zero outer = refl
bare_set [] (suc number) outer = refl
bare_set (x ∷ scopes) zero outer = ap (λ (y : Scope). y ∷ map bare scopes) (bare_led outer x)
bare_set (x ∷ scopes) (suc number) outer = ap (λ ys. bare x ∷ ys) (bare_set scopes number outer)

pub bare_at : (scopes : List Scope) (number : ℕ) → get_or (map bare scopes) number (bare (outermost nowhere)) ≡ bare (scope_from scopes number)
bare_at [] zero = refl
bare_at [] (suc number) = refl
bare_at (x ∷ scopes) zero = refl
bare_at (x ∷ scopes) (suc number) = bare_at scopes number

pub same_parent : (xs ys : List Scope) → map bare xs ≡ map bare ys → (number : ℕ) → (scope_from xs number).parent ≡ (scope_from ys number).parent
same_parent xs ys e number = ap (λ (s : Scope). s.parent)
    (sym (bare_at xs number) ∙ ap (λ l. get_or l number (bare (outermost nowhere))) e ∙ bare_at ys number)
