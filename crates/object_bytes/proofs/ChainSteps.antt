-- After how many steps chains of bases end.
use Rattle.std.proofs.Common.{◌≡◌, ℕ, zero, suc, ◌+◌, ◌-◌, ◌<◌, ◌≤◌, arith, true, false, List, length, set, Option, Some, None, refl, sym, ap, subst, ◌∙◌, inl}
use Rattle.std.proofs.Common.{inr}
use Rattle.std.specs.List.{slice_get}
use Rattle.std.proofs.lemmas.Bool.{cases_lt, cases_eq}
use Rattle.std.proofs.lemmas.List.{length-set, get_or-set_same, get_or-set_other}
use Rattle.std.proofs.lemmas.Option.{slice_get-get_or, slice_get_within}
use Rattle.tx_code.specs.Objects.{ClassView}
use Rattle.tx_code.specs.WellFormed.{class_named}
use Rattle.object_bytes.specs.Objects.{goes_on}
use Rattle.object_bytes.specs.Chains.{HasBase, IsIndex, EndsIn, AreSteps}
use Rattle.object_bytes.proofs.ByName.{same_class}

-- the chain from a base goes on for k steps, and then as that from another
pub record Walks (cs : List ClassView) (base k at : ℕ) : Type 0 where
  pub before : (m : ℕ) → m < k → goes_on cs m base ≡ true
  pub from : (m : ℕ) → goes_on cs (k + m) base ≡ goes_on cs m at

pub walk_begins : (cs : List ClassView) (base : ℕ) → Walks cs base 0 base
walk_begins cs base = record { before = λ m lt. absurd (omega arith); from = λ m. let m-is : 0 + m ≡ m = omega arith in ap (λ (z : ℕ). goes_on cs z base) m-is }

before_one : (n : ℕ) → (n ≡ 0 → ⊥) → n ≡ suc (n - 1)
before_one zero h = absurd (h refl)
before_one (suc n) h = omega arith

behind : (cs : List ClassView) (base k at m : ℕ) → Walks cs base k at → k ≤ m → goes_on cs m base ≡ goes_on cs (m - k) at
behind cs base k at m w le =
    let m-is : m ≡ k + (m - k) = omega arith in
    ap (λ (z : ℕ). goes_on cs z base) m-is ∙ w.from (m - k)

starts : (cs : List ClassView) (at : ℕ) → (at ≡ 0 → ⊥) → goes_on cs 0 at ≡ true
starts cs at ne = ap (goes_on cs 0) (before_one at ne)

-- a class on the way
one_step : (cs : List ClassView) (at i next m : ℕ) → (at ≡ 0 → ⊥) → IsIndex cs (at - 1) i → HasBase cs i next → goes_on cs (suc m) at ≡ goes_on cs m next
one_step cs at i next m ne found has =
    let same : found.class ≡ has.class = same_class cs i found.class has.class found.at has.at in
    let next-is : found.class.base ≡ next = ap (λ (z : ClassView). z.base) same ∙ has.base_is in
    let one : goes_on cs (suc m) (suc (at - 1)) ≡ goes_on cs m found.class.base = rw found.named refl in
    ap (goes_on cs (suc m)) (before_one at ne) ∙ one ∙ ap (goes_on cs m) next-is

-- no class of the list
no_step : (cs : List ClassView) (at m : ℕ) → (at ≡ 0 → ⊥) → class_named cs (at - 1) ≡ None → goes_on cs (suc m) at ≡ false
no_step cs at m ne none =
    let gone : goes_on cs (suc m) (suc (at - 1)) ≡ false = rw none refl in
    ap (goes_on cs (suc m)) (before_one at ne) ∙ gone

still : (cs : List ClassView) (base k at m : ℕ) → Walks cs base k at → (at ≡ 0 → ⊥) → m < k + 1 → goes_on cs m base ≡ true
still cs base k at m w ne lt =
    elim (cases_lt m k) [
      | inl less ↦ w.before m less
      | inr ge ↦
          let none : m - k ≡ 0 = omega arith in
          behind cs base k at m w ge ∙ ap (λ (z : ℕ). goes_on cs z at) none ∙ starts cs at ne
    ]

pub walk_more : (cs : List ClassView) (base k at i next : ℕ) → Walks cs base k at → (at ≡ 0 → ⊥) → IsIndex cs (at - 1) i → HasBase cs i next
    → Walks cs base (k + 1) next
walk_more cs base k at i next w ne found has = record {
  before = λ m lt. still cs base k at m w ne lt;
  from = λ m.
      let k-is : k + 1 + m ≡ k + suc m = omega arith in
      ap (λ (z : ℕ). goes_on cs z base) k-is ∙ w.from (suc m) ∙ one_step cs at i next m ne found has;
}

pub walk_ends : (cs : List ClassView) (base k at : ℕ) → k ≤ length cs → Walks cs base k at → at ≡ 0 → EndsIn cs base k
walk_ends cs base k at le w e = record {
  before = w.before;
  from = λ m ge. behind cs base k at m w ge ∙ ap (goes_on cs (m - k)) e;
  within = le;
}

pub walk_leaves : (cs : List ClassView) (base k at : ℕ) → k < length cs → Walks cs base k at → (at ≡ 0 → ⊥) → class_named cs (at - 1) ≡ None
    → EndsIn cs base (k + 1)
walk_leaves cs base k at lt w ne none = record {
  before = λ m less. still cs base k at m w ne less;
  from = λ m ge.
      let more : m - k ≡ suc (m - k - 1) = omega arith in
      behind cs base k at m w (omega arith) ∙ ap (λ (z : ℕ). goes_on cs z at) more ∙ no_step cs at (m - k - 1) ne none;
  within = omega arith;
}

-- the class that stands at an index has a base
has_base : (cs : List ClassView) (name i : ℕ) → (found : IsIndex cs name i) → HasBase cs i found.class.base
has_base cs name i found = record { class = found.class; at = found.at; base_is = refl }

-- a class of which it is known after how many steps its chain ends
known_from : (cs : List ClassView) (steps : List (Option ℕ)) (name i k : ℕ) → AreSteps cs steps → (found : IsIndex cs name i)
    → slice_get steps i ≡ Some (Some k) → EndsIn cs found.class.base k
known_from cs steps name i k s found e = s.each i k found.class.base (has_base cs name i found) e

pub walk_joins : (cs : List ClassView) (steps : List (Option ℕ)) (base k at i left : ℕ) → k + left < length cs → Walks cs base k at → (at ≡ 0 → ⊥)
    → AreSteps cs steps → IsIndex cs (at - 1) i → slice_get steps i ≡ Some (Some left) → EndsIn cs base (k + 1 + left)
walk_joins cs steps base k at i left lt w ne s found f =
    let next = found.class.base in
    let e = known_from cs steps (at - 1) i left s found f in
    let w2 = walk_more cs base k at i next w ne found (has_base cs (at - 1) i found) in
    record {
      before = λ m less.
          elim (cases_lt m (k + 1)) [
            | inl near ↦ w2.before m near
            | inr far ↦ behind cs base (k + 1) next m w2 far ∙ e.before (m - (k + 1)) (omega arith)
          ];
      from = λ m ge. behind cs base (k + 1) next m w2 (omega arith) ∙ e.from (m - (k + 1)) (omega arith);
      within = omega arith;
    }

pub walk_too_far : (cs : List ClassView) (steps : List (Option ℕ)) (n base k at i left : ℕ) → k < n → n - k ≤ left → Walks cs base k at → (at ≡ 0 → ⊥)
    → AreSteps cs steps → IsIndex cs (at - 1) i → slice_get steps i ≡ Some (Some left) → goes_on cs n base ≡ true
walk_too_far cs steps n base k at i left lt ge w ne s found f =
    let next = found.class.base in
    let e = known_from cs steps (at - 1) i left s found f in
    let w2 = walk_more cs base k at i next w ne found (has_base cs (at - 1) i found) in
    behind cs base (k + 1) next n w2 (omega arith) ∙ e.before (n - (k + 1)) (omega arith)

pub walk_goes_on : (cs : List ClassView) (n base k at : ℕ) → n ≤ k → k ≤ n → Walks cs base k at → (at ≡ 0 → ⊥) → goes_on cs n base ≡ true
walk_goes_on cs n base k at le ge w ne = still cs base k at n w ne (omega arith)

pub walk_is_over : (cs : List ClassView) (n base k at : ℕ) → n ≤ k → k ≤ n → n ≤ length cs → Walks cs base k at → at ≡ 0 → EndsIn cs base n
walk_is_over cs n base k at le ge within w e = subst (λ (z : ℕ). EndsIn cs base z) (omega arith) (walk_ends cs base k at (omega arith) w e)

-- ---- one step less

pub not_over : (cs : List ClassView) (at left : ℕ) → EndsIn cs at left → 0 < left → at ≡ 0 → ⊥
not_over cs at left e lt zero-is =
    let t : goes_on cs 0 0 ≡ true = ap (goes_on cs 0) (sym zero-is) ∙ e.before 0 lt in
    absurd cc

pub one_less : (cs : List ClassView) (at left i next : ℕ) → EndsIn cs at left → 0 < left → IsIndex cs (at - 1) i → HasBase cs i next → EndsIn cs next (left - 1)
one_less cs at left i next e lt found has =
    let ne = not_over cs at left e lt in
    record {
      before = λ m less. sym (one_step cs at i next m ne found has) ∙ e.before (suc m) (omega arith);
      from = λ m ge. sym (one_step cs at i next m ne found has) ∙ e.from (suc m) (omega arith);
      within = omega (arith, e.within);
    }

-- ---- what is known

base_is : (cs : List ClassView) (i a b : ℕ) → HasBase cs i a → HasBase cs i b → a ≡ b
base_is cs i a b h k = sym h.base_is ∙ ap (λ (z : ClassView). z.base) (same_class cs i h.class k.class h.at k.at) ∙ k.base_is

number_is : (a b : ℕ) → Path (Option (Option ℕ)) (Some (Some a)) (Some (Some b)) → a ≡ b
number_is a b e = cc

pub kept : (cs : List ClassView) (steps : List (Option ℕ)) (i k base : ℕ) → AreSteps cs steps → i < length steps → HasBase cs i base → EndsIn cs base k
    → AreSteps cs (set steps i (Some k))
kept cs steps i k base s lt has e = record {
  as_many = length-set steps i (Some k) ∙ s.as_many;
  each = λ j n b h f.
      elim (cases_eq j i) [
        | inl same ↦
            let at-j : HasBase cs i b = subst (λ (z : ℕ). HasBase cs z b) same h in
            let there : slice_get (set steps i (Some k)) j ≡ Some (Some k) =
            ap (slice_get (set steps i (Some k))) same
            ∙ slice_get-get_or (set steps i (Some k)) i None (subst (λ (z : ℕ). i < z) (sym (length-set steps i (Some k))) lt)
            ∙ ap (λ (z : Option ℕ). Some z) (get_or-set_same steps i (Some k) None lt) in
            let k-is : k ≡ n = number_is k n (sym there ∙ f) in
            subst (λ (z : ℕ). EndsIn cs z n) (base_is cs i base b has at-j) (subst (λ (z : ℕ). EndsIn cs base z) k-is e)
        | inr ne ↦
            let within : j < length steps = subst (λ (z : ℕ). j < z) (length-set steps i (Some k)) (slice_get_within (set steps i (Some k)) j (Some n) f) in
            let there : slice_get (set steps i (Some k)) j ≡ slice_get steps j =
            slice_get-get_or (set steps i (Some k)) j None (subst (λ (z : ℕ). j < z) (sym (length-set steps i (Some k))) within)
            ∙ ap (λ (z : Option ℕ). Some z) (get_or-set_other steps i j (Some k) None ne) ∙ sym (slice_get-get_or steps j None within) in
            s.each j n b h (sym there ∙ f)
      ];
}
