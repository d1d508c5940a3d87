-- Classes by their names.
use Rattle.std.proofs.Common.{◌≡◌, ℕ, zero, suc, ◌+◌, ◌<◌, ◌≤◌, nat_eq, nat_lt, arith, Bool, true, false, List, [], ◌∷◌, length, map, get_or, Option, Some}
use Rattle.std.proofs.Common.{None, refl, sym, ap, subst, ◌∙◌, inl, inr}
use Rattle.std.specs.List.{slice_get}
use Rattle.std.specs.Option.{option_map}
use Rattle.std.proofs.lemmas.Bool.{and_parts, ltb-true, eq-eqb, ne_eqb, cases_lt}
use Rattle.std.proofs.lemmas.Option.{slice_get-get_or, slice_get_within, slice_get-map}
use Rattle.tx_code.specs.declared.object.ObjClass.{ObjClass}
use Rattle.tx_code.specs.Objects.{ClassView, class_view}
use Rattle.tx_code.specs.WellFormed.{ascends, ascends_from, class_named}
use Rattle.object_bytes.specs.Chains.{HasName, IsIndex, AreBounds}

abbrev pub by_name : ClassView → ClassView → Bool
by_name a b = nat_lt a.name b.name

class_above : (a : ClassView) (cs : List ClassView) (i : ℕ) (c : ClassView) → ascends_from by_name a cs ≡ true → slice_get cs i ≡ Some c → a.name < c.name
class_above a [] i c h e = absurd cc
class_above a (d ∷ cs) zero c h e =
    let same : d ≡ c = cc in
    subst (λ (z : ClassView). a.name < z.name) same (ltb-true a.name d.name (and_parts (by_name a d) (ascends_from by_name d cs) h).0)
class_above a (d ∷ cs) (suc i) c h e =
    let p = and_parts (by_name a d) (ascends_from by_name d cs) h in
    let first : a.name < d.name = ltb-true a.name d.name p.0 in
    let rest : d.name < c.name = class_above d cs i c p.1 e in
    omega arith

ascend_rest : (a : ClassView) (cs : List ClassView) → ascends_from by_name a cs ≡ true → ascends by_name cs ≡ true
ascend_rest a [] h = refl
ascend_rest a (c ∷ cs) h = (and_parts (by_name a c) (ascends_from by_name c cs) h).1

pub sorted : (cs : List ClassView) (i j : ℕ) (a b : ClassView) → ascends by_name cs ≡ true → i < j → slice_get cs i ≡ Some a → slice_get cs j ≡ Some b
    → a.name < b.name
sorted [] i j a b h lt e f = absurd cc
sorted (c ∷ cs) i zero a b h lt e f = absurd (omega arith)
sorted (c ∷ cs) zero (suc j) a b h lt e f =
    let same : c ≡ a = cc in
    subst (λ (z : ClassView). z.name < b.name) same (class_above c cs j b h f)
sorted (c ∷ cs) (suc i) (suc j) a b h lt e f = sorted cs i j a b (ascend_rest c cs h) (omega arith) e f

pub named_at : (cs : List ClassView) (i : ℕ) (c : ClassView) (name : ℕ) → ascends by_name cs ≡ true → slice_get cs i ≡ Some c → c.name ≡ name
    → class_named cs name ≡ Some c
named_at [] i c name h e n = absurd cc
named_at (d ∷ cs) zero c name h e n =
    let same : d ≡ c = cc in
    let eq : nat_eq d.name name ≡ true = eq-eqb d.name name (ap (λ (z : ClassView). z.name) same ∙ n) in
    rw eq e
named_at (d ∷ cs) (suc i) c name h e n =
    let lt : d.name < c.name = class_above d cs i c h e in
    let ne : nat_eq d.name name ≡ false = ne_eqb d.name name (λ eq. absurd (omega arith)) in
    rw ne (named_at cs i c name (ascend_rest d cs h) e n)

pub none_named : (cs : List ClassView) (name : ℕ) → ((k : ℕ) (c : ClassView) → slice_get cs k ≡ Some c → c.name ≡ name → ⊥) → class_named cs name ≡ None
none_named [] name h = refl
none_named (c ∷ cs) name h =
    let ne : nat_eq c.name name ≡ false = ne_eqb c.name name (λ eq. h 0 c refl eq) in
    rw ne (none_named cs name (λ k d e eq. h (suc k) d e eq))

-- ---- the search

pub bounds_all : (cs : List ClassView) (name high : ℕ) → high ≡ length cs → AreBounds cs name 0 high
bounds_all cs name high e = record {
  ordered = omega arith;
  within = omega arith;
  below = λ k c lt f. absurd (omega arith);
  above = λ k c le f. absurd (omega (arith, slice_get_within cs k c f));
}

pub found_there : (cs : List ClassView) (name i : ℕ) → ascends by_name cs ≡ true → HasName cs i name → IsIndex cs name i
found_there cs name i h n = record {
  class = n.class;
  at = n.at;
  named = named_at cs i n.class name h n.at n.name_is;
  within =
      slice_get_within cs i n.class n.at;
}

some_is : (c d : ClassView) → Path (Option ClassView) (Some c) (Some d) → c ≡ d
some_is c d e = cc

pub same_class : (cs : List ClassView) (i : ℕ) (c d : ClassView) → slice_get cs i ≡ Some c → slice_get cs i ≡ Some d → c ≡ d
same_class cs i c d e f = some_is c d (sym e ∙ f)

below_middle : (cs : List ClassView) (name middle found : ℕ) → ascends by_name cs ≡ true → HasName cs middle found → found < name → (k : ℕ) (c : ClassView)
    → k ≤ middle → slice_get cs k ≡ Some c → c.name < name
below_middle cs name middle found h n less k c le f =
    elim (cases_lt k middle) [
      | inl lt ↦ omega (arith, sorted cs k middle c n.class h lt f n.at, n.name_is)
      | inr ge ↦
          let k-is : k ≡ middle = omega arith in
          let same : c ≡ n.class = same_class cs k c n.class f (ap (slice_get cs) k-is ∙ n.at) in
          let name-is : c.name ≡ found = ap (λ (z : ClassView). z.name) same ∙ n.name_is in
          omega arith
    ]

above_middle : (cs : List ClassView) (name middle found : ℕ) → ascends by_name cs ≡ true → HasName cs middle found → name < found → (k : ℕ) (c : ClassView)
    → middle ≤ k → slice_get cs k ≡ Some c → name < c.name
above_middle cs name middle found h n more k c ge f =
    elim (cases_lt middle k) [
      | inl lt ↦ omega (arith, sorted cs middle k n.class c h lt n.at f, n.name_is)
      | inr le ↦
          let k-is : k ≡ middle = omega arith in
          let same : c ≡ n.class = same_class cs k c n.class f (ap (slice_get cs) k-is ∙ n.at) in
          let name-is : c.name ≡ found = ap (λ (z : ClassView). z.name) same ∙ n.name_is in
          omega arith
    ]

pub bounds_up : (cs : List ClassView) (name low high middle found : ℕ) → ascends by_name cs ≡ true → AreBounds cs name low high → middle < high
    → HasName cs middle found → found < name → AreBounds cs name (middle + 1) high
bounds_up cs name low high middle found h b lt n less = record {
  ordered = omega arith;
  within = b.within;
  below = λ k c le f. below_middle cs name middle found h n less k c (omega arith) f;
  above = b.above;
}

pub bounds_down : (cs : List ClassView) (name low high middle found : ℕ) → ascends by_name cs ≡ true → AreBounds cs name low high → low ≤ middle → middle < high
    → HasName cs middle found → name < found → AreBounds cs name low middle
bounds_down cs name low high middle found h b le lt n more = record {
  ordered = le;
  within = omega (arith, b.within);
  below = b.below;
  above = λ k c ge f. above_middle cs name middle found h n more k c ge f;
}

pub none_between : (cs : List ClassView) (name low high : ℕ) → AreBounds cs name low high → high ≤ low → class_named cs name ≡ None
none_between cs name low high b le = none_named cs name (λ k c e eq.
    elim (cases_lt k low) [
      | inl lt ↦ absurd (omega (arith, b.below k c lt e))
      | inr ge ↦ absurd (omega (arith, b.above k c (omega arith) e))
    ])

pub class_there : (xs : List ObjClass) (i : ℕ) (x : ObjClass) → i < length xs → x ≡ get_or xs i x → slice_get (map class_view xs) i ≡ Some (class_view x)
class_there xs i x lt e =
    slice_get-map class_view xs i ∙ ap (option_map class_view) (slice_get-get_or xs i x lt ∙ ap (λ (y : ObjClass). Some y) (sym e))

pub found_as : (cs : List ClassView) (name found i : ℕ) → ascends by_name cs ≡ true → HasName cs i found → found ≡ name → IsIndex cs name i
found_as cs name found i h n e = subst (λ (z : ℕ). IsIndex cs z i) e (found_there cs found i h n)
