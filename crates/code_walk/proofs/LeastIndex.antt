-- The least index of a heap.
use Rattle.std.proofs.Common.{ℕ, ◌≡◌, ◌==◌, ◌<◌, ◌≤◌, Bool, false, cond, inl, inr, List, [], ◌∷◌, refl, ap, sym, ◌∙◌, arith}
use Rattle.std.specs.Ordering.{nat_cmp, is_lt}
use Rattle.std.specs.BinaryHeap.{IsUpperBound}
use Rattle.std.specs.declared.cmp.Reverse.{Reverse}
use Rattle.std.specs.declared.cmp.Ordering.TheVariants.{Less, Equal, Greater}
use Rattle.std.proofs.lemmas.Bool.{lt-ltb, ne_eqb, true≢false, cases_lt}
use Rattle.std.proofs.lemmas.List.Sums.{sum_by-cons}
use Rattle.code_walk.specs.Waiting.{by_least, times_in}

ordered : (a b : ℕ) → is_lt (nat_cmp a b) ≡ false → b ≤ a
ordered a b h = elim (cases_lt a b) [
  | inl l ↦ absurd (true≢false (sym (ap (λ t. is_lt (cond t Less (cond (a == b) Equal Greater))) (lt-ltb a b l)) ∙ h))
  | inr g ↦ g
]

abbrev pub one : Bool → ℕ
one b = cond b 1 0

pub none_below : (xs : List (Reverse ℕ)) (x : Reverse ℕ) (i : ℕ) → IsUpperBound by_least x xs → i < x.0 → times_in xs i ≡ 0
none_below [] x i h l = refl
none_below (y ∷ ys) x i h l =
    let above : x.0 ≤ y.0 = ordered y.0 x.0 h.0 in
    let other : (y.0 == i) ≡ false = ne_eqb y.0 i (λ e. absurd (omega (arith, e))) in
    let rest : times_in ys i ≡ 0 = none_below ys x i h.1 l in
    let here = ap one other in
    sum_by-cons (λ (z : Reverse ℕ). cond (z.0 == i) 1 0) y ys ∙ omega (arith, rest, here)
