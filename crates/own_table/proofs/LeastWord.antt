-- The least word of a heap.
use Rattle.std.proofs.Common.{ℕ, ◌≡◌, ◌==◌, ◌<◌, ◌≤◌, Bool, false, cond, inl, inr, Result, Ok, Err, IsOk, is_ok, OnOk, List, [], ◌∷◌, refl, ap, sym, ◌∙◌, arith}
use Rattle.std.specs.Ordering.{nat_cmp, is_lt}
use Rattle.std.specs.BinaryHeap.{IsUpperBound}
use Rattle.std.specs.declared.cmp.Reverse.{Reverse}
use Rattle.std.specs.declared.cmp.Ordering.TheVariants.{Less, Equal, Greater}
use Rattle.std.proofs.lemmas.Bool.{lt-ltb, ne_eqb, true≢false, false≢true, cases_lt}
use Rattle.std.proofs.lemmas.List.Sums.{sum_by-cons}
use Rattle.own_table.specs.Words.{by_least, times_in}

ordered : (a b : ℕ) → is_lt (nat_cmp a b) ≡ false → b ≤ a
ordered a b h = elim (cases_lt a b) [
  | inl l ↦ absurd (true≢false (sym (ap (λ t. is_lt (cond t Less (cond (a == b) Equal Greater))) (lt-ltb a b l)) ∙ h))
  | inr g ↦ g
]

abbrev pub one : Bool → ℕ
one b = cond b 1 0

pub none_below : (xs : List (Reverse ℕ)) (x : Reverse ℕ) (w : ℕ) → IsUpperBound by_least x xs → w < x.0 → times_in xs w ≡ 0
none_below [] x w h l = refl
none_below (y ∷ ys) x w h l =
    let above : x.0 ≤ y.0 = ordered y.0 x.0 h.0 in
    let other : (y.0 == w) ≡ false = ne_eqb y.0 w (λ e. absurd (omega (arith, e))) in
    let rest : times_in ys w ≡ 0 = none_below ys x w h.1 l in
    let here = ap one other in
    sum_by-cons (λ (z : Reverse ℕ). cond (z.0 == w) 1 0) y ys ∙ omega (arith, rest, here)

pub ok_then : {T E P : Type 0} (r : Result T E) → IsOk r → OnOk r P → P
ok_then (Ok x) h p = p
ok_then (Err e) h p = absurd (false≢true h)

-- what a push that succeeds leaves
pub pushed_items : {T E X : Type 0} (xs ys : List X) {zs : List X} (r : Result T E) → IsOk r → zs ≡ cond (is_ok r) xs ys → zs ≡ xs
pushed_items xs ys r h e = e ∙ ap (λ b. cond b xs ys) h
