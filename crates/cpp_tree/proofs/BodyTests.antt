-- The test of bodies says what a well-formed body is.
use Rattle.std.proofs.Common.{◌≡◌, ℕ, ◌+◌, ◌≤◌, Bool, true, false, ◌==◌, List, [], ◌∷◌, refl, subst, arith, eqb-true, eq-eqb}
use Rattle.std.specs.Prelude.{nat_eq, cond}
use Rattle.std.proofs.lemmas.Bool.{and_parts, and_from}
use Rattle.std.proofs.lemmas.List.Sums.{sum_by-cons}
use Rattle.cpp_tree.specs.Trees.{Tree}
use Rattle.cpp_tree.specs.Rows.{Setting}
use Rattle.cpp_tree.specs.WellFormed.{times, are_distinct, places_of, WellFormedBody, body_fits}

times_more : (n m : ℕ) (ns : List ℕ) → times n (m ∷ ns) ≡ cond (nat_eq m n) 1 0 + times n ns
times_more n m ns = sum_by-cons (λ (k : ℕ). cond (nat_eq k n) 1 0) m ns

pub distinct_once : (ns : List ℕ) → are_distinct ns ≡ true → (n : ℕ) → times n ns ≤ 1
distinct_once [] h n = omega arith
distinct_once (m ∷ ns) h n =
    let p = and_parts (times m ns == 0) (are_distinct ns) h in
    let all : times n (m ∷ ns) ≡ cond (nat_eq m n) 1 0 + times n ns = times_more n m ns in
    elim (nat_eq m n) as (λ b. nat_eq m n ≡ b → times n (m ∷ ns) ≤ 1) [
      | true ↦ λ e.
          let same : m ≡ n = eqb-true m n e in
          let none : times m ns ≡ 0 = eqb-true (times m ns) 0 p.0 in
          let here : times n ns ≡ 0 = subst (λ (k : ℕ). times k ns ≡ 0) same none in
          let sum : times n (m ∷ ns) ≡ 1 + times n ns = subst (λ (b : Bool). times n (m ∷ ns) ≡ cond b 1 0 + times n ns) e all in
          omega (arith, here, sum)
      | false ↦ λ e.
          let sum : times n (m ∷ ns) ≡ 0 + times n ns = subst (λ (b : Bool). times n (m ∷ ns) ≡ cond b 1 0 + times n ns) e all in
          let few : times n ns ≤ 1 = distinct_once ns p.1 n in omega (arith, few, sum)
    ] refl

pub once_distinct : (ns : List ℕ) → ((n : ℕ) → times n ns ≤ 1) → are_distinct ns ≡ true
once_distinct [] h = refl
once_distinct (m ∷ ns) h =
    let sum : times m (m ∷ ns) ≡ 1 + times m ns = subst (λ (b : Bool). times m (m ∷ ns) ≡ cond b 1 0 + times m ns) (eq-eqb m m refl) (times_more m m ns) in
    let few : times m (m ∷ ns) ≤ 1 = h m in
    let none : times m ns ≡ 0 = omega (arith, sum, few) in
    let fewer : (n : ℕ) → times n ns ≤ 1 = λ n. (let all = times_more n m ns in let k = h n in omega (arith, k, all)) in
    and_from (times m ns == 0) (are_distinct ns) (eq-eqb (times m ns) 0 none) (once_distinct ns fewer)

pub test_is_body : (s : Setting) (body : Tree) → body_fits s body ≡ true → WellFormedBody s body
test_is_body s body h =
    let a = and_parts _ _ h in
    let b = and_parts _ _ a.0 in
    let c = and_parts _ _ b.0 in
    let d = and_parts _ _ c.0 in
    let e = and_parts _ _ d.0 in
    let f = and_parts _ _ e.0 in
    record { nodes = f.0; block = f.1; end = e.1; words = d.1; items = c.1; within = b.1; once = distinct_once (places_of body) a.1 }

pub body_is_test : (s : Setting) (body : Tree) → WellFormedBody s body → body_fits s body ≡ true
body_is_test s body w = and_from _ _ (and_from _ _ (and_from _ _ (and_from _ _ (and_from _ _ (and_from _ _ w.nodes w.block) w.end) w.words) w.items) w.within)
    (once_distinct (places_of body) w.once)
