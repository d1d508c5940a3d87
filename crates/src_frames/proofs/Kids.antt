-- Lists of kids, from one of them on.
use Rattle.std.proofs.Common.{◌≡◌, ◌∙◌, ℕ, zero, suc, ◌+◌, ◌≤◌, List, [], ◌∷◌, length, sym, ap, refl, arith, nat_lt, slice_get, Some, add-one, true, false}
use Rattle.std.specs.Prelude.{None, cond}
use Rattle.cpp_tree.specs.declared.arena.TNodeId.{TNodeId}
use Rattle.cpp_tree.specs.Trees.{Tree, Trees, none, more, literal, first, rest}
use Rattle.cpp_tree.specs.Arena.{tree_at}
use Rattle.src_frames.specs.Trees.{behind, kid_of, count_of, kids_below, are_none}

behind_suc : (n : ℕ) (ts : Trees) → behind (suc n) ts ≡ rest (behind n ts)
behind_suc zero none = refl
behind_suc zero (more t ts) = refl
behind_suc (suc n) none = refl
behind_suc (suc n) (more t ts) = behind_suc n ts

pub behind_next : (n : ℕ) (ts : Trees) → behind (n + 1) ts ≡ rest (behind n ts)
behind_next n ts = ap (λ z. behind z ts) (add-one n) ∙ behind_suc n ts

pub behind_past : (n : ℕ) (ts : Trees) → count_of ts ≤ n → rest (behind n ts) ≡ behind n ts
behind_past zero none h = refl
behind_past zero (more t ts) h = absurd (omega arith)
behind_past (suc n) none h = refl
behind_past (suc n) (more t ts) h = behind_past n ts (omega arith)

pub some_there : (n : ℕ) (ts : Trees) (t : Tree) → kid_of n ts ≡ Some t → are_none (behind n ts) ≡ false
some_there zero none t h = absurd cc
some_there zero (more u ts) t h = refl
some_there (suc n) none t h = absurd cc
some_there (suc n) (more u ts) t h = some_there n ts t h

pub some_first : (n : ℕ) (ts : Trees) (t : Tree) → kid_of n ts ≡ Some t → t ≡ first (behind n ts)
some_first zero none t h = absurd cc
some_first zero (more u ts) t h = let e : u ≡ t = cc in sym e
some_first (suc n) none t h = absurd cc
some_first (suc n) (more u ts) t h = some_first n ts t h

pub none_there : (n : ℕ) (ts : Trees) → kid_of n ts ≡ None → are_none (behind n ts) ≡ true
none_there zero none h = refl
none_there zero (more u ts) h = absurd cc
none_there (suc n) none h = refl
none_there (suc n) (more u ts) h = none_there n ts h

pub first_none : (ts : Trees) → are_none ts ≡ true → literal 0 ≡ first ts
first_none none h = refl
first_none (more t ts) h = absurd cc

pub kid_below_some : (trees : List Tree) (bound : ℕ) (ids : List TNodeId) (i : ℕ) (k : TNodeId) → slice_get ids i ≡ Some k
    → kid_of i (kids_below trees bound ids) ≡ Some (cond (nat_lt k.0 bound) (tree_at trees k) (literal 0))
kid_below_some trees bound [] i k h = absurd cc
kid_below_some trees bound (id ∷ ids) zero k h = let e : id ≡ k = cc in ap (λ (z : TNodeId). Some (cond (nat_lt z.0 bound) (tree_at trees z) (literal 0))) e
kid_below_some trees bound (id ∷ ids) (suc i) k h = kid_below_some trees bound ids i k h

pub kid_below_none : (trees : List Tree) (bound : ℕ) (ids : List TNodeId) (i : ℕ) → slice_get ids i ≡ None → kid_of i (kids_below trees bound ids) ≡ None
kid_below_none trees bound [] zero h = refl
kid_below_none trees bound [] (suc i) h = refl
kid_below_none trees bound (id ∷ ids) zero h = absurd cc
kid_below_none trees bound (id ∷ ids) (suc i) h = kid_below_none trees bound ids i h

pub count_below : (trees : List Tree) (bound : ℕ) (ids : List TNodeId) → count_of (kids_below trees bound ids) ≡ length ids
count_below trees bound [] = refl
count_below trees bound (id ∷ ids) = ap suc (count_below trees bound ids)
