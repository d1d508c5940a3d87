-- How deep classes nest: no deeper than there are classes that were completed before.
use Rattle.std.proofs.Common.{◌≡◌, refl, ap, ◌∙◌, ℕ, zero, suc, ◌+◌, ◌<◌, ◌≤◌, Bool, true, false, nat_lt, List, [], ◌∷◌, length, slice_get, Option, Some, None}
use Rattle.std.proofs.Common.{cond, arith, lt-ltb, le-ltb, ltb-true}
use Rattle.cpp_types.specs.Class.{Class}

abbrev before : ℕ → Option ℕ → ℕ
before k None = 0
before k (Some j) = cond (nat_lt j k) 1 0

-- how many classes were completed before `k` others were
abbrev pub rank : ℕ → List Class → ℕ
rank k [] = 0
rank k (c ∷ cs) = before k c.complete + rank k cs

before_up : (j k : ℕ) (o : Option ℕ) → j < k → before j o ≤ before k o
before_up j k None l = omega arith
before_up j k (Some i) l = up (nat_lt i j) refl
  where
    up : (b : Bool) → nat_lt i j ≡ b → cond (nat_lt i j) 1 0 ≤ cond (nat_lt i k) 1 0
    up true e = let h : i < j = ltb-true i j e in let g : nat_lt i k ≡ true = lt-ltb i k (omega arith) in rw (e, g) (omega arith)
    up false e = rw e (omega arith)

before_self : (j : ℕ) → before j (Some j) ≡ 0
before_self j = let e : nat_lt j j ≡ false = le-ltb j j (omega arith) in rw e refl

before_one : (j k : ℕ) → j < k → before k (Some j) ≡ 1
before_one j k l = let e : nat_lt j k ≡ true = lt-ltb j k l in rw e refl

before_most : (k : ℕ) (o : Option ℕ) → before k o ≤ 1
before_most k None = omega arith
before_most k (Some j) = most (nat_lt j k)
  where
    most : (b : Bool) → cond b 1 0 ≤ 1
    most true = omega arith
    most false = omega arith

rank_up : (j k : ℕ) (cs : List Class) → j < k → rank j cs ≤ rank k cs
rank_up j k [] l = omega arith
rank_up j k (c ∷ cs) l = let h = before_up j k c.complete l in let i = rank_up j k cs l in omega arith

rank_most : (k : ℕ) (cs : List Class) → rank k cs ≤ length cs
rank_most k [] = omega arith
rank_most k (c ∷ cs) = let h = before_most k c.complete in let i = rank_most k cs in omega arith

pub rank_below : (cs : List Class) (i j k : ℕ) (c : Class) → slice_get cs i ≡ Some c → c.complete ≡ Some j → j < k → rank j cs < rank k cs
rank_below [] i j k c h p l = absurd cc
rank_below (d ∷ cs) zero j k c h p l =
    let e : d.complete ≡ Some j = let q : d ≡ c = cc in ap (λ (z : Class). z.complete) q ∙ p in
    let f : before j d.complete ≡ 0 = ap (before j) e ∙ before_self j in
    let g : before k d.complete ≡ 1 = ap (before k) e ∙ before_one j k l in
    let u = rank_up j k cs l in
    omega arith
rank_below (d ∷ cs) (suc i) j k c h p l = let u = rank_below cs i j k c h p l in let v = before_up j k d.complete l in omega arith

pub rank_within : (cs : List Class) (i j : ℕ) (c : Class) → slice_get cs i ≡ Some c → c.complete ≡ Some j → rank j cs < length cs
rank_within [] i j c h p = absurd cc
rank_within (d ∷ cs) zero j c h p =
    let e : d.complete ≡ Some j = let q : d ≡ c = cc in ap (λ (z : Class). z.complete) q ∙ p in
    let f : before j d.complete ≡ 0 = ap (before j) e ∙ before_self j in
    let u = rank_most j cs in
    omega arith
rank_within (d ∷ cs) (suc i) j c h p = let u = rank_within cs i j c h p in let v = before_most j d.complete in omega arith
