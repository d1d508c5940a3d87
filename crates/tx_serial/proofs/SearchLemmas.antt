-- What the searches over numbers find.
use Rattle.std.proofs.Common.{ℕ, zero, suc, ◌≡◌, ◌==◌, ◌<◌, ◌≤◌, Bool, true, false, cond, refl, ap, sym, ◌∙◌, Option, Some, None, arith}
use Rattle.std.specs.Prelude.{nat_lt}
use Rattle.std.proofs.lemmas.Bool.{eqb-true, eqb-false, true≢false, ltb-true, ltb-false}
use Rattle.tx_serial.specs.Machine.{elder, eldest}

elder_some : (f : ℕ → ℕ) (n : ℕ) (o : Option ℕ) → elder f n o ≡ None → ⊥
elder_some f n None e = cc
elder_some f n (Some k) e = elim (nat_lt (f n) (f k)) as (λ b. cond b (Some n) (Some k) ≡ None → ⊥) [ true ↦ λ h. cc | false ↦ λ h. cc ] e

pub eldest_none : (p : ℕ → Bool) (f : ℕ → ℕ) (n : ℕ) → eldest p f n ≡ None → (u : ℕ) → u < n → p u ≡ false
eldest_none p f zero e u h = absurd (omega arith)
eldest_none p f (suc n) e u h = elim (p n) as (λ b. p n ≡ b → cond b (elder f n (eldest p f n)) (eldest p f n) ≡ None → p u ≡ false) [
  | true ↦ λ q g. absurd (elder_some f n (eldest p f n) g)
  | false ↦ λ q g. elim (u == n) as (λ b. (u == n) ≡ b → p u ≡ false) [
    | true ↦ λ i. ap p (eqb-true u n i) ∙ q
    | false ↦ λ i. let d = eqb-false u n i in eldest_none p f n g u (omega (arith, d))
  ] refl
] refl e

elder_holds : (p : ℕ → Bool) (f : ℕ → ℕ) (n x : ℕ) (o : Option ℕ) → p n ≡ true → ((y : ℕ) → o ≡ Some y → p y ≡ true) → elder f n o ≡ Some x → p x ≡ true
elder_holds p f n x None h k e = let q : n ≡ x = cc in ap p (sym q) ∙ h
elder_holds p f n x (Some y) h k e = elim (nat_lt (f n) (f y)) as (λ b. cond b (Some n) (Some y) ≡ Some x → p x ≡ true) [
  | true ↦ λ g. let q : n ≡ x = cc in ap p (sym q) ∙ h
  | false ↦ λ g. k x g
] e

pub eldest_some : (p : ℕ → Bool) (f : ℕ → ℕ) (n x : ℕ) → eldest p f n ≡ Some x → p x ≡ true
eldest_some p f zero x e = absurd (cc)
eldest_some p f (suc n) x e = elim (p n) as (λ b. p n ≡ b → cond b (elder f n (eldest p f n)) (eldest p f n) ≡ Some x → p x ≡ true) [
  | true ↦ λ q g. elder_holds p f n x (eldest p f n) q (eldest_some p f n) g
  | false ↦ λ q g. eldest_some p f n x g
] refl e

elder_le : (f : ℕ → ℕ) (n u : ℕ) (o : Option ℕ) → elder f n o ≡ Some u → (f u ≤ f n) × ((y : ℕ) → o ≡ Some y → f u ≤ f y)
elder_le f n u None e = let i : n ≡ u = cc in (let j = ap f i in omega (arith, j), λ y g. absurd (cc))
elder_le f n u (Some k) e = elim (nat_lt (f n) (f k)) as
    (λ b. nat_lt (f n) (f k) ≡ b → cond b (Some n) (Some k) ≡ Some u → (f u ≤ f n) × ((y : ℕ) → Some k ≡ Some y → f u ≤ f y)) [
      | true ↦ λ q g. let i : n ≡ u = cc in let j = ap f i in let r = ltb-true (f n) (f k) q in
          (omega (arith, j), λ y h. let z : k ≡ y = cc in let zz = ap f z in omega (arith, j, r, zz))
      | false ↦ λ q g. let i : k ≡ u = cc in let j = ap f i in let r = ltb-false (f n) (f k) q in
          (omega (arith, j, r), λ y h. let z : k ≡ y = cc in let zz = ap f z in omega (arith, j, zz))
    ] refl e

-- none is elder than the eldest
pub eldest_le : (p : ℕ → Bool) (f : ℕ → ℕ) (n u : ℕ) → eldest p f n ≡ Some u → (v : ℕ) → v < n → p v ≡ true → f u ≤ f v
eldest_le p f zero u e v h i = absurd (omega (arith, h))
eldest_le p f (suc n) u e v h i = elim (p n) as (λ b. p n ≡ b → cond b (elder f n (eldest p f n)) (eldest p f n) ≡ Some u → f u ≤ f v) [
  | true ↦ λ q g. elim (v == n) as (λ b. (v == n) ≡ b → f u ≤ f v) [
    | true ↦ λ s. let j = ap f (eqb-true v n s) in let r = (elder_le f n u (eldest p f n) g).0 in omega (arith, j, r)
    | false ↦ λ s. let d = eqb-false v n s in let less : v < n = omega (arith, h, d) in
        by_rest g less (λ y r. eldest_le p f n y r v less i) (eldest p f n) refl
  ] refl
  | false ↦ λ q g. elim (v == n) as (λ b. (v == n) ≡ b → f u ≤ f v) [
    | true ↦ λ s. absurd (true≢false (sym i ∙ (ap p (eqb-true v n s) ∙ q)))
    | false ↦ λ s. let d = eqb-false v n s in eldest_le p f n u g v (omega (arith, h, d)) i
  ] refl
] refl e
  where
    by_rest : elder f n (eldest p f n) ≡ Some u → v < n → ((y : ℕ) → eldest p f n ≡ Some y → f y ≤ f v) → (o : Option ℕ) → eldest p f n ≡ o → f u ≤ f v
    by_rest g s ih None r = absurd (true≢false (sym i ∙ eldest_none p f n r v s))
    by_rest g s ih (Some y) r = let j = (elder_le f n u (eldest p f n) g).1 y r in let z = ih y r in omega (arith, j, z)

pub eldest_below : (p : ℕ → Bool) (f : ℕ → ℕ) (n x : ℕ) → eldest p f n ≡ Some x → x < n
eldest_below p f zero x e = absurd (cc)
eldest_below p f (suc n) x e = elim (p n) as (λ b. cond b (elder f n (eldest p f n)) (eldest p f n) ≡ Some x → x < suc n) [
  | true ↦ λ g. by_elder (eldest p f n) (λ y i. eldest_below p f n y i) g
  | false ↦ λ g. let less = eldest_below p f n x g in omega (arith, less)
] e
  where
    by_elder : (o : Option ℕ) → ((y : ℕ) → o ≡ Some y → y < n) → elder f n o ≡ Some x → x < suc n
    by_elder None h g = let i : n ≡ x = cc in omega (arith, i)
    by_elder (Some y) h g = elim (nat_lt (f n) (f y)) as (λ b. cond b (Some n) (Some y) ≡ Some x → x < suc n) [
      | true ↦ λ k. let i : n ≡ x = cc in omega (arith, i)
      | false ↦ λ k. let less = h x k in omega (arith, less)
    ] g
