-- Lists whose elements show something.
use Rattle.std.proofs.Common.{◌≡◌, ℕ, zero, suc, ◌+◌, List, [], ◌∷◌, Some, None, ap, sym, ◌∙◌, subst, refl, drop, arith, length, ◌<◌, ◌≤◌, inl, inr}
use Rattle.std.proofs.lemmas.Bool.{cases_lt}
use Rattle.std.specs.Prelude.{map, slice_get}

-- where each element shows something
pub shown_at : {A B : Type 0} (f : A → B) (xs : List A) (i : ℕ) (x : A) → slice_get xs i ≡ Some x → slice_get (map f xs) i ≡ Some (f x)
shown_at f [] i x e = absurd cc
shown_at f (y ∷ ys) zero x e = ap (λ z. Some (f z)) (head y x e)
  where
    head : {A : Type 0} (y x : A) → Some y ≡ Some x → y ≡ x
    head y x e = cc
shown_at f (y ∷ ys) (suc i) x e = shown_at f ys i x e

pub shown_from : {A B : Type 0} (f : A → B) (P : B → Type 0) (xs : List A) → ((n : ℕ) (x : A) → slice_get xs n ≡ Some x → P (f x)) → (n : ℕ) (y : B) → slice_get (map f xs) n ≡ Some y → P y
shown_from f P [] all n y e = absurd cc
shown_from f P (x ∷ xs) all zero y e = subst P (head (f x) y e) (all 0 x refl)
  where
    head : {A : Type 0} (y x : A) → Some y ≡ Some x → y ≡ x
    head y x e = cc
shown_from f P (x ∷ xs) all (suc n) y e = shown_from f P xs (λ m z h. all (suc m) z h) n y e

pub none_shown : {A B : Type 0} (f : A → B) (xs : List A) (i : ℕ) → slice_get xs i ≡ None → slice_get (map f xs) i ≡ None
none_shown f [] i e = refl
none_shown f (x ∷ xs) zero e = absurd cc
none_shown f (x ∷ xs) (suc i) e = none_shown f xs i e

-- one less of a longer list
pub drop_more : {A : Type 0} (n m : ℕ) (x : A) (xs : List A) → n ≡ m + 1 → drop m xs ≡ drop n (x ∷ xs)
drop_more n m x xs e =
    let i : n ≡ suc m = omega (arith, e) in
    ap (λ z. drop z (x ∷ xs)) (sym i)

-- what stands in a list stands before its end
within : {A : Type 0} (xs : List A) (m : ℕ) (x : A) → slice_get xs m ≡ Some x → m < length xs
within [] m x e = absurd cc
within (y ∷ ys) zero x e = omega arith
within (y ∷ ys) (suc m) x e = let h = within ys m x e in omega (arith, h)

-- element by element
module _ {A : Type 0} (P : A → Type 0) (xs : List A) where
  pub more_each : (i : ℕ) (x : A) → slice_get xs i ≡ Some x → P x → ((n : ℕ) (y : A) → n < i → slice_get xs n ≡ Some y → P y) → (n : ℕ) (y : A) → n < i + 1 → slice_get xs n ≡ Some y → P y
  more_each i x is px before n y h e = elim (cases_lt n i) [
    | inl a ↦ before n y a e
    | inr a ↦
        let j : n ≡ i = omega (arith, h, a) in
        subst P (same_some x y (sym is ∙ ap (λ z. slice_get xs z) (sym j) ∙ e)) px
  ]
    where
      same_some : {B : Type 0} (x y : B) → Some x ≡ Some y → x ≡ y
      same_some x y e = cc

  pub each_all : (i : ℕ) → length xs ≤ i → ((n : ℕ) (y : A) → n < i → slice_get xs n ≡ Some y → P y) → (n : ℕ) (y : A) → slice_get xs n ≡ Some y → P y
  each_all i long before n y e =
      let h = within xs n y e in
      before n y (omega (arith, h, long)) e
