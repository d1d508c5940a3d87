-- Functions that pass a test, by their places.
use Rattle.std.proofs.Common.{◌≡◌, refl, sym, ap, subst, ℕ, zero, suc, ◌+◌, Bool, true, false, List, [], ◌∷◌, slice_get, Option, Some, None, unwrap_or, arith, eqb-true}
use Rattle.elab_rules.specs.elab_ctx.Ctx.{Func}
use Rattle.elab_rules.specs.Initialising.{kept_if, places_from, same_number, func_at, no_function}

some_is : {A : Type 0} (a b : A) → Some a ≡ Some b → a ≡ b
some_is {A} a b e = ap (λ (o : Option A). unwrap_or o a) e

place_in : (A : Type 0) (test : Func → Bool) (all : List Func) (i : ℕ) (fs : List Func) (j k : ℕ) → slice_get (places_from test i fs) j ≡ Some k
    → ((m : ℕ) (f : Func) → slice_get fs m ≡ Some f → slice_get all (i + m) ≡ Some f)
    → ((f : Func) → slice_get all k ≡ Some f → test f ≡ true → A) → A
place_in A test all i [] j k e g h = absurd cc
place_in A test all i (f ∷ fs) j k e g h = by (λ n d. place_in A test all (suc i) fs n k d later h) (test f) refl j e
  where
    later : (m : ℕ) (x : Func) → slice_get fs m ≡ Some x → slice_get all (suc i + m) ≡ Some x
    later m x y = let z : i + suc m ≡ suc i + m = omega arith in subst (λ (n : ℕ). slice_get all n ≡ Some x) z (g (suc m) x y)

    own : slice_get all i ≡ Some f
    own = let z : i + 0 ≡ i = omega arith in subst (λ (n : ℕ). slice_get all n ≡ Some f) z (g 0 f refl)

    by : ((n : ℕ) → slice_get (places_from test (suc i) fs) n ≡ Some k → A) → (b : Bool) → test f ≡ b → (j : ℕ)
        → slice_get (kept_if b i (places_from test (suc i) fs)) j ≡ Some k → A
    by rest true q zero d = h f (subst (λ (n : ℕ). slice_get all n ≡ Some f) (some_is i k d) own) q
    by rest true q (suc n) d = rest n d
    by rest false q n d = rest n d

-- each of the places has a function that passes the test
pub place_is : (A : Type 0) (test : Func → Bool) (fs : List Func) (j k : ℕ) → slice_get (places_from test 0 fs) j ≡ Some k
    → ((f : Func) → slice_get fs k ≡ Some f → test f ≡ true → A) → A
place_is A test fs j k e h = place_in A test fs 0 fs j k e (λ m f x. let z : 0 + m ≡ m = omega arith in subst (λ (n : ℕ). slice_get fs n ≡ Some f) (sym z) x) h

pub func_is : (fs : List Func) (k : ℕ) (f : Func) → slice_get fs k ≡ Some f → func_at fs k ≡ f
func_is fs k f e = ap (λ (o : Option Func). unwrap_or o no_function) e

pub number_is : (n : ℕ) (o : Option ℕ) → same_number n o ≡ true → o ≡ Some n
number_is n (Some m) h = ap Some (eqb-true m n h)
number_is n None h = absurd cc
