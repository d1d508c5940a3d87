-- Functions that stand in their places, and stand there still.
use Rattle.std.proofs.Common.{◌≡◌, refl, ap, ◌∙◌, subst, ℕ, zero, suc, ◌+◌, Bool, true, false, List, [], ◌∷◌, ◌++◌, length, slice_get, Some, arith}
use Rattle.std.specs.Prelude.{slice_set, if◌then◌else◌}
use Rattle.std.proofs.lemmas.Option.{same_Some}
use Rattle.elab_rules.specs.elab_ctx.Ctx.{Func}
use Rattle.elab_rules.specs.Functions.{first_from}
use Rattle.elab_contexts.specs.Steps.{SameFunction}

-- in its place stands a function of which this holds
pub record At (P : Func → Type 0) (fs : List Func) (k : ℕ) : Type 0 where
  pub func : Func
  pub at : slice_get fs k ≡ Some func
  pub is : P func

-- each function stands still in its place
pub record Stay (old new : List Func) : Type 0 where
  pub kept : (k : ℕ) (f : Func) → slice_get old k ≡ Some f → At (SameFunction f) new k

pub same_function : (f : Func) → SameFunction f f
same_function f = record { declared = refl; kind = refl; class = refl; builtin = refl; implicit = refl }

pub stay : (fs : List Func) → Stay fs fs
stay fs = record { kept = λ k f h. record { func = f; at = h; is = same_function f } }

pub stay_on : (a b c : List Func) → Stay a b → Stay b c → Stay a c
stay_on a b c g h = record {
  kept = λ k f e. let x = g.kept k f e in let y = h.kept k x.func x.at in record {
    func = y.func;
    at = y.at;
    is = record {
      declared = y.is.declared ∙ x.is.declared;
      kind = y.is.kind ∙ x.is.kind;
      class = y.is.class ∙ x.is.class;
      builtin = y.is.builtin ∙ x.is.builtin;
      implicit = y.is.implicit ∙ x.is.implicit;
    };
  };
}

-- what functions are said to be, as trees see them
pub record Respects (P : Func → Type 0) : Type 0 where
  pub same : (f g : Func) → SameFunction f g → P f → P g

pub at_still : (P : Func → Type 0) → Respects P → (old new : List Func) → Stay old new → (k : ℕ) → At P old k → At P new k
at_still P r old new s k x = let y = s.kept k x.func x.at in record { func = y.func; at = y.at; is = r.same x.func y.func y.is x.is }

-- one more

pub before_it : {A : Type 0} (xs : List A) (x : A) (k : ℕ) (y : A) → slice_get xs k ≡ Some y → slice_get (xs ++ x ∷ []) k ≡ Some y
before_it [] x k y h = absurd cc
before_it (z ∷ xs) x zero y h = h
before_it (z ∷ xs) x (suc k) y h = before_it xs x k y h

pub at_the_end : {A : Type 0} (xs : List A) (x : A) → slice_get (xs ++ x ∷ []) (length xs) ≡ Some x
at_the_end [] x = refl
at_the_end (z ∷ xs) x = at_the_end xs x

pub stay_added : (fs : List Func) (f : Func) → Stay fs (fs ++ f ∷ [])
stay_added fs f = record { kept = λ k g h. record { func = g; at = before_it fs f k g h; is = same_function g } }

-- one that is set

pub stay_set : (fs : List Func) (n : ℕ) (g : Func) → ((f : Func) → slice_get fs n ≡ Some f → SameFunction f g) → Stay fs (slice_set fs n g)
stay_set [] n g s = record { kept = λ i f h. absurd cc }
stay_set (d ∷ fs) zero g s = record { kept = by }
  where
    by : (i : ℕ) (f : Func) → slice_get (d ∷ fs) i ≡ Some f → At (SameFunction f) (g ∷ fs) i
    by zero f h = record { func = g; at = refl; is = s f h }
    by (suc i) f h = record { func = f; at = h; is = same_function f }
stay_set (d ∷ fs) (suc n) g s = record { kept = by (stay_set fs n g s) }
  where
    by : Stay fs (slice_set fs n g) → (i : ℕ) (f : Func) → slice_get (d ∷ fs) i ≡ Some f → At (SameFunction f) (d ∷ slice_set fs n g) i
    by r zero f h = record { func = f; at = h; is = same_function f }
    by r (suc i) f h = let k = r.kept i f h in record { func = k.func; at = k.at; is = k.is }

-- the first that passes a test

abbrev pub Passes : (Func → Bool) → Func → Type 0
Passes test f = test f ≡ true

abbrev FoundIn : (Func → Bool) → ℕ → List Func → ℕ → Type 0
FoundIn test i fs k = (gs : List Func) → ((j : ℕ) → slice_get gs (i + j) ≡ slice_get fs j) → At (Passes test) gs k

found_by : (test : Func → Bool) (i : ℕ) (f : Func) (fs : List Func) (b : Bool) → test f ≡ b → (k : ℕ)
    → ((k : ℕ) → first_from test (suc i) fs ≡ Some k → FoundIn test (suc i) fs k)
    → (if b then Some i else first_from test (suc i) fs) ≡ Some k → FoundIn test i (f ∷ fs) k
found_by test i f fs true t k h e gs q = subst (λ (j : ℕ). At (Passes test) gs j) (same_Some i k e)
    (record { func = f; at = ap (slice_get gs) (omega arith) ∙ q 0; is = t })
found_by test i f fs false t k h e gs q = h k e gs (λ j. ap (slice_get gs) (omega arith) ∙ q (suc j))

found_from : (test : Func → Bool) (i : ℕ) (fs : List Func) (k : ℕ) → first_from test i fs ≡ Some k → FoundIn test i fs k
found_from test i [] k e gs q = absurd cc
found_from test i (f ∷ fs) k e gs q = found_by test i f fs (test f) refl k (found_from test (suc i) fs) e gs q

pub first_found : (test : Func → Bool) (fs : List Func) (k : ℕ) → first_from test 0 fs ≡ Some k → At (Passes test) fs k
first_found test fs k e = found_from test 0 fs k e fs (λ j. ap (slice_get fs) (omega arith))
