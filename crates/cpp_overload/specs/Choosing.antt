-- The candidate that a call means, by computation (C++14 13.3).
use Rattle.std.specs.Prelude.{◌≡◌, ◌==◌, ◌&&◌, ◌||◌, not, ℕ, zero, suc, Bool, true, false, List, [], ◌∷◌, length, Option, Some, None, is_some, Result, Ok, Err}
use Rattle.std.specs.Prelude.{if◌then◌else◌}
use Rattle.cpp_types.specs.Class.{Class}
use Rattle.cpp_overload.specs.Overload.{Candidate, Argument, conversion_at, better_at, count_of, parameters_of, IsChosen}
use Rattle.cpp_overload.specs.declared.calls.NoBest.{NoBest}
use Rattle.cpp_overload.specs.declared.calls.NoBest.TheVariants.{NoViable, Ambiguous}

-- what a call means: a candidate by its index, or why none
pub data Choice : Type 0 where
  best : ℕ → Choice
  none_viable : Choice
  none_best : Choice

-- a test holds of each number below `n`, and of some
abbrev pub all_below : (ℕ → Bool) → ℕ → Bool
all_below p zero = true
all_below p (suc n) = all_below p n && p n

abbrev pub some_below : (ℕ → Bool) → ℕ → Bool
some_below p zero = false
some_below p (suc n) = some_below p n || p n

abbrev pub is_viable : List Class → List Argument → Candidate → Bool
is_viable classes args p = count_of (parameters_of p) == length args && all_below (λ i. is_some (conversion_at classes args p i)) (length args)

abbrev pub is_better : List Class → List Argument → Candidate → Candidate → Bool
is_better classes args p q = all_below (λ i. not (better_at classes args q p i)) (length args) && some_below (λ i. better_at classes args p q i) (length args)

-- better than each viable candidate but the one of index `i`, where `j` is the index of the first
abbrev pub beats_from : List Class → List Argument → ℕ → Candidate → ℕ → List Candidate → Bool
beats_from classes args i p j [] = true
beats_from classes args i p j (q ∷ qs) = (i == j || not (is_viable classes args q) || is_better classes args p q) && beats_from classes args i p (suc j) qs

-- the index of the best candidate, where `all` are all of them
abbrev pub best_from : List Class → List Argument → List Candidate → ℕ → List Candidate → Option ℕ
best_from classes args all i [] = None
best_from classes args all i (p ∷ ps) = if is_viable classes args p && beats_from classes args i p 0 all then Some i else best_from classes args all (suc i) ps

abbrev pub any_viable : List Class → List Argument → List Candidate → Bool
any_viable classes args [] = false
any_viable classes args (p ∷ ps) = is_viable classes args p || any_viable classes args ps

abbrev pub choice_by : Option ℕ → Bool → Choice
choice_by (Some i) viable = best i
choice_by None true = none_best
choice_by None false = none_viable

-- the best candidate
abbrev pub chosen : List Class → List Candidate → List Argument → Choice
chosen classes cands args = choice_by (best_from classes args cands 0 cands) (any_viable classes args cands)

-- what an answer says, but for which two candidates show that none is best
abbrev pub choice_of : Result ℕ NoBest → Choice
choice_of (Ok i) = best i
choice_of (Err NoViable) = none_viable
choice_of (Err (Ambiguous i j)) = none_best

-- what a call means is what is found by computation
abbrev pub ChosenIsMeant : Type 0
ChosenIsMeant = (classes : List Class) (cands : List Candidate) (args : List Argument) (r : Result ℕ NoBest) → IsChosen classes cands args r
    → chosen classes cands args ≡ choice_of r
