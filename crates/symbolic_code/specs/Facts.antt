-- What is known of the words at an index.
use Rattle.std.specs.Prelude.{ℕ, ◌≡◌, ◌⊎◌, Bool, false, ◌||◌, List, [], ◌∷◌, Some, ◌%◌, ◌^◌, ◌==◌, cond}
use Rattle.src_mean.specs.Linked.{Func, Program}
use Rattle.symbolic_source.specs.Terms.{Term, Values, eval, number}
use Rattle.symbolic_source.specs.Replacing.{Replacing, in_term}
use Rattle.symbolic_source.specs.Outcomes.{Outcome, chooses}
use Rattle.symbolic_code.specs.Same.{same_term}

pub data Fact : Type 0 where
  not_zero : Term → Fact
  has_function : (class slot : ℕ) → (address : Term) → Fact  -- the slot of the class at this address has a function

module _ (p : Program) (f : Func) (x : Values) where
  abbrev pub Holds : Fact → Type 0
  Holds (not_zero w) = eval p f x w ≡ 0 → ⊥
  Holds (has_function class slot address) = (n : ℕ) × (p.slot (eval p f x address) class slot ≡ Some n)

  abbrev pub AllHold : List Fact → Type 0
  AllHold [] = Unit {0}
  AllHold (k ∷ ks) = Holds k × AllHold ks

abbrev pub in_fact : Replacing → Fact → Fact
in_fact r (not_zero w) = not_zero (in_term r w)
in_fact r (has_function class slot address) = has_function class slot (in_term r address)

abbrev pub in_facts : Replacing → List Fact → List Fact
in_facts r [] = []
in_facts r (k ∷ ks) = in_fact r k ∷ in_facts r ks

-- a fact that holds of itself
abbrev pub Evident : Fact → Type 0
Evident (not_zero (number n)) = (n % 2 ^ 64 == 0) ≡ false
Evident k = ⊥

abbrev pub Among : Fact → List Fact → Type 0
Among k [] = Evident k
Among k (j ∷ js) = (k ≡ j) ⊎ Among k js

abbrev pub AllAmong : List Fact → List Fact → Type 0
AllAmong [] js = Unit {0}
AllAmong (k ∷ ks) js = Among k js × AllAmong ks js

-- it is known that a word is not 0
abbrev pub is_not_zero : List Fact → Term → Bool
is_not_zero [] w = false
is_not_zero (not_zero v ∷ ks) w = same_term v w || is_not_zero ks w
is_not_zero (has_function class slot address ∷ ks) w = is_not_zero ks w

-- a decision that is made by what is known
abbrev pub settled : List Fact → Outcome → Outcome
settled ks (chooses w first other) = cond (is_not_zero ks w) (settled ks other) (chooses w first other)
settled ks o = o
