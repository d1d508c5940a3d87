-- Lists of terms and exceptions, where one that is not there is 0, or an exception of no type.
use Rattle.std.specs.Prelude.{ℕ, zero, suc, false, List, [], ◌∷◌, ◌++◌, Option, Some, None}
use Rattle.cpp_tree.specs.cpp_types.Typ.{typ, void}
use Rattle.symbolic_source.specs.Terms.{Term, Exception, made, untouched}
use Rattle.symbolic_source.specs.Steps.{first_word}
use Rattle.symbolic_source.specs.Replacing.{Replacing, in_exception}

abbrev pub others : List Term → List Term
others [] = []
others (w ∷ ws) = ws

-- the words behind the first ones
abbrev pub behind : ℕ → List Term → List Term
behind zero ws = ws
behind (suc n) ws = behind n (others ws)

-- the first ones
abbrev pub firsts : ℕ → List Term → List Term
firsts zero ws = []
firsts (suc n) ws = first_word ws ∷ firsts n (others ws)

-- the same, the last of them first
abbrev pub turned : ℕ → List Term → List Term
turned zero ws = []
turned (suc n) ws = turned n (others ws) ++ first_word ws ∷ []

-- one number on another
abbrev pub more_by : ℕ → ℕ → ℕ
more_by zero m = m
more_by (suc n) m = suc (more_by n m)

-- there are so many terms
abbrev pub AreSo : ℕ → List Term → Type 0
AreSo zero [] = Unit {0}
AreSo zero (w ∷ ws) = ⊥
AreSo (suc n) [] = ⊥
AreSo (suc n) (w ∷ ws) = AreSo n ws

abbrev pub first_exception : List Exception → Exception
first_exception [] = made (typ void false false) untouched
first_exception (e ∷ es) = e

abbrev pub innermost : List Exception → Option Exception
innermost [] = None
innermost (e ∷ es) = Some e

abbrev pub other_exceptions : List Exception → List Exception
other_exceptions [] = []
other_exceptions (e ∷ es) = es

abbrev pub exceptions_behind : ℕ → List Exception → List Exception
exceptions_behind zero es = es
exceptions_behind (suc n) es = exceptions_behind n (other_exceptions es)

-- there are so many exceptions
abbrev pub AreAll : ℕ → List Exception → Type 0
AreAll zero [] = Unit {0}
AreAll zero (e ∷ es) = ⊥
AreAll (suc n) [] = ⊥
AreAll (suc n) (e ∷ es) = AreAll n es

-- with exceptions in the place of unknown ones
abbrev pub in_exceptions : Replacing → List Exception → List Exception
in_exceptions r [] = []
in_exceptions r (e ∷ es) = in_exception r e ∷ in_exceptions r es
