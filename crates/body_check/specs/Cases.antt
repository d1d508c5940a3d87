-- The types of exceptions in finitely many cases: each class of a list, each of some spellings, and all others.
use Rattle.std.specs.Prelude.{ℕ, zero, suc, ◌==◌, ◌≡◌, cond, Bool, true, false, not, ◌&&◌, ◌||◌, List, [], ◌∷◌, ◌++◌, length, Option, Some, None, nat_eq}
use Rattle.std.specs.Prelude.{if◌then◌else◌}
use Rattle.std.specs.List.{list_any}
use Rattle.tx_code.specs.declared.body.Row.{Row}
use Rattle.tx_code.specs.Meaning.{covers}
use Rattle.cpp_tree.specs.cpp_types.Typ.{Typ, typ, Form, void, ref, class}
use Rattle.cpp_tree.specs.cpp_types.Class.{Class}
use Rattle.cpp_tree.specs.cpp_types.Equal.{name_eq}
use Rattle.cpp_tree.specs.cpp_types.Spelling.{form_spelling}
use Rattle.cpp_tree.specs.Trees.{typ_in}
use Rattle.src_mean.specs.Exceptions.{caught_as, form_in}
use Rattle.symbolic_source.specs.Steps.{Answers}

pub data Case : Type 0 where
  of_class : ℕ → Case
  of_spelling : List ℕ → Case
  of_others : Case

abbrev pub spelled : List Class → Form → List ℕ
spelled classes f = form_spelling classes f false false

abbrev pub is_known : (known : List (List ℕ)) → List ℕ → Bool
is_known known s = list_any (name_eq s) known

module _ (classes : List Class) (known : List (List ℕ)) where
  -- a type is in a case: a class by its number, any other by its spelling
  abbrev pub Falls : Case → Typ → Type 0
  Falls (of_class n) t = form_in t ≡ class n
  Falls (of_spelling s) t = caught_as classes (form_in t) ≡ s ∷ []
  Falls of_others t = (s : List ℕ) × (caught_as classes (form_in t) ≡ s ∷ []) × (is_known known s ≡ false)

  -- so many of the first classes
  abbrev pub class_cases : ℕ → List Case
  class_cases zero = []
  class_cases (suc n) = of_class n ∷ class_cases n

  abbrev pub spelling_cases : List (List ℕ) → List Case
  spelling_cases [] = of_others ∷ []
  spelling_cases (s ∷ ss) = of_spelling s ∷ spelling_cases ss

  abbrev pub cases : List Case
  cases = class_cases (length classes) ++ spelling_cases known

  -- what is spelled by a handler's type; nothing by `...`
  abbrev pub handler_spelling : Typ → Option (List ℕ)
  handler_spelling (typ void c v) = None
  handler_spelling (typ (ref t) c v) = Some (spelled classes (form_in t))
  handler_spelling (typ f c v) = Some (spelled classes f)

  abbrev pub caught_by : Option (List ℕ) → List (List ℕ) → Bool
  caught_by None names = true
  caught_by (Some s) names = list_any (name_eq s) names

  -- whether a handler catches the types of a case, where its spelling tells that
  abbrev pub answer_in : Case → Option (List ℕ) → Option Bool
  answer_in (of_class n) o = Some (caught_by o (caught_as classes (class n)))
  answer_in (of_spelling s) o = Some (caught_by o (s ∷ []))
  answer_in of_others None = Some true
  answer_in of_others (Some s) = cond (is_known known s) (Some false) None

  -- of one unknown exception
  abbrev pub answers_in : (exception : ℕ) → Case → Answers
  answers_in n c m handler = cond (m == n) (answer_in c (handler_spelling (typ_in handler))) None

  -- whether a type of this spelling is that of the case
  abbrev pub is_that : Case → List ℕ → Bool
  is_that (of_class n) s = name_eq s (spelled classes (class n))
  is_that (of_spelling u) s = name_eq s u
  is_that of_others s = false

  -- the first row that covers the index and takes the types of the case, where types' numbers stand for these spellings
  abbrev pub find_in : (spelling_of : ℕ → List ℕ) → Case → List Row → ℕ → Option Row
  find_in spelling_of c [] i = None
  find_in spelling_of c (r ∷ rs) i = if covers r i && (not (nat_eq r.what 1) || is_that c (spelling_of r.ty)) then Some r else find_in spelling_of c rs i

  -- the numbers in rows are those of types of known spellings
  abbrev pub AreSpelled : (numbers : Typ → ℕ) → (spelling_of : ℕ → List ℕ) → List Row → Type 0
  AreSpelled numbers spelling_of [] = Unit {0}
  AreSpelled numbers spelling_of (r ∷ rs) = (nat_eq r.what 1 ≡ true → (is_known known (spelling_of r.ty) ≡ true) ×
      ((t : Typ) → nat_eq r.ty (numbers t) ≡ name_eq (spelling_of r.ty) (spelled classes (form_in t))))
      × AreSpelled numbers spelling_of rs

abbrev pub Each : (Case → Type 0) → List Case → Type 0
Each P [] = Unit {0}
Each P (c ∷ cs) = P c × Each P cs
