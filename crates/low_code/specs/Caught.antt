-- What handlers catch.
use Rattle.std.specs.Prelude.{Bool, false, not, ◌&&◌, ◌||◌, ℕ, zero, suc, nat_lt, cond, List, [], ◌∷◌, ◌++◌, length, slice_get, fold, map, Option, Some, None, is_some}
use Rattle.std.specs.Borrow.{Bor}
use Rattle.cpp_tree.specs.cpp_types.Equal.{name_eq}
use Rattle.cpp_tree.specs.cpp_types.declared.classes.ClassRec.{ClassRec}
use Rattle.cpp_tree.specs.cpp_types.Class.{Class}

abbrev pub own_name : List ℕ → Option Class → Bool
own_name name None = false
own_name name (Some c) = name_eq c.name name

abbrev pub class_at : List Class → Option ℕ → Option Class
class_at classes None = None
class_at classes (Some number) = slice_get classes number

-- the base of a class, if there are both
abbrev pub base_class : List Class → Option Class → Option Class
base_class classes None = None
base_class classes (Some c) = class_at classes c.base

-- the class, or one of at most so many bases, has the name
abbrev pub has_name : ℕ → List Class → List ℕ → Option Class → Bool
has_name zero classes name found = own_name name found
has_name (suc most) classes name found = own_name name found || has_name most classes name (base_class classes found)

-- the names of classes
abbrev pub names_of : List (Bor ClassRec) → List (List ℕ)
names_of classes = map (λ (c : Bor ClassRec). c.now.name.items) classes

abbrev pub is_among : List (List ℕ) → List ℕ → Bool
is_among [] name = false
is_among (other ∷ others) name = name_eq other name || is_among others name

-- the class is complete and named, and is of the class with this name or derived from it
abbrev pub is_caught : List Class → List ℕ → Class → Bool
is_caught classes name c = nat_lt 0 (length c.name) && (is_some c.complete && has_name (length classes) classes name (Some c))

abbrev pub with_class : List Class → List ℕ → List (List ℕ) → Class → List (List ℕ)
with_class classes name caught c = cond (is_caught classes name c && not (is_among caught c.name)) (caught ++ c.name ∷ []) caught

-- the names of the classes of which a handler of this class catches exceptions, each once
abbrev pub caught_names : List Class → List ℕ → List (List ℕ)
caught_names classes name = fold (with_class classes name) [] classes
