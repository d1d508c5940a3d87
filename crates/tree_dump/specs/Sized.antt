-- Classes whose objects have sizes.
use Rattle.std.specs.Prelude.{ℕ, Bool, true, List, Option, Some, None, is_some}
use Rattle.cpp_tree.specs.cpp_types.Typ.{Form}
use Rattle.cpp_tree.specs.cpp_types.Class.{Class, completion_of, held_form}

abbrev pub is_known : List Class → Option ℕ → Bool
is_known classes None = true
is_known classes (Some n) = is_some (completion_of classes n)

-- the class that values of a form hold, if they hold one, is complete
abbrev pub is_whole : List Class → Form → Bool
is_whole classes f = is_known classes (held_form f)
