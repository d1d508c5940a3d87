-- Classes by name.
use Rattle.std.specs.Prelude.{ℕ, Bool, List}
use Rattle.cpp_tree.specs.cpp_types.Class.{Class}
use Rattle.cpp_tree.specs.cpp_types.Equal.{name_eq}
use Rattle.src_mean.specs.Links.{class_name}

-- a class has this name
abbrev pub is_named : List Class → List ℕ → ℕ → Bool
is_named classes name b = name_eq (class_name classes b) name
