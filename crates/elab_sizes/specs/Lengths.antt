-- Lengths of lists of types, with a comma before the first where the flag is set.
use Rattle.std.specs.Prelude.{ℕ, ◌+◌, Bool, true, List}
use Rattle.cpp_types.specs.Typ.{Typs, none, more}
use Rattle.cpp_types.specs.Class.{Class}
use Rattle.elab_rules.specs.Sizes.{typ_length, if_set}

abbrev pub listed_length : List Class → Bool → Typs → ℕ
listed_length classes comma none = 0
listed_length classes comma (more t ts) = if_set comma 1 + typ_length classes t + listed_length classes true ts
