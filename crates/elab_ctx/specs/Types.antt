-- Names of types, in the order in which they were declared, and the type that a name stands for.
use Rattle.std.specs.Prelude.{ℕ, List, [], ◌∷◌, Option, Some, None, if◌then◌else◌}
use Rattle.std.specs.Str.{bytes_eq}
use Rattle.cpp_tree.specs.cpp_types.Typ.{Typ, typ_of}
use Rattle.std.specs.Coded.{Coded, coded×, coded_ℕ, coded_list}
use Rattle.cpp_tree.specs.cpp_types.declared.types.Ty.{Ty}
use Rattle.cpp_tree.specs.cpp_types.contracts.types.Ty as ty

-- a name of a type
pub record Named : Type 0 where
  pub name : List ℕ
  pub typ : Typ

-- the same of a name with the type that the code keeps
abbrev pub named_of : List ℕ × Ty → Named
named_of pair = record { name = pair.0; typ = typ_of pair.1 }

-- the type that a name stands for
abbrev pub type_called : List ℕ → List Named → Option Typ
type_called name [] = None
type_called name (n ∷ ns) = if bytes_eq name n.name then Some n.typ else type_called name ns

-- a name stands for one type: one that is there keeps its place, one that is new comes last
abbrev pub named_too : List Named → List ℕ → Typ → List Named
named_too [] name t = record { name = name; typ = t } ∷ []
named_too (n ∷ ns) name t = if bytes_eq name n.name then record { name = n.name; typ = t } ∷ ns else n ∷ named_too ns name t

-- names with the types that the code keeps are told apart
abbrev pub names_code : Coded (List (List ℕ × Ty))
names_code = coded_list (coded× (coded_list coded_ℕ) ty.the_row.coded)
