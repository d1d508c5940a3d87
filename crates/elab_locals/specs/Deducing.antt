-- Deduced types, and variables that are declared.
use Rattle.std.specs.Prelude.{◌≡◌, ◌<◌, true, List, length, Option, option_map, Result, Ok, Err}
use Rattle.elab_scopes.specs.cpp_types.Typ.{Typ, typ_of}
use Rattle.elab_scopes.specs.cpp_types.declared.types.Ty.{Ty}
use Rattle.elab_scopes.specs.cpp_tree.declared.faults.ElabFault.{ElabFault}
use Rattle.elab_scopes.specs.cpp_tree.declared.arena.TNodeId.{TNodeId}
use Rattle.elab_scopes.specs.cpp_tree.Trees.{Tree, one}
use Rattle.elab_scopes.specs.cpp_tree.Arena.{tree_at, trees_at, Grows}
use Rattle.elab_scopes.specs.cpp_tree.Typing.{unqualified}
use Rattle.elab_scopes.specs.elab_ctx.Says.{Faults, are_within}
use Rattle.elab_scopes.specs.elab_rules.Statements.{Deduction, Declaring, deduced_from}
use Rattle.elab_scopes.specs.declared.state.State.{State as StateRec}
use Rattle.elab_scopes.specs.States.{state_of, made, Grown}

abbrev pub auto_in_value : Typ → Typ → Option Typ
auto_in_value t u = deduced_from t (unqualified u)

-- a type was deduced, for which trees may have been made
pub record DeducedAt (old new : List Tree) (t : Ty) (x : Result Typ ElabFault) : Type 0 where
  pub grows : Grows old new
  pub is : x ≡ Ok (typ_of t)

abbrev pub Deduces : List Tree → List Tree → Result Ty ElabFault → Result Typ ElabFault → Type 0
Deduces old new (Ok t) x = DeducedAt old new t x
Deduces old new (Err e) x = Faults e x

-- a variable was declared, with what stood for `auto`
pub record VariableAt (old new : StateRec) (auto : Option Ty) (r : TNodeId) (x : Result Deduction ElabFault) : Type 0 where
  pub grown : Grown old new
  pub within : r.0 < length (made new)
  pub is : x ≡ Ok (record { done = record { trees = one (tree_at (made new) r); state = state_of new }; auto = option_map typ_of auto })

abbrev pub Variables : StateRec → StateRec → Option Ty → Result TNodeId ElabFault → Result Deduction ElabFault → Type 0
Variables old new auto (Ok r) x = VariableAt old new auto r x
Variables old new auto (Err e) x = Faults e x

-- declarators, one behind the other

abbrev pub declaring_of : StateRec → List TNodeId → Option Ty → Declaring
declaring_of st ids auto = record { trees = trees_at (made st) ids; state = state_of st; auto = option_map typ_of auto }

pub record DeclaringAt (old new : StateRec) (ids : List TNodeId) (auto : Option Ty) (x : Result Declaring ElabFault) : Type 0 where
  pub grown : Grown old new
  pub within : are_within (length (made new)) ids ≡ true
  pub is : x ≡ Ok (declaring_of new ids auto)

abbrev pub Declares : StateRec → StateRec → List TNodeId → Option Ty → Result (Unit {0}) ElabFault → Result Declaring ElabFault → Type 0
Declares old new ids auto (Ok u) x = DeclaringAt old new ids auto x
Declares old new ids auto (Err e) x = Faults e x
