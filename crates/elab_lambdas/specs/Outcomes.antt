-- What answers of lambdas say.
use Rattle.std.specs.Prelude.{◌≡◌, true, Vec, length, Result, Ok, Err}
use Rattle.std.specs.declared.alloc.Global.{Global}
use Rattle.elab_entry.specs.cpp_types.Typ.{typ_of}
use Rattle.elab_entry.specs.cpp_types.declared.types.Ty.{Ty}
use Rattle.elab_entry.specs.cpp_tree.declared.faults.ElabFault.{ElabFault}
use Rattle.elab_entry.specs.cpp_tree.declared.arena.TNodeId.{TNodeId}
use Rattle.elab_entry.specs.cpp_tree.Arena.{trees_at}
use Rattle.elab_entry.specs.elab_ctx.Says.{Faults, are_within}
use Rattle.elab_entry.specs.elab_rules.Statements.{Done, done}
use Rattle.elab_entry.specs.elab_scopes.declared.state.State.{State as StateRec}
use Rattle.elab_entry.specs.elab_scopes.States.{state_of, made, Grown}
use Rattle.elab_lambdas.specs.Whole.{Deduced}

-- trees were made, one behind the other
pub record AllListed (old new : StateRec) (v : Vec TNodeId Global) (x : Result Done ElabFault) : Type 0 where
  pub grown : Grown old new
  pub within : are_within (length (made new)) v.items ≡ true
  pub is : x ≡ done (trees_at (made new) v.items) (state_of new)

abbrev pub Lists : StateRec → StateRec → Result (Vec TNodeId Global) ElabFault → Result Done ElabFault → Type 0
Lists old new (Ok v) x = AllListed old new v x
Lists old new (Err e) x = Faults e x

-- a result was found, and this stands behind it
pub record DeducedAt (old new : StateRec) (t : Ty) (x : Result Deduced ElabFault) : Type 0 where
  pub grown : Grown old new
  pub is : x ≡ Ok (record { typ = typ_of t; state = state_of new })

abbrev pub Deduces : StateRec → StateRec → Result Ty ElabFault → Result Deduced ElabFault → Type 0
Deduces old new (Ok t) x = DeducedAt old new t x
Deduces old new (Err e) x = Faults e x
