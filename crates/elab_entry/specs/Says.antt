-- What an answer with a list of trees says.
use Rattle.std.specs.Prelude.{◌≡◌, true, Vec, List, length, Result, Ok, Err}
use Rattle.std.specs.declared.alloc.Global.{Global}
use Rattle.elab_stmt.specs.cpp_tree.declared.faults.ElabFault.{ElabFault}
use Rattle.elab_stmt.specs.cpp_tree.declared.arena.TNodeId.{TNodeId}
use Rattle.elab_stmt.specs.cpp_tree.Arena.{trees_at}
use Rattle.elab_stmt.specs.elab_ctx.Says.{Faults, are_within}
use Rattle.elab_stmt.specs.elab_rules.Statements.{Done, done}
use Rattle.elab_stmt.specs.elab_scopes.declared.state.State.{State as StateRec}
use Rattle.elab_stmt.specs.elab_scopes.States.{state_of, made, Grown}

-- the trees of a list were made, and the state stands behind them
pub record Listed (old new : StateRec) (ids : List TNodeId) (x : Result Done ElabFault) : Type 0 where
  pub grown : Grown old new
  pub within : are_within (length (made new)) ids ≡ true
  pub is : x ≡ done (trees_at (made new) ids) (state_of new)

abbrev pub Lists : StateRec → StateRec → Result (Vec TNodeId Global) ElabFault → Result Done ElabFault → Type 0
Lists old new (Ok v) x = Listed old new v.items x
Lists old new (Err e) x = Faults e x
