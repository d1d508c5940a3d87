-- What answers with several trees say, where nothing is made beside them.
use Rattle.std.specs.Prelude.{◌≡◌, true, Vec, List, length, Result, Ok, Err}
use Rattle.std.specs.declared.alloc.Global.{Global}
use Rattle.elab_entry.specs.cpp_tree.declared.faults.ElabFault.{ElabFault}
use Rattle.elab_entry.specs.cpp_tree.declared.arena.TNodeId.{TNodeId}
use Rattle.elab_entry.specs.cpp_tree.Trees.{Tree, Trees}
use Rattle.elab_entry.specs.cpp_tree.Arena.{trees_at, Grows}
use Rattle.elab_entry.specs.elab_ctx.Says.{Faults, are_within}

-- the trees that are to be answered were added
pub record AllGiven (old new : List Tree) (ids : List TNodeId) (x : Result Trees ElabFault) : Type 0 where
  pub grows : Grows old new
  pub within : are_within (length new) ids ≡ true
  pub is : x ≡ Ok (trees_at new ids)

abbrev pub GivesAll : List Tree → List Tree → Result (Vec TNodeId Global) ElabFault → Result Trees ElabFault → Type 0
GivesAll old new (Ok v) x = AllGiven old new v.items x
GivesAll old new (Err e) x = Faults e x
