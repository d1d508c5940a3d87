-- What answers of elaboration say of what is to be answered.
use Rattle.std.specs.Prelude.{◌≡◌, ◌<◌, ℕ, Bool, true, nat_lt, Vec, List, length, Result, Ok, Err}
use Rattle.std.specs.List.{list_all}
use Rattle.std.specs.declared.alloc.Global.{Global}
use Rattle.cpp_tree.specs.cpp_types.declared.classes.At.{At}
use Rattle.cpp_tree.specs.declared.faults.ElabFault.{ElabFault}
use Rattle.cpp_tree.specs.declared.faults.ElabFault.TheVariants.{Ill, Override, JumpIntoBlock, Limit, Memory}
use Rattle.cpp_tree.specs.declared.arena.TNodeId.{TNodeId}
use Rattle.cpp_tree.specs.Trees.{Tree, node, Trees}
use Rattle.cpp_tree.specs.Arena.{tree_at, trees_at, Grows}
use Rattle.elab_ctx.specs.Ctx.{Work}
use Rattle.elab_ctx.specs.Steps.{Made, MadeAll}

abbrev pub place_in : Tree → At
place_in (node kind t cat at kids) = at

-- the fault is the one that is to be answered; want of memory says nothing
abbrev pub Faults : {A : Type 0} → ElabFault → Result A ElabFault → Type 0
Faults (Ill at rule) x = x ≡ Err (Ill at rule)
Faults (Override at rule) x = x ≡ Err (Override at rule)
Faults (JumpIntoBlock at) x = x ≡ Err (JumpIntoBlock at)
Faults (Limit at which) x = x ≡ Err (Limit at which)
Faults Memory x = Unit {0}

-- the tree that is to be answered was added or stood there before
pub record Given (old new : List Tree) (r : TNodeId) (x : Result Tree ElabFault) : Type 0 where
  pub grows : Grows old new
  pub within : r.0 < length new
  pub is : x ≡ Ok (tree_at new r)

-- a node was made of what is to be answered, or its fault is answered
abbrev pub Gives : List Tree → List Tree → Result TNodeId ElabFault → Result Tree ElabFault → Type 0
Gives old new (Ok r) x = Given old new r x
Gives old new (Err e) x = Faults e x

-- the same of a tree with which items of the frame or globals were made
pub record MadeAt (old new : List Tree) (work : Work) (r : TNodeId) (x : Result Made ElabFault) : Type 0 where
  pub grows : Grows old new
  pub within : r.0 < length new
  pub is : x ≡ Ok (record { tree = tree_at new r; work = work })

abbrev pub Makes : List Tree → List Tree → Work → Result TNodeId ElabFault → Result Made ElabFault → Type 0
Makes old new work (Ok r) x = MadeAt old new work r x
Makes old new work (Err e) x = Faults e x

-- each place is one of the list
abbrev pub are_within : ℕ → List TNodeId → Bool
are_within n ids = list_all (λ (id : TNodeId). nat_lt id.0 n) ids

-- a value is what is to be answered
abbrev pub Tells : {A : Type 0} → Result A ElabFault → Result A ElabFault → Type 0
Tells (Ok a) x = x ≡ Ok a
Tells (Err e) x = Faults e x

-- Where nothing can be refused but for want of memory

-- these trees were added or stood there before
pub record AddsAll (old new : List Tree) (ids : List TNodeId) (trees : Trees) : Type 0 where
  pub grows : Grows old new
  pub within : are_within (length new) ids ≡ true
  pub are : trees_at new ids ≡ trees

-- a tree was added, or stood there before, and this was made with it
pub record Puts (old new : List Tree) (work : Work) (r : TNodeId) (m : Made) : Type 0 where
  pub grows : Grows old new
  pub within : r.0 < length new
  pub is : tree_at new r ≡ m.tree
  pub work_is : work ≡ m.work

-- Several trees that are to be answered

pub record AllMade (old new : List Tree) (work : Work) (ids : List TNodeId) (x : Result MadeAll ElabFault) : Type 0 where
  pub grows : Grows old new
  pub within : are_within (length new) ids ≡ true
  pub is : x ≡ Ok (record { trees = trees_at new ids; work = work })

abbrev pub MakesAll : List Tree → List Tree → Work → Result (Vec TNodeId Global) ElabFault → Result MadeAll ElabFault → Type 0
MakesAll old new work (Ok v) x = AllMade old new work v.items x
MakesAll old new work (Err e) x = Faults e x
