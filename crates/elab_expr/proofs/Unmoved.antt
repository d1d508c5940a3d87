-- What stays of the work at hand.
use Rattle.std.proofs.Common.{◌≡◌, Vec, Result, Ok, Err, refl, ◌∙◌, ap}
use Rattle.std.specs.Prelude.{IfOk}
use Rattle.std.specs.declared.alloc.Global.{Global}
use Rattle.elab_rows.specs.cpp_tree.Arena.{trees_of}
use Rattle.elab_rows.specs.cpp_tree.declared.arena.TNode.{TNode}
use Rattle.elab_rows.specs.cpp_tree.declared.faults.ElabFault.{ElabFault}
use Rattle.elab_rows.specs.elab_ctx.declared.env.Work.{Work as WorkRec}
use Rattle.elab_expr.specs.Unmoved.{Unmoved}

-- whatever was answered
pub unmoved_all : {A : Type 0} (r : Result A ElabFault) (a b : WorkRec) → Unmoved a b → IfOk r (λ (x : A). Unmoved a b)
unmoved_all (Ok x) a b u = u
unmoved_all (Err e) a b u = tt

pub unmoved_self : {A : Type 0} (r : Result A ElabFault) (a : WorkRec) → IfOk r (λ (x : A). Unmoved a a)
unmoved_self r a = unmoved_all r a a (record { work = refl; nodes = refl })

pub unmoved_trans : (a b c : WorkRec) → Unmoved a b → Unmoved b c → Unmoved a c
unmoved_trans a b c u v = record { work = v.work ∙ u.work; nodes = v.nodes ∙ u.nodes }

pub unmoved_after : {A : Type 0} (r : Result A ElabFault) (a b c : WorkRec) → Unmoved a b → IfOk r (λ (x : A). Unmoved b c)
    → IfOk r (λ (x : A). Unmoved a c)
unmoved_after (Ok x) a b c u v = unmoved_trans a b c u v
unmoved_after (Err e) a b c u v = tt

-- the trees that stood before stand still
pub unmoved_trees : (a b : WorkRec) → Unmoved a b → trees_of b.nodes.items ≡ trees_of a.nodes.items
unmoved_trees a b u = ap (λ (v : Vec TNode Global). trees_of v.items) u.nodes
