-- Bodies.
use Rattle.std.proofs.Common.{◌≡◌, ℕ, zero, suc, ◌<◌, Bool, true, false, List, [], ◌∷◌, length, Some, refl, sym, ap, ◌∙◌, arith}
use Rattle.std.specs.Prelude.{slice_get}
use Rattle.cpp_tree.specs.declared.arena.TNode.{TNode}
use Rattle.cpp_tree.specs.declared.arena.TNodeId.{TNodeId}
use Rattle.cpp_tree.specs.declared.kinds.TKind.{TKind}
use Rattle.cpp_tree.specs.declared.kinds.TKind.TheVariants.{Block}
use Rattle.cpp_tree.specs.declared.program.FuncKind.{FuncKind}
use Rattle.cpp_tree.specs.declared.roles.Role.TheVariants.{Statement}
use Rattle.cpp_tree.specs.Trees.{Tree, node, kind_of}
use Rattle.cpp_tree.specs.Arena.{IsOrdered, Shows, trees_of, tree_at, trees_at}
use Rattle.cpp_tree.specs.Typing.{head_of}
use Rattle.cpp_tree.specs.Rows.{result_of}
use Rattle.cpp_tree.specs.WellFormed.{setting_of, outermost, is_body_of}
use Rattle.cpp_tree.proofs.Shown.{shows_tree, tree_of_node}
use Rattle.low_code.specs.Nodes.{Node, node_of, node_or}
use Rattle.unwind_lower.specs.Settings.{Setting, node_in}
use Rattle.lowered_trees.specs.Bodies.{IsTree, MayBeLowered, RunsWhole}
use Rattle.lowered_trees.proofs.Known.{Kid, statement}
use Rattle.lowered_trees.proofs.Nodes.{follows}
use Rattle.lowered_trees.proofs.Zeros.{zeros_run}
use Rattle.lowered_trees.proofs.Temporaries.{covered}

found : (ns : List TNode) (i : ℕ) → i < length ns → (n : TNode) × (slice_get ns i ≡ Some n)
found [] i h = absurd (omega arith)
found (n ∷ ns) zero h = (n, refl)
found (n ∷ ns) (suc i) h = found ns i (omega arith)

node_found : (g : Setting) (id : TNodeId) (n : TNode) → slice_get g.unit.nodes.items id.0 ≡ Some n → node_in g id ≡ node_of n
unfolding node_in
node_found g id n e = ap node_or e

pub is_tree : (g : Setting) (id : TNodeId) → IsOrdered g.unit.nodes.items → id.0 < length g.unit.nodes.items → IsTree g id
is_tree g id o h =
    let n = found g.unit.nodes.items id.0 h in
    let e = node_found g id n.0 n.1 in
    record {
      cat = (n.0).cat;
      is = tree_of_node g.unit.nodes.items id n.0 o n.1
          ∙ ap (λ (m : Node). node m.kind m.typ (n.0).cat m.at (trees_at (trees_of g.unit.nodes.items) m.kids)) (sym e);
    }

block_of : (f : FuncKind) (kind : TKind) → is_body_of f kind ≡ true → (b : Bool) × (kind ≡ Block b)
block_of f (Block b) e = (b, refl)
block_of f kind e = absurd cc

head_kind : (t : Tree) → (head_of t).kind ≡ kind_of t
head_kind (node kind t cat at kids) = refl

pub body_runs : (g : Setting) (root : TNodeId) → MayBeLowered g root → RunsWhole g root
body_runs g root m =
    let s = setting_of g.program g.unit g.func in
    let t = tree_at (trees_of g.unit.nodes.items) root in
    let shown : Shows g.unit.nodes.items root.0 t = shows_tree g.unit.nodes.items root m.ordered m.within in
    let k : Kid g outermost Statement false root (head_of t) =
    follows g (λ p role id u. covered g m.ordered m.temporaries p role id u) (λ p id u. zeros_run g s.classes false (result_of s.function) p id u) t
    outermost Statement false root shown m.well_formed.nodes m.suits in
    let b = block_of s.function.kind (kind_of t) m.well_formed.block in
    record { subobjects = b.0; block = k.kind_is ∙ head_kind t ∙ b.1; runs = k.comes statement }
