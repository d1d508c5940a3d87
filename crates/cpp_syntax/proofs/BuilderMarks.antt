-- What a builder shows, by what it is made of.
use Rattle.std.proofs.Common.{◌≡◌, ℕ, ◌+◌, ◌≤◌, List, [], ◌∷◌, ◌++◌, length, map, take, drop, get_or, refl, sym, ◌∙◌, ap, subst, arith, true}
use Rattle.std.proofs.lemmas.List.{length-map}
use Rattle.cpp_ast.specs.declared.arena.Node.{Node}
use Rattle.cpp_ast.specs.declared.arena.NodeId.{NodeId}
use Rattle.cpp_syntax.specs.declared.positions.Checkpoint.{Checkpoint}
use Rattle.cpp_syntax.specs.declared.positions.OpenBody.{OpenBody}
use Rattle.cpp_syntax.specs.View.{BuilderState, builder_state, count_trees, count_lambdas_in, IsMark, IsBuilt, lams_of, body_of, trees_at, trees_from}
use Rattle.cpp_syntax.specs.View.{values_at, values_from, no_tree, tree_made, lambdas_at}
use Rattle.cpp_syntax.proofs.TreeLists.{count_of, as_many}

pub trees_count : (nodes : List Node) (ids : List NodeId) → count_trees (trees_at nodes ids) ≡ length ids
trees_count nodes ids = count_of (trees_from nodes ids) ∙ length-map ids (λ (id : NodeId). get_or (values_from no_tree tree_made [] nodes) id.0 no_tree)

pub bodies_count : (nodes : List Node) (ids : List NodeId) (bodies : List OpenBody) → lams_of bodies ≡ lambdas_at nodes ids
    → length (map (body_of nodes) bodies) ≡ count_lambdas_in (trees_at nodes ids)
bodies_count nodes ids bodies h =
    length-map bodies (body_of nodes) ∙ sym (length-map bodies (λ (body : OpenBody). body.lam.0)) ∙ ap (λ (ns : List ℕ). length ns) h ∙ as_many nodes ids

pub mark_behind : (base : ℕ) (nodes : List Node) (ids : List NodeId) (totals : List ℕ) (bodies : List OpenBody) (built : BuilderState) (trees : ℕ)
    → builder_state base nodes ids bodies ≡ built → IsBuilt base nodes ids totals bodies → trees ≡ length ids
    → IsMark (record { trees = trees }) built
mark_behind base nodes ids totals bodies built trees shown inv e = subst (IsMark (record { trees = trees })) shown (record {
  trees = trees_count nodes ids ∙ sym e;
  bodies = bodies_count nodes ids bodies inv.lambdas;
})
