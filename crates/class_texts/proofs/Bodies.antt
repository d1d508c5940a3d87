-- The body of a function is its last part.
use Rattle.std.proofs.Common.{◌≡◌, List, [], ◌∷◌, ◌++◌, Some, refl}
use Rattle.elab_init.specs.cpp_ast.declared.arena.NodeId.{NodeId}
use Rattle.elab_init.specs.cpp_ast.Trees.{Tree}
use Rattle.elab_types.specs.Syntax.{tree_at, trees_at}
use Rattle.elab_init.specs.elab_rules.Classes.{body_in}

pub body_last : (trees : List Tree) (ids : List NodeId) (id : NodeId) → body_in (trees_at trees (ids ++ id ∷ [])) ≡ Some (tree_at trees id)
body_last trees [] id = refl
body_last trees (a ∷ []) id = refl
body_last trees (a ∷ b ∷ ids) id = body_last trees (b ∷ ids) id
