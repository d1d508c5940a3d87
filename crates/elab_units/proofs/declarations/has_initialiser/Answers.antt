use Rattle.std.proofs.Common.{List, ap, sym}
use Rattle.elab_entry.specs.cpp_ast.declared.arena.NodeId.{NodeId}
use Rattle.elab_entry.specs.elab_types.Syntax.{trees_at}
use Rattle.elab_leaving.specs.Declaring.{has_trees}
use Rattle.elab_units.proofs.declarations.has_initialiser.Goals as goal

pub returns-in-Some : goal.returns-in-Some
returns-in-Some c trees = ap (λ (z : List NodeId). has_trees (trees_at trees z)) (sym c.in-Some.ensures.kid)

pub returns-in-None : goal.returns-in-None
returns-in-None c trees = ap (λ (z : List NodeId). has_trees (trees_at trees z)) (sym c.in-None.ensures.kid)
