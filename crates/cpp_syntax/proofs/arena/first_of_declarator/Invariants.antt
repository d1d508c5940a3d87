use Rattle.cpp_ast.specs.Trees.{Trees, ShowsAll}
use Rattle.cpp_syntax.proofs.DeclaredNames.{Behind}
use Rattle.cpp_syntax.proofs.arena.first_of_declarator.Given as goal

abbrev pub invariant-loop-id : goal.invariant-loop-id
invariant-loop-id l = (trees : Trees) → ShowsAll l.nodes l.ids trees → Behind l.nodes l.ids l.id-index trees
