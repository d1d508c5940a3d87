use Rattle.std.proofs.Common.{◌≡◌, ◌<◌, length, true}
use Rattle.cpp_ast.specs.Trees.{Tree, Shows}
use Rattle.cpp_syntax.specs.Derivations.{is_of_declarator}
use Rattle.cpp_syntax.proofs.DeclaredNames.{LeadsTo}
use Rattle.cpp_syntax.proofs.arena.name_of_node.Given as goal

abbrev pub invariant-names : goal.invariant-names
invariant-names l = (l.at.0 < length l.nodes) × ((tree : Tree) → Shows l.nodes l.fn.id.0 tree → is_of_declarator tree ≡ true → LeadsTo l.nodes l.at.0 tree)

abbrev pub decreases-names : goal.decreases-names
decreases-names l = l.at.0
