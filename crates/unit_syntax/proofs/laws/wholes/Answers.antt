use Rattle.std.proofs.Common.{◌≡◌}
use Rattle.cpp_ast.specs.declared.units.Unit.{Unit as UnitRecord}
use Rattle.cpp_ast.specs.Trees.{Trees}
use Rattle.cpp_ast.proofs.NodeTrees.{one_list}
use Rattle.unit_syntax.specs.Whole.{IsWhole}
use Rattle.unit_syntax.proofs.laws.wholes.Goals as goal

one_whole : (unit : UnitRecord) (decls others : Trees) → IsWhole unit decls → IsWhole unit others → ◌≡◌ {A = Trees} decls others
one_whole unit decls others s r = one_list unit.bodies.items unit.nodes unit.decls.items decls others s r

pub returns : goal.returns
returns c = record { one_whole = one_whole }
