use Rattle.std.proofs.Common.{◌≡◌}
use Rattle.cpp_syntax.proofs.DeclaratorShapes.{list_found, list_missing}
use Rattle.cpp_syntax.proofs.outline.Outline.shaped_parameters.Goals as goal

pub returns-in-Some : goal.returns-in-Some
returns-in-Some c = list_found (rw c.in-Some.is at c.in_ok-next.ensures)

pub returns-in-None : goal.returns-in-None
returns-in-None c = list_missing (rw c.in-None.is at c.in_ok-next.ensures)
