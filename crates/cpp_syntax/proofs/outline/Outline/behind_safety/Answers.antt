use Rattle.std.proofs.Common.{◌≡◌, sym}
use Rattle.cpp_syntax.proofs.DeclaratorShapes.{leaf_taken, leaf_left_out}
use Rattle.cpp_syntax.proofs.outline.Outline.behind_safety.Goals as goal

pub returns-then-is_safety_at : goal.returns-then-is_safety_at
returns-then-is_safety_at c = leaf_taken (sym c.if-is_safety_at.ensures.test)

pub returns-else-is_safety_at : goal.returns-else-is_safety_at
returns-else-is_safety_at c = leaf_left_out (sym c.if-is_safety_at.ensures.test)
