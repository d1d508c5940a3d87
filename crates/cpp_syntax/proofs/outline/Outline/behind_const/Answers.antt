use Rattle.std.proofs.Common.{◌≡◌, refl}
use Rattle.cpp_syntax.specs.declared.terminal.Terminal.TheVariants as terminal
use Rattle.cpp_syntax.specs.Terminals.{const_word}
use Rattle.cpp_syntax.proofs.SingleTerminals.{passed, refused}
use Rattle.cpp_syntax.proofs.DeclaratorShapes.{leaf_taken, leaf_left_out}
use Rattle.cpp_syntax.proofs.outline.Outline.behind_const.Goals as goal

pub returns-then-is_at : goal.returns-then-is_at
returns-then-is_at c = leaf_taken (passed const_word terminal.Const refl _ (c.if-is_at.ensures.yes refl))

pub returns-else-is_at : goal.returns-else-is_at
returns-else-is_at c = leaf_left_out (refused const_word terminal.Const refl _ (c.if-is_at.ensures.no refl))
