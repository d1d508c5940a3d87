use Rattle.std.proofs.Common.{◌≡◌, refl}
use Rattle.cpp_syntax.specs.declared.terminal.Terminal.TheVariants as terminal
use Rattle.cpp_syntax.specs.Terminals.{noexcept_word}
use Rattle.cpp_syntax.proofs.SingleTerminals.{passed, refused}
use Rattle.cpp_syntax.proofs.DeclaratorShapes.{leaf_taken, leaf_left_out}
use Rattle.cpp_syntax.proofs.outline.Outline.behind_noexcept.Goals as goal

pub returns-then-is_at : goal.returns-then-is_at
returns-then-is_at c = leaf_taken (passed noexcept_word terminal.Noexcept refl _ (c.if-is_at.ensures.yes refl))

pub returns-else-is_at : goal.returns-else-is_at
returns-else-is_at c = leaf_left_out (refused noexcept_word terminal.Noexcept refl _ (c.if-is_at.ensures.no refl))
