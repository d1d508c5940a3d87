use Rattle.std.proofs.Common.{◌≡◌, refl}
use Rattle.cpp_syntax.specs.declared.terminal.Terminal.TheVariants as terminal
use Rattle.cpp_syntax.specs.Terminals.{close_paren}
use Rattle.cpp_syntax.proofs.SingleTerminals.{refused}
use Rattle.cpp_syntax.proofs.DeclaratorShapes.{parameters_not_closed}
use Rattle.cpp_syntax.proofs.outline.Outline.parameters_in_parentheses.Goals as goal

pub returns-then-not-is_at-2 : goal.returns-then-not-is_at-2
returns-then-not-is_at-2 c = parameters_not_closed c.in_ok-close.ensures (refused close_paren terminal.CloseParen refl _ (c.if-not-is_at-2.ensures.no refl))
