use Rattle.std.proofs.Common.{◌≡◌, ◌<◌, ℕ, length, refl, arith}
use Rattle.cpp_syntax.specs.declared.terminal.Terminal.TheVariants as terminal
use Rattle.cpp_syntax.specs.Terminals.{open_paren}
use Rattle.cpp_syntax.proofs.SingleTerminals.{refused}
use Rattle.cpp_syntax.proofs.DeclaratorShapes.{partner_inside}
use Rattle.cpp_syntax.proofs.DeclarationShapes.{nothing_there, parentheses_empty, parentheses_open, parentheses_found}
use Rattle.cpp_syntax.proofs.outline.Outline.behind_parentheses.Goals as goal

pub returns-then-not-is_at : goal.returns-then-not-is_at
returns-then-not-is_at c = nothing_there c.requires.other (refused open_paren terminal.OpenParen refl _ (c.if-not-is_at.ensures.no refl))

pub returns-in_default : goal.returns-in_default
returns-in_default c = parentheses_open c.requires.other c.in_default.ensures

pub overflow_add-result : goal.overflow_add-result
overflow_add-result c =
    let h : c.in-Some.close < length c.args.self.now.terminals = partner_inside c.args.self.now c.args.at c.in-Some.close c.in-Some.ensures in let
    few = c.is_at.ensures.few in omega (arith, h, few)

pub returns-then-close-at : goal.returns-then-close-at
returns-then-close-at c = parentheses_empty c.requires.other c.in-Some.ensures c.if-close-at.true

pub returns-else-close-at : goal.returns-else-close-at
returns-else-close-at c = parentheses_found (c.if-not-is_at.ensures.yes refl) c.requires.unseen c.in-Some.ensures c.if-close-at.false
