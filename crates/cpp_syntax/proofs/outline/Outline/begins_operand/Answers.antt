use Rattle.std.proofs.Common.{◌≡◌, refl, sym, ◌∙◌, ap}
use Rattle.std.proofs.lemmas.Bool.{not-true, not-false}
use Rattle.cpp_syntax.specs.declared.terminal.Terminal.TheVariants as terminal
use Rattle.cpp_syntax.specs.Terminals.{begins_operand, open_paren, close_paren}
use Rattle.cpp_syntax.specs.Lookahead.{at_token, at_parenthesis}
use Rattle.cpp_syntax.proofs.SingleTerminals.{passed, refused}
use Rattle.cpp_syntax.proofs.Operands.{same_operand, operand_behind, no_operand, no_operand_at}
use Rattle.cpp_syntax.proofs.outline.Outline.begins_operand.Goals as goal

pub steps-init : goal.steps-init
steps-init c = same_operand _ _

pub steps-preserved : goal.steps-preserved
steps-preserved c = operand_behind _ _ _ c.steps.invariant (sym c.steps-test.ensures.test)

pub returns-then-is_at-clause-yes : goal.returns-then-is_at-clause-yes
returns-then-is_at-clause-yes c h =
    c.steps.invariant.back_from (at_parenthesis (passed open_paren terminal.OpenParen refl _ (c.if-is_at.ensures.yes refl))
    (refused close_paren terminal.CloseParen refl _ (c.is_at-then-is_at.ensures.no (not-true _ h))))

pub returns-then-is_at-clause-no : goal.returns-then-is_at-clause-no
returns-then-is_at-clause-no c h =
    no_operand _ _ _ c.steps.invariant (passed open_paren terminal.OpenParen refl _ (c.if-is_at.ensures.yes refl))
    (passed close_paren terminal.CloseParen refl _ (c.is_at-then-is_at.ensures.yes (not-false _ h)))

pub returns-clause-yes : goal.returns-clause-yes
returns-clause-yes c h = c.steps.invariant.back_from (at_token (ap begins_operand (sym c.terminal.ensures.terminal) ∙ sym c.begins_operand.ensures ∙ h))

pub returns-clause-no : goal.returns-clause-no
returns-clause-no c h =
    no_operand_at _ _ _ c.steps.invariant (sym c.steps-test.ensures.test) (refused open_paren terminal.OpenParen refl _ (c.if-is_at.ensures.no refl))
    (ap begins_operand (sym c.terminal.ensures.terminal) ∙ sym c.begins_operand.ensures ∙ h)
