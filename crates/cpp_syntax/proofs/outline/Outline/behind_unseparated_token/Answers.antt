use Rattle.std.proofs.Common.{◌≡◌, ◌<◌, ℕ, length, refl, sym, arith}
use Rattle.cpp_syntax.specs.declared.terminal.Terminal.TheVariants as terminal
use Rattle.cpp_syntax.specs.Terminals.{is_unseparated, question}
use Rattle.cpp_syntax.proofs.SingleTerminals.{passed, refused}
use Rattle.cpp_syntax.proofs.DeclaratorShapes.{partner_inside}
use Rattle.cpp_syntax.proofs.DeclarationShapes.{unseparated_token, token_brackets, token_none, token_choice}
use Rattle.cpp_syntax.proofs.outline.Outline.behind_unseparated_token.Goals as goal

pub returns-then-is_unseparated_at : goal.returns-then-is_unseparated_at
returns-then-is_unseparated_at c = unseparated_token (sym c.if-is_unseparated_at.ensures.test)

pub returns-then-is_at : goal.returns-then-is_at
returns-then-is_at c =
    token_choice c.args.self.now is_unseparated c.args.at (sym c.if-is_unseparated_at.ensures.test)
    (passed question terminal.Question refl _ (c.if-is_at.ensures.yes refl)) c.shaped_choice.result c.shaped_choice.ensures

pub returns-in_default : goal.returns-in_default
returns-in_default c =
    token_none (sym c.if-is_unseparated_at.ensures.test) (refused question terminal.Question refl _ (c.if-is_at.ensures.no refl)) c.in_default.ensures

pub overflow_add-result-2 : goal.overflow_add-result-2
overflow_add-result-2 c =
    let h : c.in-Some.close < length c.args.self.now.terminals = partner_inside c.args.self.now c.args.at c.in-Some.close c.in-Some.ensures in let
    few = c.is_unseparated_at.ensures.few in omega (arith, h, few)

pub returns : goal.returns
returns c = token_brackets (sym c.if-is_unseparated_at.ensures.test) (refused question terminal.Question refl _ (c.if-is_at.ensures.no refl)) c.in-Some.ensures
