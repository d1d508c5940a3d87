use Rattle.std.proofs.Common.{◌≡◌, ◌<◌, ℕ, length, refl, arith}
use Rattle.cpp_syntax.specs.declared.terminal.Terminal.TheVariants as terminal
use Rattle.cpp_syntax.specs.Terminals.{open_bracket}
use Rattle.cpp_syntax.proofs.SingleTerminals.{passed, refused, exactly}
use Rattle.cpp_syntax.proofs.DeclaratorShapes.{partner_inside, bound_found, suffix_bound, suffix_no_bound, suffix_parameters, suffix_unseen}
use Rattle.cpp_syntax.proofs.outline.Outline.behind_suffix.Goals as goal

pub returns-in_default : goal.returns-in_default
returns-in_default c = λ n r. suffix_no_bound (passed open_bracket terminal.OpenBracket refl _ (c.if-is_at.ensures.yes refl)) c.in_default.ensures n r

pub overflow_add-result : goal.overflow_add-result
overflow_add-result c =
    let h : c.in-Some.close < length c.args.self.now.terminals = partner_inside c.args.self.now c.args.at c.in-Some.close c.in-Some.ensures in let
    few = c.is_at.ensures.few in omega (arith, h, few)

pub returns-then-is_at : goal.returns-then-is_at
returns-then-is_at c =
    λ n r. suffix_bound (passed open_bracket terminal.OpenBracket refl _ (c.if-is_at.ensures.yes refl))
    (bound_found (exactly terminal.OpenBracket refl _ (c.if-is_at.ensures.yes refl)) c.in-Some.ensures) n r

pub returns-in_default-behind_parameters : goal.returns-in_default-behind_parameters
returns-in_default-behind_parameters c =
    λ n r. suffix_unseen (refused open_bracket terminal.OpenBracket refl _ (c.if-is_at.ensures.no refl)) c.in_default-behind_parameters.ensures n r

pub returns : goal.returns
returns c = λ n r. suffix_parameters c.in-Some-behind_parameters.ensures c.behind_function_qualifiers.ensures n r
