use Rattle.std.proofs.Common.{◌≡◌, ◌<◌, ℕ, length, refl, sym, arith}
use Rattle.cpp_syntax.specs.declared.terminal.Terminal.TheVariants as terminal
use Rattle.cpp_syntax.specs.Terminals.{is_chosen, question, colon}
use Rattle.cpp_syntax.proofs.SingleTerminals.{passed, refused}
use Rattle.cpp_syntax.proofs.IndependentDerivations.{free_none}
use Rattle.cpp_syntax.proofs.Recognisers.{behind_any, many_starts, many_goes, many_stops}
use Rattle.cpp_syntax.proofs.DeclaratorShapes.{partner_inside}
use Rattle.cpp_syntax.proofs.DeclarationShapes.{chosen_token, chosen_starts, token_brackets, token_none, token_choice, choice_missing, choice_found}
use Rattle.cpp_syntax.proofs.DeclarationShapes.{choice_open}
use Rattle.cpp_syntax.proofs.outline.Outline.+shaped_choices.Goals as goal

pub shaped_choice-returns-then-not-is_at : goal.shaped_choice-returns-then-not-is_at
shaped_choice-returns-then-not-is_at t c = choice_missing (refused question terminal.Question refl _ (c.if-not-is_at.ensures.no refl))

pub shaped_choice-returns-then-not-is_at-2 : goal.shaped_choice-returns-then-not-is_at-2
shaped_choice-returns-then-not-is_at-2 t c =
    choice_open (passed question terminal.Question refl _ (c.if-not-is_at.ensures.yes refl)) c.in_ok-colon.ensures
    (refused colon terminal.Colon refl _ (c.if-not-is_at-2.ensures.no refl))

pub shaped_choice-returns : goal.shaped_choice-returns
shaped_choice-returns t c =
    choice_found (passed question terminal.Question refl _ (c.if-not-is_at.ensures.yes refl)) c.in_ok-colon.ensures
    (passed colon terminal.Colon refl _ (c.if-not-is_at-2.ensures.yes refl))

pub behind_chosen-tokens-init : goal.behind_chosen-tokens-init
behind_chosen-tokens-init t c = many_starts

pub behind_chosen-returns-in_default : goal.behind_chosen-returns-in_default
behind_chosen-returns-in_default t c = many_stops c.tokens.invariant (free_none refl (rw c.in_default.is at c.in_ok-behind.ensures) c.tokens.invariant.got)

pub behind_chosen-tokens-smaller : goal.behind_chosen-tokens-smaller
behind_chosen-tokens-smaller t c = let h = chosen_starts (rw c.in-Some.is at c.in_ok-behind.ensures) in let i = h.0 in let j = h.1 in omega (arith, i, j)

pub behind_chosen-tokens-preserved : goal.behind_chosen-tokens-preserved
behind_chosen-tokens-preserved t c = many_goes c.tokens.invariant (behind_any (rw c.in-Some.is at c.in_ok-behind.ensures) refl c.tokens.invariant.got) refl refl

pub chosen_token-returns-then-is_chosen_at : goal.chosen_token-returns-then-is_chosen_at
chosen_token-returns-then-is_chosen_at t c = chosen_token (sym c.if-is_chosen_at.ensures.test)

pub chosen_token-returns-then-is_at : goal.chosen_token-returns-then-is_at
chosen_token-returns-then-is_at t c =
    token_choice c.args.self.now is_chosen c.args.at (sym c.if-is_chosen_at.ensures.test)
    (passed question terminal.Question refl _ (c.if-is_at.ensures.yes refl)) c.shaped_choice.result c.shaped_choice.ensures

pub chosen_token-returns-in_default : goal.chosen_token-returns-in_default
chosen_token-returns-in_default t c =
    token_none (sym c.if-is_chosen_at.ensures.test) (refused question terminal.Question refl _ (c.if-is_at.ensures.no refl)) c.in_default.ensures

pub chosen_token-overflow_add-result-2 : goal.chosen_token-overflow_add-result-2
chosen_token-overflow_add-result-2 t c =
    let h : c.in-Some.close < length c.args.self.now.terminals = partner_inside c.args.self.now c.args.at c.in-Some.close c.in-Some.ensures in let
    few = c.is_chosen_at.ensures.few in omega (arith, h, few)

pub chosen_token-returns : goal.chosen_token-returns
chosen_token-returns t c =
    token_brackets (sym c.if-is_chosen_at.ensures.test) (refused question terminal.Question refl _ (c.if-is_at.ensures.no refl)) c.in-Some.ensures
