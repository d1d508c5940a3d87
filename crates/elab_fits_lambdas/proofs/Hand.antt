-- All lambdas of a full-expression are at hand behind them.
use Rattle.std.proofs.Common.{◌≡◌, refl, ap, ◌∙◌, ℕ, true, List, [], ◌∷◌, length, None}
use Rattle.elab_rules.specs.cpp_lex.Tokens.{Lexeme}
use Rattle.elab_rules.specs.cpp_ast.declared.kinds.NodeKind.TheVariants as k
use Rattle.elab_rules.specs.cpp_ast.Trees as syntax
use Rattle.elab_rules.specs.elab_ctx.Ctx.{Ctx}
use Rattle.elab_rules.specs.elab_ctx.Steps.{at_of}
use Rattle.elab_rules.specs.Lambdas.{lambdas_of, lambdas_among, lambda_of, with_written}
use Rattle.elab_rules.specs.Statements.{State}
use Rattle.elab_fits.specs.Standing.{On}
use Rattle.elab_fits.proofs.Steps.{bind, answered}
use Rattle.elab_contexts.specs.Holding.{UnitHolds, StateHolds}
use Rattle.elab_contexts.specs.Texts.{is_no_name}
use Rattle.elab_contexts.proofs.Holding.{lambdas_law}
use Rattle.elab_fits_forms.specs.Types.{is_empty}
use Rattle.elab_fits_forms.specs.Expressions.{ClosuresHold}
use Rattle.elab_sound_types.proofs.States.{on_all}
use Rattle.elab_fits_lambdas.specs.Made.{IsLambda, AreComplete, AllAtHand}
use Rattle.elab_fits_lambdas.proofs.Closures.{one_at_hand}
use Rattle.elab_fits_statements.proofs.States.{mapped}
use Rattle.elab_fits_lambdas.proofs.Made.{lambdas_are_made}

empty_is : (name : List ℕ) → is_empty name ≡ true → is_no_name name ≡ true
empty_is [] h = refl
empty_is (c ∷ cs) h = absurd cc

pub are_complete : (c : Ctx) → UnitHolds c → AreComplete c.classes
are_complete c h = λ n k e q. h.nameless n k e (empty_is k.name q)

record IsAtHand (st : State) : Type 0 where
  unit : UnitHolds st.ctx
  outside : st.ctx.lambda ≡ None
  held : ClosuresHold st.ctx st.ctx.closures

-- no lambda is around behind one that stands in none
outside_still : (s : List Lexeme) (st : State) (ts : syntax.Trees) (y : State) → IsLambda s st ts y → st.ctx.lambda ≡ None → y.ctx.lambda ≡ None
outside_still s st ts y h o = ap (λ (z : State). z.ctx.lambda) h.made.is
    ∙ ap (λ (z : State). (with_written z (length st.ctx.classes) h.text).ctx.lambda) h.made.known.is ∙ o

module _ (s : List Lexeme) where
  mutual
    each_held : (st : State) (e : syntax.Tree) → IsAtHand st → On IsAtHand (lambdas_of s st e)
    each_held st (syntax.node k.Lambda p token ts) h = on_all IsAtHand (lambda_of s st (at_of p) ts) (λ y q.
        let l = answered (IsLambda s st ts) (lambda_of s st (at_of p) ts) y (lambdas_are_made s st (at_of p) ts) q in record {
          unit = answered StateHolds (lambda_of s st (at_of p) ts) y (lambdas_law s st (syntax.node k.Lambda p token ts) h.unit) q;
          outside = outside_still s st ts y l h.outside;
          held = one_at_hand s st ts y l (are_complete st.ctx h.unit) h.outside h.held;
        })
    each_held st (syntax.node k.SizeofExpression p token ts) h = h
    each_held st (syntax.node k.SizeofType p token ts) h = h
    each_held st (syntax.node kind p token ts) h = among_held st ts h

    among_held : (st : State) (ts : syntax.Trees) → IsAtHand st → On IsAtHand (lambdas_among s st ts)
    among_held st syntax.none h = h
    among_held st (syntax.more e ts) h = bind IsAtHand IsAtHand (lambdas_of s st e) _ (each_held st e h) (λ x i. among_held x ts i)

pub all_at_hand : AllAtHand
all_at_hand s st e u o h = mapped IsAtHand (λ (y : State). ClosuresHold y.ctx y.ctx.closures) (lambdas_of s st e)
    (each_held s st e (record { unit = u; outside = o; held = h })) (λ y i. i.held)
