-- Lambdas lead from good states to good ones.
use Rattle.std.proofs.Common.{◌≡◌, refl, sym, ap, subst, ℕ, true, List, Option, Some, None, Ok}
use Rattle.elab_rules.specs.cpp_lex.Tokens.{Lexeme}
use Rattle.elab_rules.specs.cpp_ast.declared.arena.At.{At as SyntaxAt}
use Rattle.elab_rules.specs.cpp_ast.declared.kinds.NodeKind.TheVariants as k
use Rattle.elab_rules.specs.cpp_ast.Trees as syntax
use Rattle.elab_rules.specs.cpp_tree.declared.program.FuncKind.TheVariants.{ClosureCall}
use Rattle.elab_rules.specs.cpp_tree.Units.{Func as UnitFunc}
use Rattle.elab_rules.specs.elab_ctx.Ctx.{Lambda}
use Rattle.elab_rules.specs.elab_ctx.Steps.{at_of}
use Rattle.elab_rules.specs.Lambdas.{lambdas_of, lambdas_among, lambda_of}
use Rattle.elab_rules.specs.Statements.{State}
use Rattle.elab_fits.specs.Standing.{On}
use Rattle.elab_fits.proofs.Steps.{bind, answered}
use Rattle.elab_contexts.specs.Holding.{StateHolds}
use Rattle.elab_contexts.specs.Overriders.{HasOverriders}
use Rattle.elab_contexts.proofs.Holding as units
use Rattle.elab_holds.specs.Locals.{LocalsHold}
use Rattle.elab_sound_types.specs.States.{Kept, IsSoundAfter}
use Rattle.elab_sound_types.proofs.Bodies as sound
use Rattle.elab_sound_types.proofs.States.{on_all}
use Rattle.state_growth.specs.States.{Goes}
use Rattle.state_growth.proofs.Going as growth
use Rattle.elab_fits_states.specs.States.{IsText, AreTexts, IsGood, Comes}
use Rattle.elab_fits_states.specs.Made.{AllBodiesFit}
use Rattle.elab_fits_states.proofs.Good.{carried}
use Rattle.elab_fits_states.proofs.Lambdas.{lambdas_keep}
use Rattle.elab_fits_states.proofs.Texts.{kids, first, rest}
use Rattle.elab_fits_states.proofs.Spelled.{spelled}
use Rattle.elab_fits_lambdas.specs.Made.{IsLambda}
use Rattle.elab_fits_lambdas.specs.Lambdas.{LambdasAreGood}
use Rattle.elab_fits_lambdas.proofs.Bodies.{done, behind, behind_is, bodies_behind}
use Rattle.elab_fits_lambdas.proofs.Closures.{one_at_hand}
use Rattle.elab_fits_lambdas.proofs.Hand.{are_complete}
use Rattle.elab_fits_lambdas.proofs.Made.{lambdas_are_made}

none_around : (A : Type 0) (o : Option Lambda) → ((l : Lambda) → o ≡ Some l → A) → (A → ⊥) → o ≡ None
none_around A (Some l) h n = absurd (n (h l refl))
none_around A None h n = refl

module _ (f : UnitFunc) (s : List Lexeme) (n : f.kind ≡ ClosureCall → ⊥) where
  -- states behind all lambdas of a tree come of the one before
  after : (a z : State) (e : syntax.Tree) → IsGood f a → IsText s e → lambdas_of s a e ≡ Ok z → IsSoundAfter true a z
  after a z e g t q = sound.lambdas_law s a e z g.sound (spelled s e t.spelled) q

  comes : (a z : State) (e : syntax.Tree) → IsGood f a → IsText s e → lambdas_of s a e ≡ Ok z → Comes a z
  comes a z e g t q = record { goes = answered (Goes a) (lambdas_of s a e) z (growth.lambdas_law s a e) q; kept = (after a z e g t q).grown.kept }

  module _ (st : State) (p : SyntaxAt) (token : Option ℕ) (ts : syntax.Trees) (g : IsGood f st) (t : IsText s (syntax.node k.Lambda p token ts)) (y : State)
      (q : lambda_of s st (at_of p) ts ≡ Ok y) where
    abbrev one : syntax.Tree
    one = syntax.node k.Lambda p token ts

    texts : AreTexts s ts
    texts = kids s k.Lambda p token ts t

    made : IsLambda s st ts y
    made = answered (IsLambda s st ts) (lambda_of s st (at_of p) ts) y (lambdas_are_made s st (at_of p) ts) q

    abbrev now : State
    now = behind f s st ts y g texts made

    same : y ≡ now
    same = behind_is f s st ts y g texts made

    kept : Kept st.ctx.classes now.ctx.classes
    kept = subst (λ (z : State). Kept st.ctx.classes z.ctx.classes) same (comes st y one g t q).kept

    locals_behind : LocalsHold now.ctx now.work
    locals_behind = record {
      variables = g.locals.variables;
      this = g.locals.this;
      inside = λ m o. kept.complete m (g.locals.inside m o);
      lambda = λ l o. kept.complete l.class (g.locals.lambda l o);
    }

    good : IsGood f y
    good = carried f st y g (comes st y one g t q) (answered StateHolds (lambdas_of s st one) y (units.lambdas_law s st one g.unit) q)
        (subst (λ (z : State). HasOverriders z.ctx.funcs) (sym same) (done f s st ts y g texts made).settled.good.overriders) (after st y one g t q).sound
        (subst (λ (z : State). LocalsHold z.ctx z.work) (sym same) locals_behind)
        (one_at_hand s st ts y made (are_complete st.ctx g.unit) (none_around (f.kind ≡ ClosureCall) st.ctx.lambda g.around n) g.closures)
        (ap (λ (z : State). z.ctx.lambda) same) (ap (λ (z : State). z.ctx.returns) same) (ap (λ (z : State). z.ctx.defaults) same)
        (subst AllBodiesFit (sym same) (bodies_behind f s st ts y g texts made))

  mutual
    each_good : (st : State) (e : syntax.Tree) → IsGood f st → IsText s e → On (IsGood f) (lambdas_of s st e)
    each_good st (syntax.node k.Lambda p token ts) g t = on_all (IsGood f) (lambda_of s st (at_of p) ts) (λ y q. good st p token ts g t y q)
    each_good st (syntax.node k.SizeofExpression p token ts) g t = g
    each_good st (syntax.node k.SizeofType p token ts) g t = g
    each_good st (syntax.node kind p token ts) g t = among_good st ts g (kids s kind p token ts t)

    among_good : (st : State) (ts : syntax.Trees) → IsGood f st → AreTexts s ts → On (IsGood f) (lambdas_among s st ts)
    among_good st syntax.none g t = g
    among_good st (syntax.more e ts) g t = bind (IsGood f) (IsGood f) (lambdas_of s st e) _ (each_good st e g (first s e ts t))
        (λ x h. among_good x ts h (rest s e ts t))

pub lambdas_are_good : LambdasAreGood
lambdas_are_good f s n = lambdas_keep f s (λ a z e g t q.
    let i = answered (IsGood f) (lambdas_of s a e) z (each_good f s n a e g t) q in record { overriders = i.overriders; closures = i.closures; bodies = i.bodies })
