-- What lambdas leave as it was, and that the states behind them are good.
use Rattle.std.proofs.Common.{◌≡◌, refl, ap, ◌∙◌, subst, ℕ, List, Option, Some, None, Ok, slice_get}
use Rattle.elab_rules.specs.cpp_types.Typ.{Typ, Signature}
use Rattle.elab_rules.specs.cpp_types.Class.{held}
use Rattle.elab_rules.specs.cpp_types.declared.classes.At.{At}
use Rattle.elab_rules.specs.cpp_lex.Tokens.{Lexeme}
use Rattle.elab_rules.specs.cpp_ast.declared.kinds.NodeKind.TheVariants as k
use Rattle.elab_rules.specs.cpp_ast.Trees as syntax
use Rattle.elab_rules.specs.cpp_tree.declared.faults.IllRule.TheVariants.{Incomplete}
use Rattle.elab_rules.specs.cpp_tree.Typing.{form_in}
use Rattle.elab_rules.specs.elab_ctx.Ctx.{Ctx, Work, Variable, This, Lambda, known}
use Rattle.elab_rules.specs.elab_ctx.Steps.{check, at_of}
use Rattle.elab_rules.specs.Names.{is_outer}
use Rattle.elab_rules.specs.Operators.{is_complete}
use Rattle.elab_rules.specs.Functions.{within_frame}
use Rattle.elab_rules.specs.Types.{qualifiers_from, no_qualifiers}
use Rattle.elab_rules.specs.Lambdas.{Written, lambdas_of, lambdas_among, lambda_of, lambda_written, lambda_made, lambda_known, lambda_with, lambda_type, result_of}
use Rattle.elab_rules.specs.Lambdas.{refused_at, first_lambda, inside, lambda_entered, declared_closure, body_statements, closure_sized, signature_in}
use Rattle.elab_rules.specs.Lambdas.{explicit_captures, default_in, parameters_among, not_dynamic, result_among, default_captures, used_in, has_mutable}
use Rattle.elab_rules.specs.Lambdas.{kids_of, place_of_tree, closing}
use Rattle.elab_rules.specs.Statements.{State}
use Rattle.elab_fits.specs.Standing.{On}
use Rattle.elab_fits.proofs.Steps.{bind, skip, answered}
use Rattle.elab_rules.specs.cpp_tree.Units.{Func as UnitFunc}
use Rattle.elab_contexts.specs.Holding.{StateHolds}
use Rattle.elab_contexts.proofs.Holding.{lambdas_law as units_behind}
use Rattle.elab_sound_types.specs.States.{Kept}
use Rattle.elab_sound_types.proofs.Bodies.{lambdas_law as sound_lambdas}
use Rattle.elab_fits_statements.specs.Discipline.{StandsAs}
use Rattle.elab_fits_statements.proofs.States.{mapped, stands_then, stands_still}
use Rattle.elab_holds.specs.Locals.{LocalsHold}
use Rattle.state_growth.specs.States.{Goes}
use Rattle.state_growth.proofs.Going.{lambdas_law as lambdas_go}
use Rattle.elab_fits_states.specs.Lambdas.{IsLeft, NoLambdasKeep, LambdasKeep}
use Rattle.elab_fits_states.specs.Premises.{GoesWell}
use Rattle.elab_fits_states.specs.States.{IsText, Comes, IsGood}
use Rattle.elab_fits_states.proofs.Good.{carried, comes_still}
use Rattle.elab_fits_states.proofs.Spelled.{spelled}

refused_same : (st : State) (o : Option At) → On (λ (x : State). st ≡ x) (refused_at st o)
refused_same st (Some at) = tt
refused_same st None = refl

pub no_lambdas_keep : NoLambdasKeep
no_lambdas_keep f s a b e g t h = subst (λ (x : State). GoesWell f a x) (answered (λ (x : State). a ≡ x) (refused_at a (first_lambda e)) b
    (refused_same a (first_lambda e)) h) (record { good = g; leads = comes_still a; stands = stands_still a })

-- a state in the same place of the same function
record IsSame (a b : State) : Type 0 where
  stands : StandsAs a b
  variables : b.ctx.variables ≡ a.ctx.variables
  this : b.ctx.this ≡ a.ctx.this
  class : b.ctx.class ≡ a.ctx.class
  lambda : b.ctx.lambda ≡ a.ctx.lambda
  returns : b.ctx.returns ≡ a.ctx.returns
  defaults : b.ctx.defaults ≡ a.ctx.defaults
  frame : b.work.frame ≡ a.work.frame

same_still : (a : State) → IsSame a a
same_still a = record { stands = stands_still a; variables = refl; this = refl; class = refl; lambda = refl; returns = refl; defaults = refl; frame = refl }

same_then : (a b c : State) → IsSame a b → IsSame b c → IsSame a c
same_then a b c h g = record {
  stands = stands_then a b c h.stands g.stands;
  variables = g.variables ∙ h.variables;
  this = g.this ∙ h.this;
  class = g.class ∙ h.class;
  lambda = g.lambda ∙ h.lambda;
  returns = g.returns ∙ h.returns;
  defaults = g.defaults ∙ h.defaults;
  frame = g.frame ∙ h.frame;
}

with_same : (s : List Lexeme) (st : State) (x : Written) (r : Typ) (sig : Signature) → On (IsSame st) (lambda_with s st x r sig)
with_same s st x r sig = skip (IsSame st) (check x.at Incomplete (is_complete st.ctx (held r))) _
    (λ y. skip (IsSame st) (closure_sized st x sig) _
    (λ z. skip (IsSame st) (body_statements s (inside st (lambda_entered st x (known r) r) (declared_closure st x sig)) x) _
    (λ d. skip (IsSame st) (within_frame d.state.ctx x.at d.state.work.frame) _
    (λ i. record {
      stands = record { label = refl; breaks = refl; continues = refl; typ = refl; past = λ i. i };
      variables = refl;
      this = refl;
      class = refl;
      lambda = refl;
      returns = refl;
      defaults = refl;
      frame = refl;
    }))))

made_same : (s : List Lexeme) (st : State) (x : Written) → On (IsSame st) (lambda_made s st x)
made_same s st x = skip (IsSame st) (result_of s st x x.result) _
    (λ r. bind (IsSame st) (IsSame st) (lambda_known s st x r) _
    (skip (IsSame st) (lambda_type st.ctx x r) _ (λ t. with_same s st x r (signature_in (form_in t))))
    (λ y h. record {
      stands = record { label = h.stands.label; breaks = h.stands.breaks; continues = h.stands.continues; typ = h.stands.typ; past = h.stands.past };
      variables = h.variables;
      this = h.this;
      class = h.class;
      lambda = h.lambda;
      returns = h.returns;
      defaults = h.defaults;
      frame = h.frame;
    }))

written_same : (s : List Lexeme) (st : State) (at : At) (intro parts : syntax.Trees) (body : syntax.Tree)
    → On (IsSame st) (lambda_written s st at intro parts body)
written_same s st at intro parts body =
    skip (IsSame st) (explicit_captures s st.ctx (default_in s intro) intro) _
    (λ xs. skip (IsSame st) (parameters_among s st.ctx st.work parts) _
    (λ ps. skip (IsSame st) (not_dynamic at (qualifiers_from s no_qualifiers parts)) _ (λ y.
    skip (IsSame st) (result_among s st.ctx st.work parts) _
    (λ r. skip (IsSame st) (default_captures st.ctx (default_in s intro) xs (used_in s st.ctx ps body)) _ (λ ys. made_same s st (record {
      at = at;
      captures = ys;
      params = ps;
      qualifiers = qualifiers_from s no_qualifiers parts;
      is_mutable = has_mutable parts;
      result = r;
      body = kids_of body;
      body_at = place_of_tree body;
      closed = closing s body;
    }))))))

one_same : (s : List Lexeme) (st : State) (at : At) (kids : syntax.Trees) → On (IsSame st) (lambda_of s st at kids)
one_same s st at (syntax.more intro (syntax.more parts (syntax.more body syntax.none))) = written_same s st at (kids_of intro) (kids_of parts) body
one_same s st at (syntax.more intro (syntax.more body syntax.none)) = written_same s st at (kids_of intro) syntax.none body
one_same s st at kids = tt

mutual
  each_same : (s : List Lexeme) (st : State) (t : syntax.Tree) → On (IsSame st) (lambdas_of s st t)
  each_same s st (syntax.node k.Lambda p token kids) = one_same s st (at_of p) kids
  each_same s st (syntax.node k.SizeofExpression p token kids) = same_still st
  each_same s st (syntax.node k.SizeofType p token kids) = same_still st
  each_same s st (syntax.node kind p token kids) = among_same s st kids

  among_same : (s : List Lexeme) (st : State) (ts : syntax.Trees) → On (IsSame st) (lambdas_among s st ts)
  among_same s st syntax.none = same_still st
  among_same s st (syntax.more t ts) = bind (IsSame st) (IsSame st) (lambdas_of s st t) _ (each_same s st t)
      (λ x h. mapped (IsSame x) (IsSame st) (lambdas_among s x ts) (among_same s x ts) (λ y j. same_then st x y h j))

-- the function at hand is the same
locals_same : (c d : Ctx) (w v : Work) → Kept c.classes d.classes → d.variables ≡ c.variables → d.this ≡ c.this → d.class ≡ c.class → d.lambda ≡ c.lambda
    → v.frame ≡ w.frame → LocalsHold c w → LocalsHold d v
locals_same c d w v k x t n l f h = record {
  variables = λ i y u o e g. let p = h.variables i y u (subst (λ (z : Option Lambda). is_outer i z ≡ None) l o)
      (subst (λ (zs : List Variable). slice_get zs i ≡ Some y) x e) g in record { item = p.item; at = ap (λ (zs : List Typ). slice_get zs y.place) f ∙ p.at; is = p.is };
  this = λ u e. ap (λ (zs : List Typ). slice_get zs u.place) f ∙ h.this u (subst (λ (z : Option This). z ≡ Some u) t e);
  inside = λ m e. k.complete m (h.inside m (subst (λ (z : Option ℕ). z ≡ Some m) n e));
  lambda = λ u e. k.complete u.class (h.lambda u (subst (λ (z : Option Lambda). z ≡ Some u) l e));
}

-- one state behind lambdas
pub good_behind : (f : UnitFunc) (s : List Lexeme) (a z : State) (e : syntax.Tree) → IsGood f a → IsText s e
    → lambdas_of s a e ≡ Ok z → IsLeft z → GoesWell f a z
good_behind f s a z e g t i x = record { good = good; leads = l; stands = same.stands }
  where
    same : IsSame a z
    same = answered (IsSame a) (lambdas_of s a e) z (each_same s a e) i

    l : Comes a z
    l = record { goes = answered (Goes a) (lambdas_of s a e) z (lambdas_go s a e) i; kept = (sound_lambdas s a e z g.sound (spelled s e t.spelled) i).grown.kept }

    good : IsGood f z
    good = carried f a z g l (answered StateHolds (lambdas_of s a e) z (units_behind s a e g.unit) i) x.overriders
        (sound_lambdas s a e z g.sound (spelled s e t.spelled) i).sound
        (locals_same a.ctx z.ctx a.work z.work l.kept same.variables same.this same.class same.lambda same.frame g.locals) x.closures same.lambda same.returns
        same.defaults x.bodies

pub lambdas_keep : LambdasKeep
lambdas_keep f s left a z e g t i = good_behind f s a z e g t i (left a z e g t i)
