-- One lambda, taken apart.
use Rattle.std.proofs.Common.{◌≡◌, refl, sym, subst, not, List, Ok}
use Rattle.elab_rules.specs.cpp_types.Typ.{Typ, func}
use Rattle.elab_rules.specs.cpp_types.Class.{held}
use Rattle.elab_rules.specs.cpp_types.declared.classes.At.{At}
use Rattle.elab_rules.specs.cpp_lex.Tokens.{Lexeme}
use Rattle.elab_rules.specs.cpp_ast.Trees as syntax
use Rattle.elab_rules.specs.cpp_tree.declared.faults.IllRule.TheVariants.{Incomplete, BadDeclaration, OutOfProfile, AbstractObject}
use Rattle.elab_rules.specs.cpp_tree.Notation.{plain}
use Rattle.elab_rules.specs.cpp_tree.Typing.{form_in}
use Rattle.elab_rules.specs.elab_ctx.Ctx.{Ctx, known}
use Rattle.elab_rules.specs.elab_ctx.Steps.{check}
use Rattle.elab_rules.specs.Operators.{is_complete}
use Rattle.elab_rules.specs.Sizes.{typ_sized}
use Rattle.elab_rules.specs.Types.{qualifiers_from, no_qualifiers, function_of, is_declared_safe, is_result, has_auto, is_abstract_type, within_parameters}
use Rattle.elab_rules.specs.Statements.{State}
use Rattle.elab_rules.specs.Functions.{within_frame}
use Rattle.elab_rules.specs.Lambdas.{Written, lambda_written, lambda_made, lambda_known, lambda_with, lambda_type, closure_sized, signature_in}
use Rattle.elab_rules.specs.Lambdas.{result_of, body_statements, kids_of, explicit_captures, default_captures, default_in, used_in, parameters_among}
use Rattle.elab_rules.specs.Lambdas.{not_dynamic, result_among, has_mutable, place_of_tree, closing}
use Rattle.elab_fits.specs.Standing.{On}
use Rattle.elab_fits.proofs.Steps.{bind, checked, skip, told, answered}
use Rattle.elab_fits_statements.proofs.States.{mapped}
use Rattle.elab_fits_lambdas.specs.Made.{lambda_inside, call_signature, IsKnown, IsMade, HasParts, three, two, IsLambda, LambdasAreMade}

-- the type of its call
abbrev IsType : Written → Typ → Typ → Type 0
IsType x r t = t ≡ plain (func (call_signature x r))

type_is : (c : Ctx) (x : Written) (r : Typ) → On (IsType x r) (lambda_type c x r)
type_is c x r = bind (IsType x r) (IsType x r) (function_of c x.at r x.params (is_declared_safe x.qualifiers)) _
    (skip (IsType x r) (check x.at BadDeclaration (is_result r)) _ (λ a. skip (IsType x r) (check x.at OutOfProfile (not (has_auto r))) _
    (λ b. skip (IsType x r) (check x.at AbstractObject (not (is_abstract_type c r))) _ (λ d. skip (IsType x r) (within_parameters x.at x.params) _
    (λ z. refl)))))
    (λ t h. skip (IsType x r) (typ_sized c.classes x.at t) _ (λ y. h))

known_told : (s : List Lexeme) (st : State) (x : Written) (r : Typ) → On (IsKnown s st x r) (lambda_known s st x r)
known_told s st x r = told (IsKnown s st x r) (lambda_type st.ctx x r) _
    (λ t a. by t a (answered (IsType x r) (lambda_type st.ctx x r) t (type_is st.ctx x r) a))
  where
    with_type : lambda_type st.ctx x r ≡ Ok (plain (func (call_signature x r))) → On (IsKnown s st x r) (lambda_with s st x r (call_signature x r))
    with_type a = checked (IsKnown s st x r) x.at Incomplete (is_complete st.ctx (held r)) _
        (λ b. told (IsKnown s st x r) (closure_sized st x (call_signature x r)) _
        (λ z c. told (IsKnown s st x r) (body_statements s (lambda_inside st x (known r) r (call_signature x r)) x) _
        (λ d e. told (IsKnown s st x r) (within_frame d.state.ctx x.at d.state.work.frame) _ (λ w f. record {
          typed = a;
          complete = b;
          size = z;
          sized = c;
          done = d;
          read = e;
          room = w;
          within = f;
          is = refl;
        }))))

    by : (t : Typ) → lambda_type st.ctx x r ≡ Ok t → t ≡ plain (func (call_signature x r))
        → On (IsKnown s st x r) (lambda_with s st x r (signature_in (form_in t)))
    by t a e = subst (λ (u : Typ). On (IsKnown s st x r) (lambda_with s st x r (signature_in (form_in u)))) (sym e)
        (with_type (subst (λ (u : Typ). lambda_type st.ctx x r ≡ Ok u) e a))

made_told : (s : List Lexeme) (st : State) (x : Written) → On (IsMade s st x) (lambda_made s st x)
made_told s st x = told (IsMade s st x) (result_of s st x x.result) _
    (λ r a. bind (IsKnown s st x r) (IsMade s st x) (lambda_known s st x r) _ (known_told s st x r)
    (λ y h. record { result = r; said = a; before = y; known = h; is = refl }))

written_told : (s : List Lexeme) (st : State) (at : At) (kids intro parts : syntax.Trees) (body : syntax.Tree) → HasParts kids intro parts body
    → On (IsLambda s st kids) (lambda_written s st at intro parts body)
written_told s st at kids intro parts body h =
    told (IsLambda s st kids) (explicit_captures s st.ctx (default_in s intro) intro) _
    (λ xs a. told (IsLambda s st kids) (parameters_among s st.ctx st.work parts) _
    (λ ps b. skip (IsLambda s st kids) (not_dynamic at (qualifiers_from s no_qualifiers parts)) _ (λ y.
    told (IsLambda s st kids) (result_among s st.ctx st.work parts) _
    (λ r c. told (IsLambda s st kids) (default_captures st.ctx (default_in s intro) xs (used_in s st.ctx ps body)) _
    (λ ys d. let x : Written = record {
      at = at;
      captures = ys;
      params = ps;
      qualifiers = qualifiers_from s no_qualifiers parts;
      is_mutable = has_mutable parts;
      result = r;
      body = kids_of body;
      body_at = place_of_tree body;
      closed = closing s body;
    } in mapped (IsMade s st x) (IsLambda s st kids) (lambda_made s st x) (made_told s st x) (λ z m. record {
      intro = intro;
      parts = parts;
      body = body;
      has = h;
      text = x;
      written = record { named = xs; explicit = a; params = b; result = c; defaults = d; read = refl };
      made = m;
    }))))))

pub lambdas_are_made : LambdasAreMade
lambdas_are_made s st at (syntax.more intro (syntax.more parts (syntax.more body syntax.none))) =
    written_told s st at _ (kids_of intro) (kids_of parts) body (three intro parts refl refl refl)
lambdas_are_made s st at (syntax.more intro (syntax.more body syntax.none)) =
    written_told s st at _ (kids_of intro) syntax.none body (two intro refl refl refl)
lambdas_are_made s st at kids = tt
