-- The bodies of lambdas' calls: with them all bodies fit still.
use Rattle.std.proofs.Common.{◌≡◌, refl, sym, ap, ◌∙◌, subst, ℕ, zero, suc, ◌+◌, arith, Bool, true, false, not, List, [], ◌∷◌, ◌++◌, append_assoc, map}
use Rattle.std.proofs.Common.{length, slice_get, Option, Some, None, Result, Ok, Err, eq-eqb}
use Rattle.std.specs.Prelude.{◌≤◌, ◌==◌}
use Rattle.std.proofs.lemmas.Option.{same_Some}
use Rattle.elab_rules.specs.cpp_types.Typ.{Typ, typ, func, ptr, closure, Signature, signature}
use Rattle.elab_rules.specs.cpp_types.Class.{held as held_class}
use Rattle.elab_rules.specs.cpp_types.declared.classes.At.{At}
use Rattle.elab_rules.specs.cpp_lex.Tokens.{Lexeme}
use Rattle.elab_rules.specs.cpp_ast.declared.kinds.NodeKind.TheVariants as k
use Rattle.elab_rules.specs.cpp_ast.Trees as syntax
use Rattle.elab_rules.specs.cpp_tree.declared.faults.ElabFault.{ElabFault}
use Rattle.elab_rules.specs.cpp_tree.declared.faults.IllRule.TheVariants.{AbstractObject, BadDeclaration, Incomplete, OutOfProfile}
use Rattle.elab_rules.specs.cpp_tree.Notation.{plain}
use Rattle.elab_rules.specs.cpp_tree.declared.program.FuncKind.TheVariants.{ClosureCall}
use Rattle.elab_rules.specs.Programs.{one_if}
use Rattle.elab_rules.specs.cpp_tree.Typing.{form_in}
use Rattle.elab_rules.specs.elab_ctx.Ctx.{Ctx, Func, known}
use Rattle.elab_rules.specs.elab_ctx.Steps.{check, at_of}
use Rattle.elab_rules.specs.Operators.{is_complete}
use Rattle.elab_rules.specs.Types.{Parameter, no_qualifiers, qualifiers_from, is_declared_safe, function_of, types_of, is_result, has_auto, is_abstract_type, within_parameters}
use Rattle.elab_rules.specs.Sizes.{typ_sized}
use Rattle.elab_rules.specs.Statements.{State, Done, Body, statements_of}
use Rattle.elab_rules.specs.Functions.{param_of, result_items, with_parameters, within_frame}
use Rattle.elab_rules.specs.Lambdas.{Written, lambdas_of, lambdas_among, lambda_of, lambda_written, lambda_made, lambda_with, lambda_known, lambda_type, refused_at}
use Rattle.elab_rules.specs.Lambdas.{no_lambda, first_lambda, lambda_entered, declared_closure, inside, body_statements, signature_in, result_of, kids_of, has_mutable}
use Rattle.elab_rules.specs.Lambdas.{explicit_captures, default_in, parameters_among, not_dynamic, result_among, default_captures, used_in, place_of_tree, closing}
use Rattle.elab_rules.specs.Lambdas.{call_func, call_record, closure_sized}
use Rattle.elab_fits.specs.Standing.{On}
use Rattle.state_growth.proofs.Lists.{added}
use Rattle.state_growth.proofs.Steps.{bind, skip, Ends}
use Rattle.state_growth.proofs.Statements.{statements_kept}
use Rattle.state_growth.proofs.Bodies.{no_lambda_lawful}
use Rattle.elab_bodies.specs.Bodies.{number_of, WellSigned, param_items, Begin, BodyFits, times_made, due_to, AllFit, BodiesFit}
use Rattle.elab_bodies.specs.Making.{LambdasFit, StatementsFit}
use Rattle.elab_bodies.proofs.Frames.{WithItems, parameters_added, words_by}
use Rattle.elab_bodies.proofs.Making.{holds, plain_block}
use Rattle.elab_bodies.proofs.Holding as holding

-- How many bodies a function has

pub times_more : (n : ℕ) (bs : List Body) (b : Body) → times_made n (bs ++ b ∷ []) ≡ times_made n bs + one_if (b.func == n)
times_more n [] b = omega arith
times_more n (c ∷ bs) b = let r = times_more n bs b in omega arith

pub own_time : (b : Body) → one_if (b.func == b.func) ≡ 1
own_time b = ap one_if (eq-eqb b.func b.func refl)

-- One function more, one body more

pub at_end : (fs : List Func) (f : Func) → slice_get (fs ++ f ∷ []) (length fs) ≡ Some f
at_end [] f = refl
at_end (g ∷ fs) f = at_end fs f

pub fits_further : (fs : List Func) (f : Func) (b : Body) → BodyFits fs b → BodyFits (fs ++ f ∷ []) b
fits_further fs f b x =
    record { func = x.func; at = added fs (f ∷ []) b.func x.func x.at; defined = x.defined; signed = x.signed; fits = x.fits }

pub function_more : (now : Option ℕ) (fs : List Func) (f : Func) (bs : List Body) → AllFit now fs bs → AllFit now (fs ++ f ∷ []) bs
function_more now fs f bs h = record { each = λ i b e l. fits_further fs f b (h.each i b e l) }

pub each_more : (P : Body → Type 0) (bs : List Body) (b : Body) → ((i : ℕ) (c : Body) → slice_get bs i ≡ Some c → P c) → P b
    → (i : ℕ) (c : Body) → slice_get (bs ++ b ∷ []) i ≡ Some c → P c
each_more P [] b h p zero c e = subst P (same_Some b c e) p
each_more P [] b h p (suc i) c e = absurd cc
each_more P (d ∷ bs) b h p zero c e = h 0 c e
each_more P (d ∷ bs) b h p (suc i) c e = each_more P bs b (λ j x q. h (suc j) x q) p i c e

pub body_more : (now : Option ℕ) (fs : List Func) (bs : List Body) (b : Body) → AllFit now fs bs → BodyFits fs b → AllFit now fs (bs ++ b ∷ [])
body_more now fs bs b h p = record {
  each = each_more (λ (c : Body). times_made c.func (bs ++ b ∷ []) + due_to now c.func ≤ 1 → BodyFits fs c) bs b
      (λ i c e l. h.each i c e (let r = times_more c.func bs b in omega arith)) (λ l. p);
}

-- the body of the function at hand
pub body_last : (fs : List Func) (bs : List Body) (b : Body) → AllFit (Some b.func) fs bs → (times_made b.func bs ≡ 0 → BodyFits fs b)
    → AllFit None fs (bs ++ b ∷ [])
body_last fs bs b h p = record {
  each = each_more (λ (c : Body). times_made c.func (bs ++ b ∷ []) + due_to None c.func ≤ 1 → BodyFits fs c) bs b
      (λ i c e l. h.each i c e (let r = times_more c.func bs b in omega arith))
      (λ l. p (let r = times_more b.func bs b in let o = own_time b in omega arith));
}

-- What lambdas keep

-- the call of a lambda is written and defined, and is no constructor or destructor
pub record IsCall (f : Func) : Type 0 where
  pub kind : f.kind ≡ ClosureCall
  pub written : f.implicit ≡ false
  pub defined : f.is_defined ≡ true
  pub signed : WellSigned f

-- it holds still with the call of a lambda and the body of that, which fits
pub record Grows (P : List Func → List Body → Type 0) : Type 0 where
  pub call : (fs : List Func) (bs : List Body) (f : Func) (b : Body) → IsCall f → b.func ≡ length fs → BodyFits (fs ++ f ∷ []) b → P fs bs
      → P (fs ++ f ∷ []) (bs ++ b ∷ [])

pub fits_grow : (now : Option ℕ) → Grows (AllFit now)
fits_grow now = record { call = λ fs bs f b i n p h. body_more now (fs ++ f ∷ []) bs b (function_more now fs f bs h) p }

-- The call of a lambda

-- what a function of this type is declared with
pub as_many : (ps : List Parameter) → number_of (types_of ps) ≡ length (map param_of ps)
as_many [] = refl
as_many (p ∷ ps) = ap suc (as_many ps)

abbrev call_of : State → Written → Signature → Func
call_of st x sig = record (call_func (length st.ctx.classes) (call_record x.at sig x.qualifiers x.is_mutable) x.params) { closed_at = x.closed }

-- the functions and bodies from before, and the call
record HasCall (fs : List Func) (bs : List Body) (g : Func) (funcs : List Func) (bodies : List Body) : Type 0 where
  call : funcs ≡ fs ++ g ∷ []
  same : bodies ≡ bs

with_body : (P : List Func → List Body → Type 0) → Grows P → (fs : List Func) (bs : List Body) (g : Func) (b : Body) (funcs : List Func) (bodies : List Body)
    → IsCall g → b.func ≡ length fs → BodyFits (fs ++ g ∷ []) b → P fs bs → HasCall fs bs g funcs bodies → P funcs (bodies ++ b ∷ [])
with_body P grows fs bs g b funcs bodies i n p h c = subst (λ (xs : List Func). P xs (bodies ++ b ∷ [])) (sym c.call)
    (subst (λ (ys : List Body). P (fs ++ g ∷ []) (ys ++ b ∷ [])) (sym c.same) (grows.call fs bs g b i n p h))

refused_holds : (P : List Func → List Body → Type 0) (st : State) (o : Option At) → P st.ctx.funcs st.bodies
    → On (λ (x : State). P x.ctx.funcs x.bodies) (refused_at st o)
refused_holds P st (Some at) h = tt
refused_holds P st None h = h

-- behind the statements of its body
record Said (fs : List Func) (bs : List Body) (g : Func) (words : List Typ) (d : Done) : Type 0 where
  has : HasCall fs bs g d.state.ctx.funcs d.state.bodies
  first : Begin words d.state.work.frame

pub both : {A : Type 0} (P Q R : A → Type 0) (r : Result A ElabFault) → ((a : A) → P a → Q a → R a) → On P r → On Q r → On R r
both P Q R (Ok a) f h g = f a h g
both P Q R (Err e) f h g = tt

record Entered (fs : List Func) (bs : List Body) (g : Func) (words : List Typ) (y : State) : Type 0 where
  has : HasCall fs bs g y.ctx.funcs y.bodies
  first : y.work.frame ≡ words

-- its type is that of its parameters and its result
typed : (c : Ctx) (x : Written) (r : Typ)
    → On (λ (t : Typ). t ≡ plain (func (signature (types_of x.params) r (is_declared_safe x.qualifiers)))) (lambda_type c x r)
typed c x r = bind P P (function_of c x.at r x.params (is_declared_safe x.qualifiers)) _
    (skip P (check x.at BadDeclaration (is_result r)) _ (λ a. skip P (check x.at OutOfProfile (not (has_auto r))) _
    (λ b. skip P (check x.at AbstractObject (not (is_abstract_type c r))) _ (λ y. skip P (within_parameters x.at x.params) _ (λ z. refl)))))
    (λ t e. skip P (typ_sized c.classes x.at t) _ (λ y. e))
  where
    P : Typ → Type 0
    P t = t ≡ plain (func (signature (types_of x.params) r (is_declared_safe x.qualifiers)))

module _ (P : List Func → List Body → Type 0) (grows : Grows P) where
  abbrev F : State → Type 0
  F st = P st.ctx.funcs st.bodies

  said : (s : List Lexeme) (e : State) (x : Written) (fs : List Func) (bs : List Body) (g : Func) → HasCall fs bs g e.ctx.funcs e.bodies
      → On (Said fs bs g (e.work.frame ++ param_items (map param_of x.params))) (body_statements s e x)
  said s e x fs bs g h = bind (Entered fs bs g words) (Said fs bs g words) (with_parameters s e x.params) _
      (both (holding.Held (HasCall fs bs g)) (WithItems e items) (Entered fs bs g words) (with_parameters s e x.params)
      (λ y i j. record { has = i; first = j }) (holding.parameters_held (HasCall fs bs g) s e x.params h) (parameters_added s e x.params))
      (λ y i. both (holding.Ends (HasCall fs bs g)) (Ends y) (Said fs bs g words) (statements_of no_lambda s y x.body)
      (λ d j l. record { has = j; first = λ n t q. l.kept.frame n t (ap (λ (z : List Typ). slice_get z n) i.first ∙ q) })
      (holding.statements_held (HasCall fs bs g) no_lambda s (λ st t u. refused_holds (HasCall fs bs g) st (first_lambda t) u) y x.body i.has)
      (statements_kept no_lambda no_lambda_lawful s y x.body))
    where
      items : List Typ
      items = param_items (map param_of x.params)

      words : List Typ
      words = e.work.frame ++ items

  with_fit : (s : List Lexeme) (st : State) (x : Written) (r : Typ) (safe : Bool) → F st
      → On F (lambda_with s st x r (signature (types_of x.params) r safe))
  with_fit s st x r safe h = skip F (check x.at Incomplete (is_complete st.ctx (held_class r))) _
      (λ y. skip F (closure_sized st x sig) _
      (λ v. bind (Said st.ctx.funcs st.bodies g (e.work.frame ++ items)) F (body_statements s e x) _
      (said s e x st.ctx.funcs st.bodies g (record { call = refl; same = refl }))
      (λ d i. skip F (within_frame d.state.ctx x.at d.state.work.frame) _
      (λ z. with_body P grows st.ctx.funcs st.bodies g _ d.state.ctx.funcs d.state.bodies is_call refl (record {
        func = g;
        at = at_end st.ctx.funcs g;
        defined = refl;
        signed = is_call.signed;
        fits = plain_block g place d.state.ctx r x.body_at d.trees d.state.work.frame refl refl
            (words_by g (Some own) r items (e.work.frame ++ items) d.state.work.frame (eq-eqb n n refl) refl refl
            (append_assoc (result_items r) (plain (ptr own) ∷ []) items) i.first);
      }) h i.has))))
    where
      sig : Signature
      sig = signature (types_of x.params) r safe

      place : ℕ
      place = length st.ctx.funcs

      n : ℕ
      n = length st.ctx.classes

      own : Typ
      own = typ (closure n) (not x.is_mutable) false

      g : Func
      g = call_of st x sig

      is_call : IsCall g
      is_call = record { kind = refl; written = refl; defined = refl; signed = record { params = as_many x.params; result = refl } }

      e : State
      e = inside st (lambda_entered st x (known r) r) (declared_closure st x sig)

      items : List Typ
      items = param_items (map param_of x.params)

  known_fit : (s : List Lexeme) (st : State) (x : Written) (r : Typ) → F st → On F (lambda_known s st x r)
  known_fit s st x r h =
      bind (λ (t : Typ). t ≡ plain (func (signature (types_of x.params) r (is_declared_safe x.qualifiers)))) F (lambda_type st.ctx x r) _
      (typed st.ctx x r)
      (λ t e. subst (λ (z : Typ). On F (lambda_with s st x r (signature_in (form_in z)))) (sym e) (with_fit s st x r (is_declared_safe x.qualifiers) h))

  made_fit : (s : List Lexeme) (st : State) (x : Written) → F st → On F (lambda_made s st x)
  made_fit s st x h = skip F (result_of s st x x.result) _
      (λ r. bind F F (lambda_known s st x r) _ (known_fit s st x r h) (λ y i. i))

  -- All lambdas

  written_fit : (s : List Lexeme) (st : State) (at : At) (intro parts : syntax.Trees) (body : syntax.Tree) → F st
      → On F (lambda_written s st at intro parts body)
  written_fit s st at intro parts body h =
      skip F (explicit_captures s st.ctx (default_in s intro) intro) _
      (λ xs. skip F (parameters_among s st.ctx st.work parts) _
      (λ ps. skip F (not_dynamic at (qualifiers_from s no_qualifiers parts)) _ (λ y.
      skip F (result_among s st.ctx st.work parts) _
      (λ r. skip F (default_captures st.ctx (default_in s intro) xs (used_in s st.ctx ps body)) _ (λ ys. made_fit s st (record {
        at = at;
        captures = ys;
        params = ps;
        qualifiers = qualifiers_from s no_qualifiers parts;
        is_mutable = has_mutable parts;
        result = r;
        body = kids_of body;
        body_at = place_of_tree body;
        closed = closing s body;
      }) h)))))

  one_fit : (s : List Lexeme) (st : State) (at : At) (kids : syntax.Trees) → F st → On F (lambda_of s st at kids)
  one_fit s st at (syntax.more intro (syntax.more parts (syntax.more body syntax.none))) h = written_fit s st at (kids_of intro) (kids_of parts) body h
  one_fit s st at (syntax.more intro (syntax.more body syntax.none)) h = written_fit s st at (kids_of intro) syntax.none body h
  one_fit s st at kids h = tt

  mutual
    pub each_fit : (s : List Lexeme) (st : State) (t : syntax.Tree) → F st → On F (lambdas_of s st t)
    each_fit s st (syntax.node k.Lambda p token kids) h = one_fit s st (at_of p) kids h
    each_fit s st (syntax.node k.SizeofExpression p token kids) h = h
    each_fit s st (syntax.node k.SizeofType p token kids) h = h
    each_fit s st (syntax.node kind p token kids) h = among_fit s st kids h

    among_fit : (s : List Lexeme) (st : State) (ts : syntax.Trees) → F st → On F (lambdas_among s st ts)
    among_fit s st syntax.none h = h
    among_fit s st (syntax.more t ts) h = bind F F (lambdas_of s st t) _ (each_fit s st t h) (λ x i. among_fit s x ts i)

-- Bodies that fit

pub bodies_fit : (now : Option ℕ) (st : State) (t : syntax.Tree) (s : List Lexeme) → AllFit now st.ctx.funcs st.bodies
    → On (λ (x : State). AllFit now x.ctx.funcs x.bodies) (lambdas_of s st t)
bodies_fit now st t s h = each_fit (AllFit now) (fits_grow now) s st t h

pub lambdas_law : LambdasFit
lambdas_law s st t x h e = holds BodiesFit (lambdas_of s st t) x (bodies_fit None st t s h) e

pub statements_law : StatementsFit
statements_law s st ts d h e = holds (λ (z : Done). BodiesFit z.state) (statements_of lambdas_of s st ts) d
    (holding.statements_held (AllFit None) lambdas_of s (λ x t i. bodies_fit None x t s i) st ts h) e
