-- Bodies of functions and lambdas go on by steps: each lambda adds its class and its call.
use Rattle.std.proofs.Common.{◌≡◌, refl, ℕ, true, nat_le, List, length, Option, Some, None}
use Rattle.elab_rules.specs.cpp_layout.Layout.{class_extent}
use Rattle.elab_rules.specs.cpp_layout.declared.extents.TheConstants.{GREATEST_SIZE}
use Rattle.elab_rules.specs.cpp_types.Typ.{Typ, Signature}
use Rattle.elab_rules.specs.cpp_types.Class.{held}
use Rattle.elab_rules.specs.cpp_types.declared.classes.At.{At}
use Rattle.elab_rules.specs.cpp_lex.Tokens.{Lexeme}
use Rattle.elab_rules.specs.cpp_ast.declared.kinds.NodeKind.TheVariants as k
use Rattle.elab_rules.specs.cpp_ast.Trees as syntax
use Rattle.elab_rules.specs.cpp_tree.declared.faults.IllRule.TheVariants.{Incomplete}
use Rattle.elab_rules.specs.cpp_tree.Trees.{Tree}
use Rattle.elab_rules.specs.cpp_tree.Typing.{form_in}
use Rattle.elab_rules.specs.elab_ctx.Ctx.{Returns, known}
use Rattle.elab_rules.specs.elab_ctx.Steps.{check, at_of}
use Rattle.elab_rules.specs.Initialising.{signature_result}
use Rattle.elab_rules.specs.Operators.{is_complete}
use Rattle.elab_rules.specs.Types.{qualifiers_from, no_qualifiers}
use Rattle.elab_rules.specs.Statements.{State, Lambdas, statements_of}
use Rattle.elab_rules.specs.Functions.{Header, entered, with_parameters, within_frame, body_made, function_body}
use Rattle.elab_rules.specs.Lambdas.{lambdas_of, lambdas_among, lambda_of, lambda_written, lambda_made, lambda_with, lambda_known, lambda_type, Written, refused_at}
use Rattle.elab_rules.specs.Lambdas.{no_lambda, first_lambda, lambda_entered, declared_closure, inside, body_statements, signature_in, result_of, kids_of, has_mutable}
use Rattle.elab_rules.specs.Lambdas.{explicit_captures, default_in, parameters_among, not_dynamic, result_among, default_captures, used_in, place_of_tree, closing}
use Rattle.elab_fits.specs.Standing.{On}
use Rattle.elab_fits.proofs.Steps.{bind, skip}
use Rattle.elab_contexts.proofs.Walking.{Leaves, naming, stays, after, follow, of_state, of_done, Ends, one_step}
use Rattle.elab_contexts.proofs.Items.{Lawful}
use Rattle.elab_contexts.proofs.Owned.{overriders_added}
use Rattle.elab_contexts.proofs.Statements.{statements_kept, parameters_kept}
use Rattle.elab_contexts.specs.Steps.{view, ClosureAdded, closure_added, none_yet}
use Rattle.elab_rules.specs.Lambdas.{call_record}
use Rattle.elab_contexts.proofs.Captures.{AllWhole, explicit_all, default_all, within_size}

-- The body

-- behind a body the enumerators and the names of types are those of before
pub made_kept : (st before y : State) (at : At) (place : ℕ) (tree : Tree) → naming before.ctx ≡ naming st.ctx → Leaves st y
    → On (Leaves st) (body_made before at place tree y)
made_kept st before y at place tree e h = skip (Leaves st) (within_frame y.ctx at y.work.frame) _ (λ z. record { walk = h.walk; same = e; overrides = h.overrides })

pub left_kept : (st e y : State) → Leaves st e → Leaves e y → Leaves st y
left_kept st e y a b = after st e y a b

-- into a function
pub entered_kept : (st : State) (r : Typ) (this : Option Typ) (cls : Option ℕ) → Leaves st (entered st r this cls)
entered_kept st r this cls = record { walk = none_yet; same = refl; overrides = λ w h. h }

-- parameters and statements in a function
pub function_left : (st : State) (r : Typ) (this : Option Typ) (cls : Option ℕ) (x y : State) → Leaves (entered st r this cls) x → Leaves x y
    → Leaves st y
function_left st r this cls x y a b = left_kept st (entered st r this cls) y (entered_kept st r this cls) (after (entered st r this cls) x y a b)

pub function_kept : (lams : Lambdas) → Lawful lams → (s : List Lexeme) (st : State) (h : Header) (this : Option Typ) (place : ℕ) (t : syntax.Tree)
    → On (Leaves st) (function_body lams s st h this place t)
function_kept lams q s st h this place (syntax.node kind p token kids) =
    skip (Leaves st) (check h.at Incomplete (is_complete st.ctx (held (signature_result h.signature)))) _
    (λ z. bind (Leaves (entered st (signature_result h.signature) this h.class)) (Leaves st)
    (with_parameters s (entered st (signature_result h.signature) this h.class) h.params) _
    (parameters_kept s (entered st (signature_result h.signature) this h.class) h.params)
    (λ e i. bind (Ends e) (Leaves st) (statements_of lams s e kids) _ (statements_kept lams q s e kids)
    (λ d j. made_kept st st d.state h.at place _ refl (function_left st (signature_result h.signature) this h.class e d.state i j))))

-- Lambdas

refusal_kept : (st : State) (o : Option At) → On (Leaves st) (refused_at st o)
refusal_kept st (Some at) = tt
refusal_kept st None = stays st

pub no_lambda_lawful : Lawful no_lambda
no_lambda_lawful = record { each = λ s st t. refusal_kept st (first_lambda t) }

body_kept : (s : List Lexeme) (e : State) (x : Written) → On (Ends e) (body_statements s e x)
body_kept s e x = follow of_state of_done e (with_parameters s e x.params) _ (parameters_kept s e x.params)
    (λ y. statements_kept no_lambda no_lambda_lawful s y x.body)

-- into a lambda: its class and its call stand behind the others
abbrev lambda_inside : State → Written → Returns → Typ → Signature → State
lambda_inside st x rs r sig = inside st (lambda_entered st x rs r) (declared_closure st x sig)

-- the object of the lambda is no larger than the greatest one
abbrev ClosureSized : State → Written → Signature → Type 0
ClosureSized st x sig = nat_le (class_extent (declared_closure st x sig).classes (length st.ctx.classes)).size GREATEST_SIZE ≡ true

closure_step : (st : State) (x : Written) (sig : Signature) → AllWhole st.ctx x.captures → ClosureSized st x sig
    → ClosureAdded (view st.ctx) (view (declared_closure st x sig))
closure_step st x sig w z = record {
  ctx = st.ctx;
  captures = x.captures;
  declared = call_record x.at sig x.qualifiers x.is_mutable;
  params = x.params;
  closed = x.closed;
  before = refl;
  whole = w;
  is = refl;
  sized = z;
}

closure_kept : (st : State) (x : Written) (rs : Returns) (r : Typ) (sig : Signature) → AllWhole st.ctx x.captures → ClosureSized st x sig
    → Leaves st (lambda_inside st x rs r sig)
closure_kept st x rs r sig w z = record {
  walk = one_step (closure_added (closure_step st x sig w z));
  same = refl;
  overrides = λ w h. overriders_added w st.ctx.funcs _ h (λ n e. refl);
}

with_kept : (s : List Lexeme) (st : State) (x : Written) (r : Typ) (sig : Signature) → AllWhole st.ctx x.captures → On (Leaves st) (lambda_with s st x r sig)
with_kept s st x r sig w =
    skip (Leaves st) (check x.at Incomplete (is_complete st.ctx (held r))) _
    (λ y. within_size (Leaves st) x.at (class_extent (declared_closure st x sig).classes (length st.ctx.classes)).size _
    (λ z. bind (Ends (lambda_inside st x (known r) r sig)) (Leaves st) (body_statements s (lambda_inside st x (known r) r sig) x) _
    (body_kept s (lambda_inside st x (known r) r sig) x)
    (λ d h. made_kept st (record st { ctx = declared_closure st x sig }) d.state x.at (length st.ctx.funcs) _ refl
    (left_kept st (lambda_inside st x (known r) r sig) d.state (closure_kept st x (known r) r sig w z) h))))

lambda_kept : (s : List Lexeme) (st : State) (x : Written) → AllWhole st.ctx x.captures → On (Leaves st) (lambda_made s st x)
lambda_kept s st x w = skip (Leaves st) (result_of s st x x.result) _
    (λ r. bind (Leaves st) (Leaves st) (lambda_known s st x r) _
    (skip (Leaves st) (lambda_type st.ctx x r) _ (λ t. with_kept s st x r (signature_in (form_in t)) w)) (λ y h. h))

written_kept : (s : List Lexeme) (st : State) (at : At) (intro parts : syntax.Trees) (body : syntax.Tree)
    → On (Leaves st) (lambda_written s st at intro parts body)
written_kept s st at intro parts body = bind (AllWhole st.ctx) (Leaves st) (explicit_captures s st.ctx (default_in s intro) intro) _
    (explicit_all s st.ctx (default_in s intro) intro)
    (λ xs w. skip (Leaves st) (parameters_among s st.ctx st.work parts) _
    (λ ps. skip (Leaves st) (not_dynamic at (qualifiers_from s no_qualifiers parts)) _ (λ y.
    skip (Leaves st) (result_among s st.ctx st.work parts) _
    (λ r. bind (AllWhole st.ctx) (Leaves st) (default_captures st.ctx (default_in s intro) xs (used_in s st.ctx ps body)) _
    (default_all st.ctx (default_in s intro) xs (used_in s st.ctx ps body) w)
    (λ ys v. lambda_kept s st (record {
      at = at;
      captures = ys;
      params = ps;
      qualifiers = qualifiers_from s no_qualifiers parts;
      is_mutable = has_mutable parts;
      result = r;
      body = kids_of body;
      body_at = place_of_tree body;
      closed = closing s body;
    }) v)))))

one_kept : (s : List Lexeme) (st : State) (at : At) (kids : syntax.Trees) → On (Leaves st) (lambda_of s st at kids)
one_kept s st at (syntax.more intro (syntax.more parts (syntax.more body syntax.none))) = written_kept s st at (kids_of intro) (kids_of parts) body
one_kept s st at (syntax.more intro (syntax.more body syntax.none)) = written_kept s st at (kids_of intro) syntax.none body
one_kept s st at kids = tt

mutual
  each_kept : (s : List Lexeme) (st : State) (t : syntax.Tree) → On (Leaves st) (lambdas_of s st t)
  each_kept s st (syntax.node k.Lambda p token kids) = one_kept s st (at_of p) kids
  each_kept s st (syntax.node k.SizeofExpression p token kids) = stays st
  each_kept s st (syntax.node k.SizeofType p token kids) = stays st
  each_kept s st (syntax.node kind p token kids) = among_kept s st kids

  among_kept : (s : List Lexeme) (st : State) (ts : syntax.Trees) → On (Leaves st) (lambdas_among s st ts)
  among_kept s st syntax.none = stays st
  among_kept s st (syntax.more t ts) = follow of_state of_state st (lambdas_of s st t) _ (each_kept s st t) (λ x. among_kept s x ts)

pub lambdas_lawful : Lawful lambdas_of
lambdas_lawful = record { each = λ s st t. each_kept s st t }
