-- Lambdas as the code makes them are those of the definitions.
use Rattle.std.proofs.Common.{◌≡◌, ℕ, false, List, length, take, refl, sym, ap, ◌∙◌, Option, Some, None, Result, Ok, Err}
use Rattle.elab_rules.specs.cpp_types.Typ.{Typ, void, Signature}
use Rattle.elab_rules.specs.cpp_types.Class.{held, Class}
use Rattle.elab_rules.specs.cpp_types.declared.classes.At.{At}
use Rattle.elab_rules.specs.cpp_lex.Tokens.{Lexeme}
use Rattle.elab_rules.specs.cpp_ast.declared.kinds.NodeKind.TheVariants as k
use Rattle.elab_rules.specs.cpp_ast.Trees as syntax
use Rattle.elab_rules.specs.cpp_tree.declared.kinds.TKind.TheVariants as forms
use Rattle.elab_rules.specs.cpp_tree.declared.faults.ElabFault.{ElabFault}
use Rattle.elab_rules.specs.cpp_tree.declared.faults.IllRule.TheVariants.{Incomplete}
use Rattle.elab_rules.specs.cpp_tree.Notation.{plain}
use Rattle.elab_rules.specs.cpp_tree.Trees.{Tree}
use Rattle.elab_rules.specs.cpp_tree.Typing.{form_in}
use Rattle.elab_rules.specs.cpp_tree.Units.{Global, SlotFunc}
use Rattle.elab_rules.specs.elab_ctx.Ctx.{Ctx, Returns, known, deduced, Traits, Func, Capture}
use Rattle.elab_rules.specs.elab_ctx.Steps.{and_then, check, at_of}
use Rattle.elab_rules.specs.Objects.{followed_by}
use Rattle.elab_rules.specs.Operators.{is_complete}
use Rattle.elab_rules.specs.Sizes.{typ_sized}
use Rattle.elab_rules.specs.Types.{Parameter, is_declared_safe, function_of, qualifiers_from, no_qualifiers}
use Rattle.elab_rules.specs.Statements.{State, Body, statement}
use Rattle.elab_rules.specs.Functions.{with_parameters, end_of, within_frame, leaving, body_made}
use Rattle.elab_rules.specs.Lambdas as rules
use Rattle.elab_rules.specs.Lambdas.{Written, refused_at, no_lambda, first_lambda, lambda_entered, declared_closure, body_statements, lambda_type, signature_in, closure_sized}
use Rattle.elab_rules.specs.Lambdas.{result_in, with_written, kids_of, explicit_captures, default_in, parameters_among, not_dynamic, result_among}
use Rattle.elab_rules.specs.Lambdas.{default_captures, used_in, has_mutable, place_of_tree, closing}
use Rattle.elab_entry.specs.Round.{round_lambda, left_by}
use Rattle.elab_entry.specs.Bodies.{body_kept}
use Rattle.elab_lambdas.specs.Whole as code
use Rattle.elab_lambdas.specs.Whole.{Deduced, closure_entered, call_signature, undone}
use Rattle.elab_leaving.specs.Kept.{Begins, Leaves, Inside, On, Lawful}
use Rattle.elab_leaving.proofs.Keeping.{Ends, bind, skip, stays, follow, of_state, of_done, begins_refl, begins_more, begins_trans}
use Rattle.elab_leaving.proofs.Answers.{same_after, same_behind, nest}
use Rattle.elab_leaving.proofs.Leaving.{left_lambda}
use Rattle.elab_leaving.proofs.Statements.{statements_kept, parameters_kept}

-- In a lambda there is none

refusal_kept : (st : State) (o : Option At) → On (Leaves st) (refused_at st o)
refusal_kept st (Some at) = tt
refusal_kept st None = stays st

pub no_lambda_lawful : Lawful no_lambda
no_lambda_lawful = record { each = λ s st t. refusal_kept st (first_lambda t) }

-- The body

body_kept_inside : (s : List Lexeme) (e : State) (x : Written) → On (Ends e) (body_statements s e x)
body_kept_inside s e x = follow of_state of_done e (with_parameters s e x.params) _ (parameters_kept s e x.params)
    (λ y. statements_kept no_lambda no_lambda_lawful s y x.body)

-- what is made in a body stands behind what was there before
record Grown (st y : State) : Type 0 where
  variables : Begins st.ctx.variables y.ctx.variables
  classes : Begins st.ctx.classes y.ctx.classes
  traits : Begins st.ctx.traits y.ctx.traits
  slots : Begins st.ctx.slots y.ctx.slots
  funcs : Begins st.ctx.funcs y.ctx.funcs
  globals : Begins st.work.globals y.work.globals
  bodies : Begins st.bodies y.bodies

inside_lambda : (st y : State) (x : Written) (rs : Returns) (r : Typ) (sig : Signature) → Leaves (closure_entered st x rs r sig) y → Inside st y
inside_lambda st y x rs r sig h = record { source = h.source; scopes = h.round; types = h.types; defaults = h.defaults; enumerators = h.enumerators }

grown_lambda : (st y : State) (x : Written) (rs : Returns) (r : Typ) (sig : Signature) → Leaves (closure_entered st x rs r sig) y → Grown st y
grown_lambda st y x rs r sig h =
    let c : Ctx = declared_closure st x sig in
    record {
      variables = h.variables;
      classes = begins_trans st.ctx.classes c.classes y.ctx.classes (begins_more st.ctx.classes _) h.classes;
      traits = begins_trans st.ctx.traits c.traits y.ctx.traits (begins_more st.ctx.traits _) h.traits;
      slots = begins_trans st.ctx.slots c.slots y.ctx.slots (begins_more st.ctx.slots _) h.slots;
      funcs = begins_trans st.ctx.funcs c.funcs y.ctx.funcs (begins_more st.ctx.funcs _) h.funcs;
      globals = h.globals;
      bodies = h.bodies;
    }

-- Behind the body

made_lambda : (st y : State) (x : Written) (sig : Signature) (place : ℕ) (tree : Tree) → Inside st y → Begins st.ctx.variables y.ctx.variables
    → body_kept (left_by (round_lambda st) y) x.at place tree y.work.frame ≡ body_made (record st { ctx = declared_closure st x sig }) x.at place tree y
made_lambda st y x sig place tree h v = ap (λ (z : State). body_kept z x.at place tree y.work.frame) (left_lambda st y h v)

with_same : (s : List Lexeme) (st : State) (x : Written) (r : Typ) (sig : Signature) → code.lambda_with s st x r sig ≡ rules.lambda_with s st x r sig
with_same s st x r sig =
    let e : State = closure_entered st x (known r) r sig in
    same_behind (check x.at Incomplete (is_complete st.ctx (held r))) _ _ (λ y. same_behind (closure_sized st x sig) _ _ (λ z.
    same_after (Ends e) (body_statements s e x) _ _ (body_kept_inside s e x)
    (λ d h. made_lambda st d.state x sig (length st.ctx.funcs) (statement (forms.Block false) x.body_at (followed_by d.trees (end_of d.state.ctx r x.body_at)))
    (inside_lambda st d.state x (known r) r sig h) (grown_lambda st d.state x (known r) r sig h).variables)))

-- The type of the call

sized_then : {A B C D : Type 0} (g : Result B ElabFault) (a : A) (h : A → C) (k : C → Result D ElabFault)
    → and_then (and_then g (λ (y : B). Ok (h a))) k ≡ and_then (and_then g (λ (y : B). Ok a)) (λ (t : A). k (h t))
sized_then (Ok b) a h k = refl
sized_then (Err e) a h k = refl

signed_then : {A B C D : Type 0} (f : Result A ElabFault) (g : A → Result B ElabFault) (h : A → C) (k : C → Result D ElabFault)
    → and_then (and_then f (λ (t : A). and_then (g t) (λ (y : B). Ok (h t)))) k
    ≡ and_then (and_then f (λ (t : A). and_then (g t) (λ (y : B). Ok t))) (λ (t : A). k (h t))
signed_then (Ok a) g h k = sized_then (g a) a h k
signed_then (Err e) g h k = refl

signature_then : {D : Type 0} (c : Ctx) (x : Written) (r : Typ) (f : Signature → Result D ElabFault)
    → and_then (call_signature c x.at r x.params x.qualifiers) f ≡ and_then (lambda_type c x r) (λ (t : Typ). f (signature_in (form_in t)))
signature_then c x r f = signed_then (function_of c x.at r x.params (is_declared_safe x.qualifiers)) (λ (t : Typ). typ_sized c.classes x.at t)
    (λ (t : Typ). signature_in (form_in t)) f

known_same : (s : List Lexeme) (st : State) (x : Written) (r : Typ) → code.lambda_known s st x r ≡ rules.lambda_known s st x r
known_same s st x r = signature_then st.ctx x r (λ (sig : Signature). code.lambda_with s st x r sig)
    ∙ same_behind (lambda_type st.ctx x r) _ _ (λ t. with_same s st x r (signature_in (form_in t)))

-- The first reading

abbrev cut : State → List Class → List Traits → List (List SlotFunc) → List Func → List Global → List Body → State
cut st classes traits slots funcs globals bodies = record {
  ctx = record st.ctx { classes = classes; traits = traits; slots = slots; funcs = funcs };
  work =
      record { frame = st.work.frame; globals = globals };
  bodies = bodies;
}

undone_same : (st y : State) → Grown st y → undone st (leaving st y) ≡ st
undone_same st y h =
    ap (λ z. cut st z (take (length st.ctx.traits) y.ctx.traits) (take (length st.ctx.slots) y.ctx.slots) (take (length st.ctx.funcs) y.ctx.funcs)
    (take (length st.work.globals) y.work.globals) (take (length st.bodies) y.bodies)) h.classes.is
    ∙ ap (λ z. cut st st.ctx.classes z (take (length st.ctx.slots) y.ctx.slots) (take (length st.ctx.funcs) y.ctx.funcs)
    (take (length st.work.globals) y.work.globals) (take (length st.bodies) y.bodies)) h.traits.is
    ∙ ap (λ z. cut st st.ctx.classes st.ctx.traits z (take (length st.ctx.funcs) y.ctx.funcs) (take (length st.work.globals) y.work.globals)
    (take (length st.bodies) y.bodies)) h.slots.is
    ∙ ap (λ z. cut st st.ctx.classes st.ctx.traits st.ctx.slots z (take (length st.work.globals) y.work.globals) (take (length st.bodies) y.bodies)) h.funcs.is
    ∙ ap (λ z. cut st st.ctx.classes st.ctx.traits st.ctx.slots st.ctx.funcs z (take (length st.bodies) y.bodies)) h.globals.is
    ∙ ap (λ z. cut st st.ctx.classes st.ctx.traits st.ctx.slots st.ctx.funcs st.work.globals z) h.bodies.is

abbrev found : State → Typ → Result Deduced ElabFault
found st t = Ok (record { typ = t; state = st })

-- a body that was read for its result
read_same : (s : List Lexeme) (st : State) (x : Written) (sig : Signature)
    → and_then (code.result_read s st x sig) (λ (r : Deduced). Ok (record { typ = r.typ; state = undone st r.state }))
    ≡ and_then (rules.result_read s st x sig) (found st)
read_same s st x sig =
    let e : State = closure_entered st x (deduced None) (plain void) sig in
    nest (closure_sized st x sig) _ _ ∙ same_behind (closure_sized st x sig) _ _ (λ w.
    nest (body_statements s e x) _ _ ∙ same_after (Ends e) (body_statements s e x) _ _ (body_kept_inside s e x)
    (λ d h. let g : Grown st d.state = grown_lambda st d.state x (deduced None) (plain void) sig h in
    ap (λ (z : State). found z (result_in d.state.ctx.returns))
    (ap (undone st) (left_lambda st d.state (inside_lambda st d.state x (deduced None) (plain void) sig h) g.variables) ∙ undone_same st d.state g))
    ∙ sym (nest (body_statements s e x) _ (found st)))
    ∙ sym (nest (closure_sized st x sig) _ (found st))

deduced_same : (s : List Lexeme) (st : State) (x : Written) → code.result_deduced s st x ≡ and_then (rules.result_of s st x None) (found st)
deduced_same s st x =
    signature_then st.ctx x (plain void) _ ∙ same_behind (lambda_type st.ctx x (plain void)) _ _ (λ t. read_same s st x (signature_in (form_in t)))
    ∙ sym (nest (lambda_type st.ctx x (plain void)) _ (found st))

result_same : (s : List Lexeme) (st : State) (x : Written) (o : Option Typ) → code.result_of s st x o ≡ and_then (rules.result_of s st x o) (found st)
result_same s st x (Some r) = refl
result_same s st x None = deduced_same s st x

-- Lambdas

abbrev made_behind : List Lexeme → Written → Deduced → Result State ElabFault
made_behind s x r = and_then (code.lambda_known s r.state x r.typ) (λ (y : State). Ok (with_written y (length r.state.ctx.classes) x))

pub made_same : (s : List Lexeme) (st : State) (x : Written) → code.lambda_made s st x ≡ rules.lambda_made s st x
made_same s st x =
    ap (λ z. and_then z (made_behind s x)) (result_same s st x x.result) ∙ nest (rules.result_of s st x x.result) (found st) (made_behind s x)
    ∙ same_behind (rules.result_of s st x x.result) _ _
    (λ r. ap (λ z. and_then z (λ (y : State). Ok (with_written y (length st.ctx.classes) x))) (known_same s st x r))

-- what is written, part by part
abbrev parts_of : List Lexeme → At → syntax.Trees → syntax.Tree → List Capture → List Parameter → Option Typ → Written
parts_of s at parts body ys ps r = record {
  at = at;
  captures = ys;
  params = ps;
  qualifiers = qualifiers_from s no_qualifiers parts;
  is_mutable =
      has_mutable parts;
  result = r;
  body = kids_of body;
  body_at = place_of_tree body;
  closed = closing s body;
}

from_same : (s : List Lexeme) (st : State) (at : At) (intro parts : syntax.Trees) (body : syntax.Tree)
    → code.lambda_from s st at intro parts body ≡ rules.lambda_written s st at intro parts body
from_same s st at intro parts body =
    nest (explicit_captures s st.ctx (default_in s intro) intro) _ _ ∙ same_behind (explicit_captures s st.ctx (default_in s intro) intro) _ _ (λ xs.
    nest (parameters_among s st.ctx st.work parts) _ _ ∙ same_behind (parameters_among s st.ctx st.work parts) _ _ (λ ps.
    nest (not_dynamic at (qualifiers_from s no_qualifiers parts)) _ _ ∙ same_behind (not_dynamic at (qualifiers_from s no_qualifiers parts)) _ _ (λ y.
    nest (result_among s st.ctx st.work parts) _ _ ∙ same_behind (result_among s st.ctx st.work parts) _ _ (λ r.
    nest (default_captures st.ctx (default_in s intro) xs (used_in s st.ctx ps body)) _ _
    ∙ same_behind (default_captures st.ctx (default_in s intro) xs (used_in s st.ctx ps body)) _ _
    (λ ys. made_same s st (parts_of s at parts body ys ps r))))))

one_same : (s : List Lexeme) (st : State) (at : At) (kids : syntax.Trees) → code.lambda_of s st at kids ≡ rules.lambda_of s st at kids
one_same s st at (syntax.more intro (syntax.more parts (syntax.more body syntax.none))) = from_same s st at (kids_of intro) (kids_of parts) body
one_same s st at (syntax.more intro (syntax.more body syntax.none)) = from_same s st at (kids_of intro) syntax.none body
one_same s st at kids = refl

mutual
  pub lambdas_same : (s : List Lexeme) (st : State) (t : syntax.Tree) → code.lambdas_of s st t ≡ rules.lambdas_of s st t
  lambdas_same s st (syntax.node k.Lambda p token kids) = one_same s st (at_of p) kids
  lambdas_same s st (syntax.node k.SizeofExpression p token kids) = refl
  lambdas_same s st (syntax.node k.SizeofType p token kids) = refl
  lambdas_same s st (syntax.node kind p token kids) = among_same s st kids

  pub among_same : (s : List Lexeme) (st : State) (ts : syntax.Trees) → code.lambdas_among s st ts ≡ rules.lambdas_among s st ts
  among_same s st syntax.none = refl
  among_same s st (syntax.more t ts) = ap (λ z. and_then z (λ (x : State). code.lambdas_among s x ts)) (lambdas_same s st t)
      ∙ same_behind (rules.lambdas_of s st t) _ _ (λ x. among_same s x ts)

-- They leave what statements leave

kept_behind : (st y : State) (x : Written) (sig : Signature) (at : At) (place : ℕ) (tree : Tree) → Grown st y
    → On (Leaves st) (body_made (record st { ctx = declared_closure st x sig }) at place tree y)
kept_behind st y x sig at place tree h = skip (Leaves st) (within_frame y.ctx at y.work.frame) _ (λ i. record {
  source = refl;
  round = refl;
  types = refl;
  defaults = refl;
  enumerators = refl;
  variables = begins_refl st.ctx.variables;
  classes = h.classes;
  traits = h.traits;
  slots = h.slots;
  funcs = h.funcs;
  globals = h.globals;
  bodies = begins_trans st.bodies y.bodies _ h.bodies (begins_more y.bodies _);
})

with_kept : (s : List Lexeme) (st : State) (x : Written) (r : Typ) (sig : Signature) → On (Leaves st) (rules.lambda_with s st x r sig)
with_kept s st x r sig =
    let e : State = closure_entered st x (known r) r sig in
    skip (Leaves st) (check x.at Incomplete (is_complete st.ctx (held r))) _
    (λ y. skip (Leaves st) (closure_sized st x sig) _ (λ z. bind (Ends e) (Leaves st) (body_statements s e x) _ (body_kept_inside s e x)
    (λ d h. kept_behind st d.state x sig x.at (length st.ctx.funcs) _ (grown_lambda st d.state x (known r) r sig h))))

made_kept : (s : List Lexeme) (st : State) (x : Written) → On (Leaves st) (rules.lambda_made s st x)
made_kept s st x = skip (Leaves st) (rules.result_of s st x x.result) _
    (λ r. bind (Leaves st) (Leaves st) (rules.lambda_known s st x r) _
    (skip (Leaves st) (lambda_type st.ctx x r) _ (λ t. with_kept s st x r (signature_in (form_in t)))) (λ y h. h))

written_kept : (s : List Lexeme) (st : State) (at : At) (intro parts : syntax.Trees) (body : syntax.Tree)
    → On (Leaves st) (rules.lambda_written s st at intro parts body)
written_kept s st at intro parts body =
    skip (Leaves st) (explicit_captures s st.ctx (default_in s intro) intro) _
    (λ xs. skip (Leaves st) (parameters_among s st.ctx st.work parts) _
    (λ ps. skip (Leaves st) (not_dynamic at (qualifiers_from s no_qualifiers parts)) _ (λ y.
    skip (Leaves st) (result_among s st.ctx st.work parts) _
    (λ r. skip (Leaves st) (default_captures st.ctx (default_in s intro) xs (used_in s st.ctx ps body)) _
    (λ ys. made_kept s st (parts_of s at parts body ys ps r))))))

one_kept : (s : List Lexeme) (st : State) (at : At) (kids : syntax.Trees) → On (Leaves st) (rules.lambda_of s st at kids)
one_kept s st at (syntax.more intro (syntax.more parts (syntax.more body syntax.none))) = written_kept s st at (kids_of intro) (kids_of parts) body
one_kept s st at (syntax.more intro (syntax.more body syntax.none)) = written_kept s st at (kids_of intro) syntax.none body
one_kept s st at kids = tt

mutual
  each_kept : (s : List Lexeme) (st : State) (t : syntax.Tree) → On (Leaves st) (rules.lambdas_of s st t)
  each_kept s st (syntax.node k.Lambda p token kids) = one_kept s st (at_of p) kids
  each_kept s st (syntax.node k.SizeofExpression p token kids) = stays st
  each_kept s st (syntax.node k.SizeofType p token kids) = stays st
  each_kept s st (syntax.node kind p token kids) = among_kept s st kids

  among_kept : (s : List Lexeme) (st : State) (ts : syntax.Trees) → On (Leaves st) (rules.lambdas_among s st ts)
  among_kept s st syntax.none = stays st
  among_kept s st (syntax.more t ts) = follow of_state of_state st (rules.lambdas_of s st t) _ (each_kept s st t) (λ x. among_kept s x ts)

pub lambdas_lawful : Lawful rules.lambdas_of
lambdas_lawful = record { each = λ s st t. each_kept s st t }
