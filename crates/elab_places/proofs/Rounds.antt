-- Bodies of lambdas and of functions own the places behind the words that their functions are shown with.
use Rattle.std.proofs.Common.{◌≡◌, refl, sym, ap, ◌∙◌, subst, ℕ, ◌+◌, ◌<◌, ◌≤◌, false, List, [], ◌∷◌, ◌++◌, length, length-append, Option, Some, None}
use Rattle.std.proofs.Common.{not, Result, Ok, Err, arith}
use Rattle.std.proofs.lemmas.List.{get_or_append_left, length-map}
use Rattle.std.proofs.lemmas.Option.{unwrap_or-slice_get}
use Rattle.std.proofs.Math.Seq.{get_or-append_seam}
use Rattle.elab_rules.specs.cpp_types.Typ.{Typ, Signature}
use Rattle.elab_rules.specs.cpp_types.Class.{held as held_class}
use Rattle.elab_rules.specs.cpp_types.declared.classes.At.{At}
use Rattle.elab_rules.specs.cpp_lex.Tokens.{Lexeme}
use Rattle.elab_rules.specs.cpp_ast.declared.kinds.NodeKind.TheVariants as k
use Rattle.elab_rules.specs.cpp_ast.Trees as syntax
use Rattle.elab_rules.specs.cpp_tree.declared.kinds.TKind.TheVariants as forms
use Rattle.elab_rules.specs.cpp_tree.declared.faults.ElabFault.{ElabFault}
use Rattle.elab_rules.specs.cpp_tree.declared.faults.IllRule.TheVariants.{Incomplete, BadDeclaration, OutOfProfile, AbstractObject}
use Rattle.elab_rules.specs.cpp_tree.Trees.{Tree}
use Rattle.elab_rules.specs.cpp_tree.Typing.{form_in, is_class_typ}
use Rattle.elab_rules.specs.cpp_tree.WellFormed.{places_of}
use Rattle.elab_rules.specs.elab_ctx.Ctx.{Ctx, Func, known}
use Rattle.elab_rules.specs.elab_ctx.Steps.{and_then, check, at_of}
use Rattle.elab_rules.specs.Objects.{followed_by}
use Rattle.elab_rules.specs.Initialising.{func_at, no_function, signature_result}
use Rattle.elab_rules.specs.Operators.{is_complete}
use Rattle.elab_rules.specs.Sizes.{typ_sized}
use Rattle.elab_rules.specs.Types
use Rattle.elab_rules.specs.Types.{Parameter, has_auto, is_abstract_type, is_declared_safe, no_qualifiers, qualifiers_from}
use Rattle.elab_rules.specs.Statements.{State, Done, Body, statement, statement_of, statements_of}
use Rattle.elab_rules.specs.Functions
use Rattle.elab_rules.specs.Functions.{Header, result_items, this_items, param_of, entered, with_parameters}
use Rattle.elab_rules.specs.Lambdas
use Rattle.elab_rules.specs.Lambdas.{Written, no_lambda, lambdas_of, first_lambda, lambda_entered, declared_closure}
use Rattle.elab_rules.specs.Programs.{words_of}
use Rattle.elab_places.specs.Places.{Owned}
use Rattle.elab_places.specs.Bodies.{DefaultsOwn}
use Rattle.elab_places.specs.Functions.{call_words}
use Rattle.elab_places.specs.Round.{Round, round_of, BodyOwns, BodiesOwn, AllOwned, LambdasKeepBodies, StatementsKeepBodies, FunctionsKeepBodies}
use Rattle.elab_places.proofs.Counting.{place, held, used, room}
use Rattle.elab_places.proofs.Steps.{On, bind, skip, turn, held_by}
use Rattle.elab_places.proofs.OfExpressions.{tree_owned}
use Rattle.elab_places.proofs.Declaring.{Ends}
use Rattle.elab_places.proofs.Bodies.{Enters, enters, parameters, in_body, block_counts}
use Rattle.elab_places.proofs.Keeping as keeping
use Rattle.elab_places.proofs.Lambdas as made
use Rattle.elab_places.proofs.Words.{result_words}

pub both : {A : Type 0} (P Q : A → Type 0) (r : Result A ElabFault) → On P r → On Q r → On (λ (a : A). P a × Q a) r
both P Q (Ok a) h i = (h, i)
both P Q (Err e) h i = tt

-- Functions that are known

pub front : (fs gs : List Func) (i : ℕ) → i < length fs → func_at (fs ++ gs) i ≡ func_at fs i
front fs gs i l = unwrap_or-slice_get (fs ++ gs) i no_function ∙ get_or_append_left fs gs no_function i l ∙ sym (unwrap_or-slice_get fs i no_function)

last : (fs : List Func) (f : Func) → func_at (fs ++ f ∷ []) (length fs) ≡ f
last fs f = unwrap_or-slice_get (fs ++ f ∷ []) (length fs) no_function ∙ get_or-append_seam fs f [] no_function

further : (fs : List Func) (f : Func) (i : ℕ) → i < length fs → i < length (fs ++ f ∷ [])
further fs f i l = let e = length-append fs (f ∷ []) in omega arith

body_more : (fs : List Func) (f : Func) (b : Body) → BodyOwns fs b → BodyOwns (fs ++ f ∷ []) b
body_more fs f b h = record {
  known = further fs f b.func h.known;
  owns = subst (λ (n : ℕ). Owned n (length b.frame) (places_of b.tree)) (ap words_of (sym (front fs (f ∷ []) b.func h.known))) h.owns;
}

pub bodies_more : (fs : List Func) (f : Func) (bs : List Body) → BodiesOwn fs bs → BodiesOwn (fs ++ f ∷ []) bs
bodies_more fs f [] h = tt
bodies_more fs f (b ∷ bs) h = (body_more fs f b h.0, bodies_more fs f bs h.1)

one_body : (fs : List Func) (bs : List Body) (b : Body) → BodiesOwn fs bs → BodyOwns fs b → BodiesOwn fs (bs ++ b ∷ [])
one_body fs [] b h i = (i, tt)
one_body fs (x ∷ bs) b h i = (h.0, one_body fs bs b h.1 i)

-- A lambda adds its call, and the body of that

record Adds (st x : State) : Type 0 where
  func : Func
  body : Body
  defaults : x.ctx.defaults ≡ st.ctx.defaults
  funcs : x.ctx.funcs ≡ st.ctx.funcs ++ func ∷ []
  bodies : x.bodies ≡ st.bodies ++ body ∷ []
  is : body.func ≡ length st.ctx.funcs
  owns : Owned (words_of func) (length body.frame) (places_of body.tree)

-- in a lambda there is none
none_kept : (K : Round → Type 0) (s : List Lexeme) (st : State) (t : syntax.Tree) → K (round_of st) → On (λ (x : State). K (round_of x)) (no_lambda s st t)
none_kept K s st t h = kept (first_lambda t)
  where
    kept : (o : Option At) → On (λ (x : State). K (round_of x)) (Lambdas.refused_at st o)
    kept (Some at) = tt
    kept None = h

abbrev call_of : State → Written → Signature → Func
call_of st w sig = record
    (Lambdas.call_func (length st.ctx.classes) (Lambdas.call_record w.at sig w.qualifiers w.is_mutable) w.params) { closed_at = w.closed }

call_words_of : (st : State) (w : Written) (r : Typ) (sig : Signature) → signature_result sig ≡ r
    → words_of (call_of st w sig) ≡ length (result_items r) + 1 + length w.params
call_words_of st w r sig e = let a = result_words (signature_result sig) (is_class_typ (signature_result sig)) in
    let b : length (result_items (signature_result sig)) ≡ length (result_items r) = ap (λ (t : Typ). length (result_items t)) e in
    let c = length-map w.params param_of in omega arith

same_call : (st : State) (w : Written) (sig : Signature) → (declared_closure st w sig).funcs ≡ st.ctx.funcs ++ call_of st w sig ∷ []
same_call st w sig = refl

-- what statements in a lambda leave
record Left (st : State) (w : Written) (sig : Signature) (r : Round) : Type 0 where
  funcs : r.funcs ≡ st.ctx.funcs ++ call_of st w sig ∷ []
  bodies : r.bodies ≡ st.bodies

lambda_adds : (s : List Lexeme) (st : State) (w : Written) (r : Typ) (sig : Signature) → DefaultsOwn st.ctx.defaults → signature_result sig ≡ r
    → On (Adds st) (Lambdas.lambda_with s st w r sig)
lambda_adds s st w r sig own e = skip (Adds st) (check w.at Incomplete (is_complete st.ctx (held_class r))) _
    (λ y. skip (Adds st) (Lambdas.closure_sized st w sig) _
    (λ v. begun (with_parameters s into w.params) (both (Enters words) (λ (x : State). Left st w sig (round_of x)) (with_parameters s into w.params)
    (parameters s into (length (result_items r) + 1) w.params (made.entered st w (known r) r (declared_closure st w sig) own))
    (keeping.parameters (Left st w sig) s into w.params (record { funcs = same_call st w sig; bodies = refl })))))
  where
    words : ℕ
    words = length (result_items r) + 1 + length w.params

    into : State
    into = Lambdas.inside st (lambda_entered st w (known r) r) (declared_closure st w sig)

    finished : Done → Result State ElabFault
    finished d = Functions.body_made (record st { ctx = declared_closure st w sig }) w.at (length st.ctx.funcs)
        (statement (forms.Block false) w.body_at (followed_by d.trees (Functions.end_of d.state.ctx r w.body_at))) d.state

    ended : (z : State) (d : Done) → Enters words z → ((p : ℕ) → Ends p z d) → Left st w sig (round_of d.state) → On (Adds st) (finished d)
    ended z d i j l = skip (Adds st) (Functions.within_frame d.state.ctx w.at d.state.work.frame) _ (λ y. record {
      func = call_of st w sig;
      body = record {
        func = length st.ctx.funcs;
        tree = statement (forms.Block false) w.body_at (followed_by d.trees (Functions.end_of d.state.ctx r w.body_at));
        frame = d.state.work.frame;
      };
      defaults = refl;
      funcs = l.funcs;
      bodies = ap (λ (bs : List Body). bs ++ record {
        func = length st.ctx.funcs;
        tree = statement (forms.Block false) w.body_at (followed_by d.trees (Functions.end_of d.state.ctx r w.body_at));
        frame = d.state.work.frame;
      } ∷ []) l.bodies;
      is = refl;
      owns = subst (λ (n : ℕ). Owned n (length d.state.work.frame)
          (places_of (statement (forms.Block false) w.body_at (followed_by d.trees (Functions.end_of d.state.ctx r w.body_at)))))
          (sym (call_words_of st w r sig e))
          (tree_owned words (length d.state.work.frame)
          (statement (forms.Block false) w.body_at (followed_by d.trees (Functions.end_of d.state.ctx r w.body_at)))
          (λ p. block_counts p d.state.ctx r w.body_at w.body_at words z d i (j p)));
    })

    stated : (z : State) → Enters words z → (q : Result Done ElabFault)
        → On (λ (d : Done). ((p : ℕ) → Ends p z d) × Left st w sig (round_of d.state)) q → On (Adds st) (and_then q finished)
    stated z i (Ok d) h = ended z d i h.0 h.1
    stated z i (Err f) h = tt

    begun : (q : Result State ElabFault) → On (λ (x : State). Enters words x × Left st w sig (round_of x)) q
        → On (Adds st) (and_then (and_then q (λ (y : State). statements_of no_lambda s y w.body)) finished)
    begun (Ok z) h = stated z h.0 (statements_of no_lambda s z w.body)
        (both (λ (d : Done). (p : ℕ) → Ends p z d) (λ (d : Done). Left st w sig (round_of d.state)) (statements_of no_lambda s z w.body)
        (in_body no_lambda made.no_lambdas_law s z w.body h.0.own)
        (keeping.statements (Left st w sig) no_lambda (none_kept (Left st w sig)) s z w.body h.1))
    begun (Err f) h = tt

-- the type of the call has the result
typed : (c : Ctx) (w : Written) (r : Typ) → On (λ (t : Typ). signature_result (Lambdas.signature_in (form_in t)) ≡ r) (Lambdas.lambda_type c w r)
typed c w r = bind P P (Types.function_of c w.at r w.params (is_declared_safe w.qualifiers)) _
    (skip P (check w.at BadDeclaration (Types.is_result r)) _ (λ x. skip P (check w.at OutOfProfile (not (has_auto r))) _
    (λ a. skip P (check w.at AbstractObject (not (is_abstract_type c r))) _ (λ y. skip P (Types.within_parameters w.at w.params) _ (λ z. refl)))))
    (λ t h. skip P (typ_sized c.classes w.at t) _ (λ y. h))
  where
    P : Typ → Type 0
    P t = signature_result (Lambdas.signature_in (form_in t)) ≡ r

made_adds : (s : List Lexeme) (st : State) (w : Written) → DefaultsOwn st.ctx.defaults → On (Adds st) (Lambdas.lambda_made s st w)
made_adds s st w own = skip (Adds st) (Lambdas.result_of s st w w.result) _
    (λ (r : Typ). bind (Adds st) (Adds st) (Lambdas.lambda_known s st w r) _
    (bind (λ (t : Typ). signature_result (Lambdas.signature_in (form_in t)) ≡ r) (Adds st) (Lambdas.lambda_type st.ctx w r) _ (typed st.ctx w r)
    (λ t e. lambda_adds s st w r (Lambdas.signature_in (form_in t)) own e))
    (λ y h. record { func = h.func; body = h.body; defaults = h.defaults; funcs = h.funcs; bodies = h.bodies; is = h.is; owns = h.owns }))

written_adds : (s : List Lexeme) (st : State) (at : At) (intro ts : syntax.Trees) (body : syntax.Tree) → DefaultsOwn st.ctx.defaults
    → On (Adds st) (Lambdas.lambda_written s st at intro ts body)
written_adds s st at intro ts body own =
    skip (Adds st) (Lambdas.explicit_captures s st.ctx (Lambdas.default_in s intro) intro) _
    (λ xs. skip (Adds st) (Lambdas.parameters_among s st.ctx st.work ts) _
    (λ ps. skip (Adds st) (Lambdas.not_dynamic at (qualifiers_from s no_qualifiers ts)) _ (λ y.
    skip (Adds st) (Lambdas.result_among s st.ctx st.work ts) _
    (λ r. skip (Adds st) (Lambdas.default_captures st.ctx (Lambdas.default_in s intro) xs (Lambdas.used_in s st.ctx ps body)) _
    (λ ys. made_adds s st (record {
      at = at;
      captures = ys;
      params = ps;
      qualifiers = qualifiers_from s no_qualifiers ts;
      is_mutable = Lambdas.has_mutable ts;
      result = r;
      body = Lambdas.kids_of body;
      body_at = Lambdas.place_of_tree body;
      closed = Lambdas.closing s body;
    }) own)))))

one_adds : (s : List Lexeme) (st : State) (at : At) (kids : syntax.Trees) → DefaultsOwn st.ctx.defaults → On (Adds st) (Lambdas.lambda_of s st at kids)
one_adds s st at (syntax.more intro (syntax.more ts (syntax.more body syntax.none))) own =
    written_adds s st at (Lambdas.kids_of intro) (Lambdas.kids_of ts) body own
one_adds s st at (syntax.more intro (syntax.more body syntax.none)) own = written_adds s st at (Lambdas.kids_of intro) syntax.none body own
one_adds s st at kids own = tt

-- What lambdas keep: all that their additions do

module _ (K : Round → Type 0) (own : (r : Round) → K r → DefaultsOwn r.defaults) (adds : (st x : State) → K (round_of st) → Adds st x → K (round_of x)) where
  mutual
    each : (s : List Lexeme) (st : State) (t : syntax.Tree) → K (round_of st) → On (λ (x : State). K (round_of x)) (lambdas_of s st t)
    each s st (syntax.node k.Lambda q token kids) h = turn (Adds st) (λ (x : State). K (round_of x)) (Lambdas.lambda_of s st (at_of q) kids)
        (λ x i. adds st x h i) (one_adds s st (at_of q) kids (own (round_of st) h))
    each s st (syntax.node k.SizeofExpression q token kids) h = h
    each s st (syntax.node k.SizeofType q token kids) h = h
    each s st (syntax.node kind q token kids) h = among s st kids h

    among : (s : List Lexeme) (st : State) (ts : syntax.Trees) → K (round_of st) → On (λ (x : State). K (round_of x)) (Lambdas.lambdas_among s st ts)
    among s st syntax.none h = h
    among s st (syntax.more t ts) h = bind (λ (x : State). K (round_of x)) (λ (x : State). K (round_of x)) (lambdas_of s st t) _ (each s st t h)
        (λ x i. among s x ts i)

all_added : (st x : State) → AllOwned (round_of st) → Adds st x → AllOwned (round_of x)
all_added st x h a = record {
  defaults = subst DefaultsOwn (sym a.defaults) h.defaults;
  bodies = subst (λ (fs : List Func). BodiesOwn fs x.bodies) (sym a.funcs)
      (subst (λ (bs : List Body). BodiesOwn (st.ctx.funcs ++ a.func ∷ []) bs) (sym a.bodies)
      (one_body (st.ctx.funcs ++ a.func ∷ []) st.bodies a.body (bodies_more st.ctx.funcs a.func st.bodies h.bodies) (record {
        known = let l = length-append st.ctx.funcs (a.func ∷ []) in let e = a.is in omega arith;
        owns = subst (λ (n : ℕ). Owned n (length a.body.frame) (places_of a.body.tree))
            (ap words_of (sym (last st.ctx.funcs a.func) ∙ ap (func_at (st.ctx.funcs ++ a.func ∷ [])) (sym a.is))) a.owns;
      })));
}

pub lambdas_keep : (s : List Lexeme) (st : State) (t : syntax.Tree) → AllOwned (round_of st) → On (λ (x : State). AllOwned (round_of x)) (lambdas_of s st t)
lambdas_keep s st t h = each AllOwned (λ r i. i.defaults) all_added s st t h

pub lambdas_bodies_law : LambdasKeepBodies
lambdas_bodies_law s st t x h e = held_by (λ (y : State). AllOwned (round_of y)) (lambdas_of s st t) x (lambdas_keep s st t h) e

pub statements_bodies_law : StatementsKeepBodies
statements_bodies_law s st t d h e = held_by (λ (y : Done). AllOwned (round_of y.state)) (statement_of lambdas_of s st t) d
    (keeping.one_statement AllOwned lambdas_of lambdas_keep s st t h) e

-- In a function that is known with its words

pub record InBody (func words : ℕ) (r : Round) : Type 0 where
  pub all : AllOwned r
  pub known : func < length r.funcs
  pub counted : words_of (func_at r.funcs func) ≡ words

in_added : (func words : ℕ) (st x : State) → InBody func words (round_of st) → Adds st x → InBody func words (round_of x)
in_added func words st x h a = record {
  all = all_added st x h.all a;
  known = subst (λ (fs : List Func). func < length fs) (sym a.funcs) (further st.ctx.funcs a.func func h.known);
  counted = ap (λ (fs : List Func). words_of (func_at fs func)) a.funcs ∙ ap words_of (front st.ctx.funcs (a.func ∷ []) func h.known) ∙ h.counted;
}

pub in_keep : (func words : ℕ) (s : List Lexeme) (st : State) (t : syntax.Tree) → InBody func words (round_of st)
    → On (λ (x : State). InBody func words (round_of x)) (lambdas_of s st t)
in_keep func words s st t h = each (InBody func words) (λ r i. i.all.defaults) (in_added func words) s st t h

pub made_keep : (func words : ℕ) (old : State) (at : At) (tree : Tree) (st : State) → DefaultsOwn old.ctx.defaults → InBody func words (round_of st)
    → ((p : ℕ) → held (place p) tree + room (place p) words ≤ used (place p) st.work)
    → On (λ (x : State). AllOwned (round_of x)) (Functions.body_made old at func tree st)
made_keep func words old at tree st own h c = skip (λ (x : State). AllOwned (round_of x)) (Functions.within_frame st.ctx at st.work.frame) _ (λ y. record {
  defaults = own;
  bodies = one_body st.ctx.funcs st.bodies (record { func = func; tree = tree; frame = st.work.frame }) h.all.bodies (record {
    known = h.known;
    owns = subst (λ (n : ℕ). Owned n (length st.work.frame) (places_of tree)) (sym h.counted) (tree_owned words (length st.work.frame) tree c);
  });
})

function_keeps : (s : List Lexeme) (st : State) (h : Header) (this : Option Typ) (func : ℕ) (t : syntax.Tree)
    → InBody func (call_words (signature_result h.signature) this (length h.params)) (round_of st)
    → On (λ (x : State). AllOwned (round_of x)) (Functions.function_body lambdas_of s st h this func t)
function_keeps s st h this func (syntax.node kind q token kids) i =
    skip (λ (x : State). AllOwned (round_of x)) (check h.at Incomplete (is_complete st.ctx (held_class (signature_result h.signature)))) _
    (λ x. bind (λ (e : State). Enters words e × InBody func words (round_of e)) (λ (x : State). AllOwned (round_of x)) (with_parameters s into h.params) _
    (both (Enters words) (λ (e : State). InBody func words (round_of e)) (with_parameters s into h.params)
    (parameters s into (length (result_items (signature_result h.signature)) + length (this_items this)) h.params
    (enters st (signature_result h.signature) this h.class i.all.defaults))
    (keeping.parameters (InBody func words) s into h.params (record { all = i.all; known = i.known; counted = i.counted })))
    (λ e j. bind (λ (d : Done). ((p : ℕ) → Ends p e d) × InBody func words (round_of d.state)) (λ (x : State). AllOwned (round_of x))
    (statements_of lambdas_of s e kids) _
    (both (λ (d : Done). (p : ℕ) → Ends p e d) (λ (d : Done). InBody func words (round_of d.state)) (statements_of lambdas_of s e kids)
    (in_body lambdas_of made.lambdas_law s e kids j.0.own)
    (keeping.statements (InBody func words) lambdas_of (in_keep func words) s e kids j.1))
    (λ d l. made_keep func words st h.at
    (statement (forms.Block false) (at_of q) (followed_by d.trees (Functions.end_of d.state.ctx (signature_result h.signature) (at_of q)))) d.state
    i.all.defaults l.1
    (λ p. block_counts p d.state.ctx (signature_result h.signature) (at_of q) (at_of q) words e d j.0 (l.0 p)))))
  where
    words : ℕ
    words = call_words (signature_result h.signature) this (length h.params)

    into : State
    into = entered st (signature_result h.signature) this h.class

pub functions_bodies_law : FunctionsKeepBodies
functions_bodies_law s st h this func t x all l w e =
    held_by (λ (y : State). AllOwned (round_of y)) (Functions.function_body lambdas_of s st h this func t) x
    (function_keeps s st h this func t (record { all = all; known = l; counted = w })) e
