-- Lambdas: their bodies own the places behind the words of their calls, and what makes them leaves the frame.
use Rattle.std.proofs.Common.{◌≡◌, refl, ◌∙◌, ℕ, ◌+◌, false, List, length, length-append, Option, Some, None}
use Rattle.std.proofs.Common.{Result, Ok, Err}
use Rattle.elab_rules.specs.cpp_types.Typ.{Typ, Signature}
use Rattle.elab_rules.specs.cpp_types.Class.{held as held_class}
use Rattle.elab_rules.specs.cpp_types.declared.classes.At.{At}
use Rattle.elab_rules.specs.cpp_lex.Tokens.{Lexeme}
use Rattle.elab_rules.specs.cpp_ast.declared.kinds.NodeKind.TheVariants as k
use Rattle.elab_rules.specs.cpp_ast.Trees as syntax
use Rattle.elab_rules.specs.cpp_tree.declared.kinds.TKind.TheVariants as forms
use Rattle.elab_rules.specs.cpp_tree.declared.faults.ElabFault.{ElabFault}
use Rattle.elab_rules.specs.cpp_tree.declared.faults.IllRule.TheVariants.{Incomplete}
use Rattle.elab_rules.specs.cpp_tree.Trees.{Tree}
use Rattle.elab_rules.specs.cpp_tree.Typing.{form_in}
use Rattle.elab_rules.specs.elab_ctx.Ctx.{Ctx, Returns, known}
use Rattle.elab_rules.specs.elab_ctx.Steps.{and_then, check, at_of}
use Rattle.elab_rules.specs.Objects.{followed_by}
use Rattle.elab_rules.specs.Operators.{is_complete}
use Rattle.elab_rules.specs.Types.{no_qualifiers, qualifiers_from}
use Rattle.elab_rules.specs.Statements.{State, Done, statement, statements_of}
use Rattle.elab_rules.specs.Functions
use Rattle.elab_rules.specs.Functions.{result_items, with_parameters}
use Rattle.elab_rules.specs.Lambdas
use Rattle.elab_rules.specs.Lambdas.{Written, no_lambda, first_lambda, lambda_entered, declared_closure}
use Rattle.elab_places.specs.Bodies.{DefaultsOwn, FrameKept}
use Rattle.elab_places.specs.Functions.{MakesBody, LambdaBodiesOwn, LambdasLeave, NoLambdasLeave}
use Rattle.elab_places.proofs.Steps.{On, bind, skip, turn, held_by}
use Rattle.elab_places.proofs.Declaring.{Ends}
use Rattle.elab_places.proofs.Bodies.{Enters, parameters, in_body, body_is_made, block_counts}

-- In a lambda there is none

refused_leaves : (st : State) (o : Option At) (x : State) → Lambdas.refused_at st o ≡ Ok x → FrameKept st x
refused_leaves st o x e = held_by (FrameKept st) (Lambdas.refused_at st o) x (kept o) e
  where
    kept : (z : Option At) → On (FrameKept st) (Lambdas.refused_at st z)
    kept (Some at) = tt
    kept None = record { frame = refl; defaults = refl }

pub no_lambdas_law : NoLambdasLeave
no_lambdas_law = record { each = λ s st t x e. refused_leaves st (first_lambda t) x e }

-- Bodies

pub entered : (st : State) (w : Written) (rs : Returns) (r : Typ) (c : Ctx) → DefaultsOwn st.ctx.defaults
    → Enters (length (result_items r) + 1) (Lambdas.inside st (lambda_entered st w rs r) c)
entered st w rs r c own = record { frame = length-append (result_items r) _; own = own }

lambda_with_made : (s : List Lexeme) (st : State) (w : Written) (r : Typ) (sig : Signature) → DefaultsOwn st.ctx.defaults
    → On (MakesBody (length (result_items r) + 1 + length w.params) (length st.ctx.funcs) st) (Lambdas.lambda_with s st w r sig)
lambda_with_made s st w r sig own = skip P (check w.at Incomplete (is_complete st.ctx (held_class r))) _
    (λ y. skip P (Lambdas.closure_sized st w sig) _ (λ z. behind (with_parameters s into w.params)
    (parameters s into (length (result_items r) + 1) w.params (entered st w (known r) r (declared_closure st w sig) own))))
  where
    words : ℕ
    words = length (result_items r) + 1 + length w.params

    P : State → Type 0
    P = MakesBody words (length st.ctx.funcs) st

    into : State
    into = Lambdas.inside st (lambda_entered st w (known r) r) (declared_closure st w sig)

    finished : Done → Result State ElabFault
    finished d = Functions.body_made (record st { ctx = declared_closure st w sig }) w.at (length st.ctx.funcs)
        (statement (forms.Block false) w.body_at (followed_by d.trees (Functions.end_of d.state.ctx r w.body_at))) d.state

    -- the closure's class and its call are added to the context, which leaves the rest
    same_kept : (x : State) → MakesBody words (length st.ctx.funcs) (record st { ctx = declared_closure st w sig }) x → P x
    same_kept x h = record {
      kept = record { frame = h.kept.frame; defaults = h.kept.defaults };
      others = h.others;
      body = h.body;
      bodies = h.bodies;
      is = h.is;
      owns = h.owns;
    }

    ended : (e : State) (d : Done) → Enters words e → ((p : ℕ) → Ends p e d) → On P (finished d)
    ended e d i j = turn (MakesBody words (length st.ctx.funcs) (record st { ctx = declared_closure st w sig })) P (finished d) same_kept
        (body_is_made (record st { ctx = declared_closure st w sig }) w.at (length st.ctx.funcs)
        (statement (forms.Block false) w.body_at (followed_by d.trees (Functions.end_of d.state.ctx r w.body_at))) d.state words
        (λ p. block_counts p d.state.ctx r w.body_at w.body_at words e d i (j p)))

    stated : (e : State) → Enters words e → (z : Result Done ElabFault) → On (λ (d : Done). (p : ℕ) → Ends p e d) z → On P (and_then z finished)
    stated e i (Ok d) h = ended e d i h
    stated e i (Err f) h = tt

    behind : (z : Result State ElabFault) → On (Enters words) z
        → On P (and_then (and_then z (λ (y : State). statements_of no_lambda s y w.body)) finished)
    behind (Ok e) i = stated e i (statements_of no_lambda s e w.body) (in_body no_lambda no_lambdas_law s e w.body i.own)
    behind (Err f) i = tt

pub lambda_bodies_law : LambdaBodiesOwn
lambda_bodies_law s st w r sig x own e = held_by (MakesBody (length (result_items r) + 1 + length w.params) (length st.ctx.funcs) st)
    (Lambdas.lambda_with s st w r sig) x (lambda_with_made s st w r sig own) e

-- They leave the frame

left : (st : State) (w : Written) (sig : Signature) (at : At) (func : ℕ) (tree : Tree) (y : State)
    → On (FrameKept st) (Functions.body_made (record st { ctx = declared_closure st w sig }) at func tree y)
left st w sig at func tree y = skip (FrameKept st) (Functions.within_frame y.ctx at y.work.frame) _ (λ i. record { frame = refl; defaults = refl })

with_leaves : (s : List Lexeme) (st : State) (w : Written) (r : Typ) (sig : Signature) → On (FrameKept st) (Lambdas.lambda_with s st w r sig)
with_leaves s st w r sig = skip (FrameKept st) (check w.at Incomplete (is_complete st.ctx (held_class r))) _
    (λ y. skip (FrameKept st) (Lambdas.closure_sized st w sig) _
    (λ z. skip (FrameKept st) (Lambdas.body_statements s (Lambdas.inside st (lambda_entered st w (known r) r) (declared_closure st w sig)) w) _
    (λ d. left st w sig w.at (length st.ctx.funcs)
    (statement (forms.Block false) w.body_at (followed_by d.trees (Functions.end_of d.state.ctx r w.body_at))) d.state)))

made_leaves : (s : List Lexeme) (st : State) (w : Written) → On (FrameKept st) (Lambdas.lambda_made s st w)
made_leaves s st w = skip (FrameKept st) (Lambdas.result_of s st w w.result) _
    (λ (r : Typ). bind (FrameKept st) (FrameKept st) (Lambdas.lambda_known s st w r) _
    (skip (FrameKept st) (Lambdas.lambda_type st.ctx w r) _ (λ (t : Typ). with_leaves s st w r (Lambdas.signature_in (form_in t))))
    (λ y h. record { frame = h.frame; defaults = h.defaults }))

written_leaves : (s : List Lexeme) (st : State) (at : At) (intro ts : syntax.Trees) (body : syntax.Tree)
    → On (FrameKept st) (Lambdas.lambda_written s st at intro ts body)
written_leaves s st at intro ts body =
    skip (FrameKept st) (Lambdas.explicit_captures s st.ctx (Lambdas.default_in s intro) intro) _
    (λ xs. skip (FrameKept st) (Lambdas.parameters_among s st.ctx st.work ts) _
    (λ ps. skip (FrameKept st) (Lambdas.not_dynamic at (qualifiers_from s no_qualifiers ts)) _ (λ y.
    skip (FrameKept st) (Lambdas.result_among s st.ctx st.work ts) _
    (λ r. skip (FrameKept st) (Lambdas.default_captures st.ctx (Lambdas.default_in s intro) xs (Lambdas.used_in s st.ctx ps body)) _
    (λ ys. made_leaves s st (record {
      at = at;
      captures = ys;
      params = ps;
      qualifiers = qualifiers_from s no_qualifiers ts;
      is_mutable = Lambdas.has_mutable ts;
      result = r;
      body = Lambdas.kids_of body;
      body_at = Lambdas.place_of_tree body;
      closed = Lambdas.closing s body;
    }))))))

one_leaves : (s : List Lexeme) (st : State) (at : At) (kids : syntax.Trees) → On (FrameKept st) (Lambdas.lambda_of s st at kids)
one_leaves s st at (syntax.more intro (syntax.more ts (syntax.more body syntax.none))) = written_leaves s st at (Lambdas.kids_of intro) (Lambdas.kids_of ts) body
one_leaves s st at (syntax.more intro (syntax.more body syntax.none)) = written_leaves s st at (Lambdas.kids_of intro) syntax.none body
one_leaves s st at kids = tt

mutual
  each_leaves : (s : List Lexeme) (st : State) (t : syntax.Tree) → On (FrameKept st) (Lambdas.lambdas_of s st t)
  each_leaves s st (syntax.node k.Lambda q token kids) = one_leaves s st (at_of q) kids
  each_leaves s st (syntax.node k.SizeofExpression q token kids) = record { frame = refl; defaults = refl }
  each_leaves s st (syntax.node k.SizeofType q token kids) = record { frame = refl; defaults = refl }
  each_leaves s st (syntax.node kind q token kids) = among_leaves s st kids

  among_leaves : (s : List Lexeme) (st : State) (ts : syntax.Trees) → On (FrameKept st) (Lambdas.lambdas_among s st ts)
  among_leaves s st syntax.none = record { frame = refl; defaults = refl }
  among_leaves s st (syntax.more t ts) = bind (FrameKept st) (FrameKept st) (Lambdas.lambdas_of s st t) _ (each_leaves s st t)
      (λ x h. turn (FrameKept x) (FrameKept st) (Lambdas.lambdas_among s x ts)
      (λ y i. record { frame = i.frame ∙ h.frame; defaults = i.defaults ∙ h.defaults }) (among_leaves s x ts))

pub lambdas_law : LambdasLeave
lambdas_law = record { each = λ s st t x e. held_by (FrameKept st) (Lambdas.lambdas_of s st t) x (each_leaves s st t) e }
