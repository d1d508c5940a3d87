-- What makes lambdas leaves what the function has as it is.
use Rattle.std.proofs.Common.{refl, ◌∙◌, ℕ, false, List, length}
use Rattle.elab_rules.specs.cpp_types.Typ.{Typ, Signature}
use Rattle.elab_rules.specs.cpp_types.Class.{held as held_class}
use Rattle.elab_rules.specs.cpp_types.declared.classes.At.{At}
use Rattle.elab_rules.specs.cpp_lex.Tokens.{Lexeme}
use Rattle.elab_rules.specs.cpp_ast.declared.kinds.NodeKind.TheVariants as k
use Rattle.elab_rules.specs.cpp_ast.Trees as syntax
use Rattle.elab_rules.specs.cpp_tree.declared.faults.IllRule.TheVariants.{Incomplete}
use Rattle.elab_rules.specs.cpp_tree.declared.kinds.TKind.TheVariants as forms
use Rattle.elab_rules.specs.cpp_tree.Trees.{Tree}
use Rattle.elab_rules.specs.cpp_tree.Typing.{form_in}
use Rattle.elab_rules.specs.elab_ctx.Ctx.{known}
use Rattle.elab_rules.specs.elab_ctx.Steps.{check, at_of}
use Rattle.elab_rules.specs.Objects.{followed_by}
use Rattle.elab_rules.specs.Operators.{is_complete}
use Rattle.elab_rules.specs.Types.{no_qualifiers, qualifiers_from}
use Rattle.elab_rules.specs.Functions
use Rattle.elab_rules.specs.Lambdas
use Rattle.elab_rules.specs.Lambdas.{Written, lambda_entered, declared_closure, lambdas_of}
use Rattle.elab_rules.specs.Statements.{State, statement}
use Rattle.elab_fits.specs.Standing.{On}
use Rattle.elab_fits.proofs.Steps.{bind, skip, weaken as turn, answered as held_by}
use Rattle.elab_movable.specs.Movable.{LeavesThis, KeepsThis}

same : (st : State) → LeavesThis st st
same st = record { variables = refl; lambda = refl; this = refl; frame = refl }

left : (st : State) (w : Written) (sig : Signature) (at : At) (func : ℕ) (tree : Tree) (y : State)
    → On (LeavesThis st) (Functions.body_made (record st { ctx = declared_closure st w sig }) at func tree y)
left st w sig at func tree y =
    skip (LeavesThis st) (Functions.within_frame y.ctx at y.work.frame) _ (λ i. record { variables = refl; lambda = refl; this = refl; frame = refl })

with_leaves : (s : List Lexeme) (st : State) (w : Written) (r : Typ) (sig : Signature) → On (LeavesThis st) (Lambdas.lambda_with s st w r sig)
with_leaves s st w r sig = skip (LeavesThis st) (check w.at Incomplete (is_complete st.ctx (held_class r))) _
    (λ y. skip (LeavesThis st) (Lambdas.closure_sized st w sig) _
    (λ z. skip (LeavesThis st) (Lambdas.body_statements s (Lambdas.inside st (lambda_entered st w (known r) r) (declared_closure st w sig)) w) _
    (λ d. left st w sig w.at (length st.ctx.funcs)
    (statement (forms.Block false) w.body_at (followed_by d.trees (Functions.end_of d.state.ctx r w.body_at))) d.state)))

made_leaves : (s : List Lexeme) (st : State) (w : Written) → On (LeavesThis st) (Lambdas.lambda_made s st w)
made_leaves s st w = skip (LeavesThis st) (Lambdas.result_of s st w w.result) _
    (λ (r : Typ). bind (LeavesThis st) (LeavesThis st) (Lambdas.lambda_known s st w r) _
    (skip (LeavesThis st) (Lambdas.lambda_type st.ctx w r) _ (λ (t : Typ). with_leaves s st w r (Lambdas.signature_in (form_in t))))
    (λ y h. record { variables = h.variables; lambda = h.lambda; this = h.this; frame = h.frame }))

written_leaves : (s : List Lexeme) (st : State) (at : At) (intro ts : syntax.Trees) (body : syntax.Tree)
    → On (LeavesThis st) (Lambdas.lambda_written s st at intro ts body)
written_leaves s st at intro ts body =
    skip (LeavesThis st) (Lambdas.explicit_captures s st.ctx (Lambdas.default_in s intro) intro) _
    (λ xs. skip (LeavesThis st) (Lambdas.parameters_among s st.ctx st.work ts) _
    (λ ps. skip (LeavesThis st) (Lambdas.not_dynamic at (qualifiers_from s no_qualifiers ts)) _ (λ y.
    skip (LeavesThis st) (Lambdas.result_among s st.ctx st.work ts) _
    (λ r. skip (LeavesThis st) (Lambdas.default_captures st.ctx (Lambdas.default_in s intro) xs (Lambdas.used_in s st.ctx ps body)) _
    (λ ys. made_leaves s st (record {
      at = at;
      captures = ys;
      params = ps;
      qualifiers = qualifiers_from s no_qualifiers ts;
      is_mutable = Lambdas.has_mutable ts;
      result = r;
      body = Lambdas.kids_of body;
      body_at = Lambdas.place_of_tree body;
      closed = Lambdas.closing s body;
    }))))))

one_leaves : (s : List Lexeme) (st : State) (at : At) (kids : syntax.Trees) → On (LeavesThis st) (Lambdas.lambda_of s st at kids)
one_leaves s st at (syntax.more intro (syntax.more ts (syntax.more body syntax.none))) =
    written_leaves s st at (Lambdas.kids_of intro) (Lambdas.kids_of ts) body
one_leaves s st at (syntax.more intro (syntax.more body syntax.none)) = written_leaves s st at (Lambdas.kids_of intro) syntax.none body
one_leaves s st at kids = tt

mutual
  each_leaves : (s : List Lexeme) (st : State) (t : syntax.Tree) → On (LeavesThis st) (Lambdas.lambdas_of s st t)
  each_leaves s st (syntax.node k.Lambda q token kids) = one_leaves s st (at_of q) kids
  each_leaves s st (syntax.node k.SizeofExpression q token kids) = same st
  each_leaves s st (syntax.node k.SizeofType q token kids) = same st
  each_leaves s st (syntax.node kind q token kids) = among_leaves s st kids

  among_leaves : (s : List Lexeme) (st : State) (ts : syntax.Trees) → On (LeavesThis st) (Lambdas.lambdas_among s st ts)
  among_leaves s st syntax.none = same st
  among_leaves s st (syntax.more t ts) = bind (LeavesThis st) (LeavesThis st) (Lambdas.lambdas_of s st t) _ (each_leaves s st t)
      (λ x h. turn (LeavesThis x) (LeavesThis st) (Lambdas.lambdas_among s x ts) (λ y i. record {
        variables = i.variables ∙ h.variables;
        lambda = i.lambda ∙ h.lambda;
        this = i.this ∙ h.this;
        frame = i.frame ∙ h.frame;
      }) (among_leaves s x ts))

pub lambdas_keep : KeepsThis lambdas_of
lambdas_keep s st t x e = held_by (LeavesThis st) (Lambdas.lambdas_of s st t) x (each_leaves s st t) e
