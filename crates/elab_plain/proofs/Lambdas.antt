-- Bodies of lambdas declare plainly, and what makes lambdas leaves what does.
use Rattle.std.proofs.Common.{false, List, length, Option, Some, None, Result, Ok, Err}
use Rattle.elab_rules.specs.cpp_types.Typ.{Typ, Signature}
use Rattle.elab_rules.specs.cpp_types.Class.{held as held_class}
use Rattle.elab_rules.specs.cpp_types.declared.classes.At.{At}
use Rattle.elab_rules.specs.cpp_lex.Tokens.{Lexeme}
use Rattle.elab_rules.specs.cpp_ast.declared.kinds.NodeKind.TheVariants as k
use Rattle.elab_rules.specs.cpp_ast.Trees as syntax
use Rattle.elab_rules.specs.cpp_tree.declared.kinds.TKind.TheVariants as forms
use Rattle.elab_rules.specs.cpp_tree.declared.faults.ElabFault.{ElabFault}
use Rattle.elab_rules.specs.cpp_tree.declared.faults.IllRule.TheVariants.{Incomplete}
use Rattle.elab_rules.specs.cpp_tree.Typing.{form_in}
use Rattle.elab_rules.specs.elab_ctx.Ctx.{known}
use Rattle.elab_rules.specs.elab_ctx.Steps.{and_then, check, at_of}
use Rattle.elab_rules.specs.Objects.{followed_by}
use Rattle.elab_rules.specs.Operators.{is_complete}
use Rattle.elab_rules.specs.Types.{no_qualifiers, qualifiers_from}
use Rattle.elab_rules.specs.Statements.{State, Done, statement, statements_of}
use Rattle.elab_rules.specs.Functions
use Rattle.elab_rules.specs.Functions.{with_parameters}
use Rattle.elab_rules.specs.Lambdas
use Rattle.elab_rules.specs.Lambdas.{Written, no_lambda, first_lambda, lambda_entered, declared_closure, lambdas_of}
use Rattle.elab_places.proofs.Steps.{On, bind, skip}
use Rattle.elab_places.proofs.Keeping as keeping
use Rattle.elab_plain.specs.Plain.{RoundPlain}
use Rattle.elab_plain.proofs.Declaring.{StatePlain, Ends}
use Rattle.elab_plain.proofs.Statements.{statements}
use Rattle.elab_plain.proofs.Bodies.{block_plain, made_plain}

-- In a lambda there is none

none_plain : (s : List Lexeme) (st : State) (t : syntax.Tree) → StatePlain st → On StatePlain (no_lambda s st t)
none_plain s st t h = kept (first_lambda t)
  where
    kept : (o : Option At) → On StatePlain (Lambdas.refused_at st o)
    kept (Some at) = tt
    kept None = h

-- Bodies

lambda_with_plain : (s : List Lexeme) (st : State) (w : Written) (r : Typ) (sig : Signature) → StatePlain st
    → On StatePlain (Lambdas.lambda_with s st w r sig)
lambda_with_plain s st w r sig own = skip StatePlain (check w.at Incomplete (is_complete st.ctx (held_class r))) _
    (λ y. skip StatePlain (Lambdas.closure_sized st w sig) _ (λ z. behind (with_parameters s into w.params)
    (keeping.parameters RoundPlain s into w.params (record { defaults = own.defaults; bodies = own.bodies }))))
  where
    into : State
    into = Lambdas.inside st (lambda_entered st w (known r) r) (declared_closure st w sig)

    finished : Done → Result State ElabFault
    finished d = Functions.body_made (record st { ctx = declared_closure st w sig }) w.at (length st.ctx.funcs)
        (statement (forms.Block false) w.body_at (followed_by d.trees (Functions.end_of d.state.ctx r w.body_at))) d.state

    stated : (z : Result Done ElabFault) → On Ends z → On StatePlain (and_then z finished)
    stated (Ok d) h = made_plain (record st { ctx = declared_closure st w sig }) w.at (length st.ctx.funcs)
        (statement (forms.Block false) w.body_at (followed_by d.trees (Functions.end_of d.state.ctx r w.body_at))) d.state own.defaults h.own
        (block_plain d.state.ctx r w.body_at w.body_at d h)
    stated (Err f) h = tt

    behind : (z : Result State ElabFault) → On StatePlain z
        → On StatePlain (and_then (and_then z (λ (y : State). statements_of no_lambda s y w.body)) finished)
    behind (Ok e) i = stated (statements_of no_lambda s e w.body) (statements no_lambda none_plain s e w.body i)
    behind (Err f) i = tt

made_lambda : (s : List Lexeme) (st : State) (w : Written) → StatePlain st → On StatePlain (Lambdas.lambda_made s st w)
made_lambda s st w own = skip StatePlain (Lambdas.result_of s st w w.result) _
    (λ (r : Typ). bind StatePlain StatePlain (Lambdas.lambda_known s st w r) _
    (skip StatePlain (Lambdas.lambda_type st.ctx w r) _ (λ (t : Typ). lambda_with_plain s st w r (Lambdas.signature_in (form_in t)) own))
    (λ y h. record { defaults = h.defaults; bodies = h.bodies }))

written_lambda : (s : List Lexeme) (st : State) (at : At) (intro ts : syntax.Trees) (body : syntax.Tree) → StatePlain st
    → On StatePlain (Lambdas.lambda_written s st at intro ts body)
written_lambda s st at intro ts body own =
    skip StatePlain (Lambdas.explicit_captures s st.ctx (Lambdas.default_in s intro) intro) _
    (λ xs. skip StatePlain (Lambdas.parameters_among s st.ctx st.work ts) _
    (λ ps. skip StatePlain (Lambdas.not_dynamic at (qualifiers_from s no_qualifiers ts)) _ (λ y.
    skip StatePlain (Lambdas.result_among s st.ctx st.work ts) _
    (λ r. skip StatePlain (Lambdas.default_captures st.ctx (Lambdas.default_in s intro) xs (Lambdas.used_in s st.ctx ps body)) _
    (λ ys. made_lambda s st (record {
      at = at;
      captures = ys;
      params = ps;
      qualifiers = qualifiers_from s no_qualifiers ts;
      is_mutable = Lambdas.has_mutable ts;
      result = r;
      body = Lambdas.kids_of body;
      body_at = Lambdas.place_of_tree body;
      closed = Lambdas.closing s body;
    }) own)))))

one_lambda : (s : List Lexeme) (st : State) (at : At) (kids : syntax.Trees) → StatePlain st → On StatePlain (Lambdas.lambda_of s st at kids)
one_lambda s st at (syntax.more intro (syntax.more ts (syntax.more body syntax.none))) own =
    written_lambda s st at (Lambdas.kids_of intro) (Lambdas.kids_of ts) body own
one_lambda s st at (syntax.more intro (syntax.more body syntax.none)) own = written_lambda s st at (Lambdas.kids_of intro) syntax.none body own
one_lambda s st at kids own = tt

mutual
  pub lambdas_plain : (s : List Lexeme) (st : State) (t : syntax.Tree) → StatePlain st → On StatePlain (lambdas_of s st t)
  lambdas_plain s st (syntax.node k.Lambda q token kids) own = one_lambda s st (at_of q) kids own
  lambdas_plain s st (syntax.node k.SizeofExpression q token kids) own = own
  lambdas_plain s st (syntax.node k.SizeofType q token kids) own = own
  lambdas_plain s st (syntax.node kind q token kids) own = among_plain s st kids own

  among_plain : (s : List Lexeme) (st : State) (ts : syntax.Trees) → StatePlain st → On StatePlain (Lambdas.lambdas_among s st ts)
  among_plain s st syntax.none own = own
  among_plain s st (syntax.more t ts) own = bind StatePlain StatePlain (lambdas_of s st t) _ (lambdas_plain s st t own) (λ x h. among_plain s x ts h)
