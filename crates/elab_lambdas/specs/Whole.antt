-- Lambdas as they are made: what stands behind a body is `left_by` of what stood round it, and what was made to read a body for its result is taken away again.
use Rattle.std.specs.Prelude.{false, List, length, map, take, Option, Some, None, option_map, Result, Ok, Err}
use Rattle.elab_entry.specs.cpp_types.Typ.{Typ, void, Signature, typ_of}
use Rattle.elab_entry.specs.cpp_types.Class.{held}
use Rattle.elab_entry.specs.cpp_types.declared.classes.At.{At}
use Rattle.elab_entry.specs.cpp_lex.Tokens.{Lexeme}
use Rattle.elab_entry.specs.cpp_ast.declared.kinds.NodeKind.TheVariants as k
use Rattle.elab_entry.specs.cpp_ast.Trees as syntax
use Rattle.elab_entry.specs.cpp_tree.declared.kinds.TKind.TheVariants as forms
use Rattle.elab_entry.specs.cpp_tree.declared.faults.ElabFault.{ElabFault}
use Rattle.elab_entry.specs.cpp_tree.declared.faults.ElabFault.TheVariants.{Ill}
use Rattle.elab_entry.specs.cpp_tree.declared.faults.IllRule.TheVariants.{Incomplete, OutOfProfile}
use Rattle.elab_entry.specs.cpp_tree.Notation.{plain}
use Rattle.elab_entry.specs.cpp_tree.Trees.{one}
use Rattle.elab_entry.specs.cpp_tree.Typing.{form_in}
use Rattle.elab_entry.specs.elab_ctx.Ctx.{Ctx, Capture, Returns, known, deduced, capture_of}
use Rattle.elab_entry.specs.elab_ctx.Steps.{and_then, check, at_of}
use Rattle.elab_entry.specs.elab_rules.Objects.{followed_by}
use Rattle.elab_entry.specs.elab_rules.Operators.{is_complete}
use Rattle.elab_entry.specs.elab_rules.Sizes.{typ_sized}
use Rattle.elab_entry.specs.elab_rules.Types.{Parameter, Qualifiers, no_qualifiers, qualifiers_from, is_declared_safe, function_of}
use Rattle.elab_entry.specs.elab_rules.Statements.{State, Done, Lambdas, done, statement, the_tree}
use Rattle.elab_entry.specs.elab_rules.Functions.{end_of}
use Rattle.elab_entry.specs.elab_rules.Lambdas.{Written, kids_of, place_of_tree, signature_in, closure_sized, result_in, lambda_entered, declared_closure, inside}
use Rattle.elab_entry.specs.elab_rules.Lambdas.{body_statements, with_written, explicit_captures, default_in, default_captures, used_in, parameters_among}
use Rattle.elab_entry.specs.elab_rules.Lambdas.{result_among, not_dynamic, has_mutable, closing}
use Rattle.elab_entry.specs.elab_types.Shown.{parameter_of, qualifiers_of}
use Rattle.elab_entry.specs.elab_types.Syntax.{tree_at}
use Rattle.elab_entry.specs.Round.{round_lambda, left_by}
use Rattle.elab_entry.specs.Bodies.{body_made}
use Rattle.elab_lambdas.specs.declared.making.Written.{Written as WrittenRec}

-- What the records of the code show

-- what is written of a lambda, whose body is one of these trees
abbrev pub written_of : List syntax.Tree → WrittenRec → Written
written_of trees x = record {
  at = x.words.at;
  captures = map capture_of x.captures.items;
  params = map parameter_of x.params.items;
  qualifiers = qualifiers_of x.words.qualifiers;
  is_mutable = x.words.is_mutable;
  result = option_map typ_of x.result;
  body = kids_of (tree_at trees x.body);
  body_at = place_of_tree (tree_at trees x.body);
  closed = x.words.closed;
}

-- A lambda

-- the type of the call
abbrev pub call_signature : Ctx → At → Typ → List Parameter → Qualifiers → Result Signature ElabFault
call_signature c at r ps q = and_then (function_of c at r ps (is_declared_safe q))
    (λ (t : Typ). and_then (typ_sized c.classes at t) (λ y. Ok (signature_in (form_in t))))

-- into the body of a lambda, whose class and call are declared
abbrev pub closure_entered : State → Written → Returns → Typ → Signature → State
closure_entered st x rs r sig = inside st (lambda_entered st x rs r) (declared_closure st x sig)

-- the body as one block, with its end
abbrev pub ended : Written → Typ → Done → Result Done ElabFault
ended x r d = done (one (statement (forms.Block false) x.body_at (followed_by d.trees (end_of d.state.ctx r x.body_at)))) d.state

abbrev pub body_inside : List Lexeme → State → Written → Typ → Result Done ElabFault
body_inside s st x r = and_then (body_statements s st x) (ended x r)

-- what stands in the body is kept behind it
abbrev pub kept : State → Written → Done → Result State ElabFault
kept st x d = body_made (round_lambda st) x.at (length st.ctx.funcs) (the_tree x.at d.trees) d.state

-- with its result known: the body once
abbrev pub lambda_with : List Lexeme → State → Written → Typ → Signature → Result State ElabFault
lambda_with s st x r sig = and_then (check x.at Incomplete (is_complete st.ctx (held r)))
    (λ y. and_then (closure_sized st x sig)
    (λ z. and_then (body_statements s (closure_entered st x (known r) r sig) x) (λ (d : Done).
    body_made (round_lambda st) x.at (length st.ctx.funcs)
    (statement (forms.Block false) x.body_at (followed_by d.trees (end_of d.state.ctx r x.body_at))) d.state)))

abbrev pub lambda_known : List Lexeme → State → Written → Typ → Result State ElabFault
lambda_known s st x r = and_then (call_signature st.ctx x.at r x.params x.qualifiers) (λ (sig : Signature). lambda_with s st x r sig)

-- only so much is left as there was before
abbrev pub undone : State → State → State
undone before st = record {
  ctx = record st.ctx {
    classes = take (length before.ctx.classes) st.ctx.classes;
    traits = take (length before.ctx.traits) st.ctx.traits;
    slots = take
        (length before.ctx.slots) st.ctx.slots;
    funcs = take (length before.ctx.funcs) st.ctx.funcs;
  };
  work = record st.work { globals = take (length before.work.globals) st.work.globals };
  bodies = take (length before.bodies) st.bodies;
}

-- the result of a lambda, and what stands behind the reading of its body
pub record Deduced : Type 0 where
  pub typ : Typ
  pub state : State

abbrev pub result_read : List Lexeme → State → Written → Signature → Result Deduced ElabFault
result_read s st x sig = and_then (closure_sized st x sig)
    (λ z. and_then (body_statements s (closure_entered st x (deduced None) (plain void) sig) x)
    (λ (d : Done). Ok (record { typ = result_in d.state.ctx.returns; state = left_by (round_lambda st) d.state })))

abbrev pub result_deduced : List Lexeme → State → Written → Result Deduced ElabFault
result_deduced s st x = and_then (call_signature st.ctx x.at (plain void) x.params x.qualifiers)
    (λ (sig : Signature). and_then (result_read s st x sig) (λ (r : Deduced). Ok (record { typ = r.typ; state = undone st r.state })))

abbrev pub result_of : List Lexeme → State → Written → Option Typ → Result Deduced ElabFault
result_of s st x (Some r) = Ok (record { typ = r; state = st })
result_of s st x None = result_deduced s st x

abbrev pub lambda_made : List Lexeme → State → Written → Result State ElabFault
lambda_made s st x = and_then (result_of s st x x.result)
    (λ (r : Deduced). and_then (lambda_known s r.state x r.typ) (λ (y : State). Ok (with_written y (length r.state.ctx.classes) x)))

-- Its parts

abbrev pub lambda_written : List Lexeme → State → At → syntax.Trees → syntax.Trees → syntax.Tree → Result Written ElabFault
lambda_written s st at intro parts body = and_then (explicit_captures s st.ctx (default_in s intro) intro)
    (λ (xs : List Capture). and_then (parameters_among s st.ctx st.work parts)
    (λ (ps : List Parameter). and_then (not_dynamic at (qualifiers_from s no_qualifiers parts)) (λ y.
    and_then (result_among s st.ctx st.work parts) (λ (r : Option Typ). and_then (default_captures st.ctx (default_in s intro) xs (used_in s st.ctx ps body))
    (λ (ys : List Capture).
    Ok (record {
      at = at;
      captures = ys;
      params = ps;
      qualifiers = qualifiers_from s no_qualifiers parts;
      is_mutable = has_mutable parts;
      result = r;
      body =
          kids_of body;
      body_at = place_of_tree body;
      closed = closing s body;
    }))))))

abbrev pub lambda_from : List Lexeme → State → At → syntax.Trees → syntax.Trees → syntax.Tree → Result State ElabFault
lambda_from s st at intro parts body = and_then (lambda_written s st at intro parts body) (λ (x : Written). lambda_made s st x)

abbrev pub lambda_of : List Lexeme → State → At → syntax.Trees → Result State ElabFault
lambda_of s st at (syntax.more intro (syntax.more parts (syntax.more body syntax.none))) = lambda_from s st at (kids_of intro) (kids_of parts) body
lambda_of s st at (syntax.more intro (syntax.more body syntax.none)) = lambda_from s st at (kids_of intro) syntax.none body
lambda_of s st at kids = Err (Ill at OutOfProfile)

-- all lambdas of a full-expression, in the order of the text; none in an operand of `sizeof` (profile)
abbrev mutual
  pub lambdas_of : Lambdas
  lambdas_of s st (syntax.node k.Lambda p token kids) = lambda_of s st (at_of p) kids
  lambdas_of s st (syntax.node k.SizeofExpression p token kids) = Ok st
  lambdas_of s st (syntax.node k.SizeofType p token kids) = Ok st
  lambdas_of s st (syntax.node kind p token kids) = lambdas_among s st kids

  pub lambdas_among : List Lexeme → State → syntax.Trees → Result State ElabFault
  lambdas_among s st syntax.none = Ok st
  lambdas_among s st (syntax.more t ts) = and_then (lambdas_of s st t) (λ (x : State). lambdas_among s x ts)
