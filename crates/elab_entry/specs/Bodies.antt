-- Into functions, and bodies, as the code makes them: with `left_by` behind a function.
use Rattle.std.specs.Prelude.{ℕ, false, List, [], ◌∷◌, ◌++◌, length, Option, Some, None, Result, Ok}
use Rattle.cpp_types.specs.Typ.{Typ, void, ptr}
use Rattle.cpp_types.specs.Class.{held}
use Rattle.cpp_types.specs.declared.classes.At.{At}
use Rattle.elab_stmt.specs.cpp_lex.Tokens.{Lexeme}
use Rattle.elab_stmt.specs.cpp_ast.Trees as syntax
use Rattle.elab_stmt.specs.cpp_tree.declared.kinds.TKind.TheVariants as forms
use Rattle.elab_stmt.specs.cpp_tree.declared.faults.ElabFault.{ElabFault}
use Rattle.elab_stmt.specs.cpp_tree.declared.faults.IllRule.TheVariants.{Incomplete}
use Rattle.elab_stmt.specs.cpp_tree.Trees.{Tree, one}
use Rattle.elab_stmt.specs.cpp_tree.Notation.{plain}
use Rattle.elab_stmt.specs.elab_ctx.declared.env.Label.TheVariants.{Outside}
use Rattle.elab_stmt.specs.elab_ctx.Ctx.{This, Returns, known, Lambda}
use Rattle.elab_stmt.specs.elab_ctx.Steps.{and_then, check, at_of}
use Rattle.elab_stmt.specs.elab_rules.Objects.{followed_by}
use Rattle.elab_stmt.specs.elab_rules.Initialising.{signature_result}
use Rattle.elab_stmt.specs.elab_rules.Operators.{is_complete}
use Rattle.elab_stmt.specs.elab_rules.Statements.{State, Done, done, Lambdas, statements_of, statement, no_labels}
use Rattle.elab_stmt.specs.elab_rules.Functions.{Header, result_items, this_items, this_at, with_parameters, end_of, within_frame}
use Rattle.elab_entry.specs.Round.{Round, round_function, left_by}

abbrev pub object_at : Option Typ → ℕ → Option This
object_at (Some t) place = Some (record { typ = t; place = place })
object_at None place = None

-- another function is begun, in which nothing stands yet
abbrev pub exchanged : State → Option This → Returns → List Typ → State
exchanged st this rs frame = record {
  ctx = record st.ctx {
    scopes = [] ∷ st.ctx.scopes;
    this = this;
    returns = rs;
    breaks = false;
    continues = false;
    label = Outside;
    labels = no_labels
        (plain void);
    lambda = None;
    closures = [];
  };
  work = record st.work { frame = frame };
  bodies = st.bodies;
}

-- into a function: no names and no variables yet, the words of a call in the frame
abbrev pub entered : State → Typ → Option Typ → Option ℕ → State
entered st r this cls = record {
  ctx = record st.ctx {
    scopes = [] ∷ st.ctx.scopes;
    variables = [];
    this = this_at (result_items r) this;
    class = cls;
    returns = known r;
    breaks = false;
    continues = false;
    label = Outside;
    labels = no_labels (plain void);
    lambda = None;
    closures = [];
  };
  work = record st.work { frame = result_items r ++ this_items this };
  bodies = st.bodies;
}

-- into the body of a lambda: the names of the function around are known, its variables only as captures (C++14 5.1.2 p17)
abbrev pub entered_lambda : State → Typ → Typ → Returns → Lambda → State
entered_lambda st r this rs l = record {
  ctx = record st.ctx {
    scopes = [] ∷ st.ctx.scopes;
    this = Some (record { typ = this; place = length (result_items r) });
    returns = rs;
    breaks = false;
    continues = false;
    label = Outside;
    labels = no_labels (plain void);
    lambda = Some l;
    closures = [];
  };
  work = record st.work { frame = result_items r ++ plain (ptr this) ∷ [] };
  bodies = st.bodies;
}

-- a body is kept, with its frame, where that is not too large
abbrev pub body_kept : State → At → ℕ → Tree → List Typ → Result State ElabFault
body_kept st at place tree frame = and_then (within_frame st.ctx at frame)
    (λ y. Ok (record st { bodies = st.bodies ++ record { func = place; tree = tree; frame = frame } ∷ [] }))

-- the same behind the function, whose inside this is
abbrev pub body_made : Round → At → ℕ → Tree → State → Result State ElabFault
body_made a at place tree st = body_kept (left_by a st) at place tree st.work.frame

-- the statements of a body
abbrev pub statements_in : Lambdas → List Lexeme → State → syntax.Tree → Result Done ElabFault
statements_in lams s st (syntax.node kind p token kids) = statements_of lams s st kids

-- what stands in a body as one block, in the scope of the parameters
abbrev pub body_inside : Lambdas → List Lexeme → State → Header → syntax.Tree → Result Done ElabFault
body_inside lams s st h (syntax.node kind p token kids) =
    and_then (with_parameters s st h.params) (λ (e : State). and_then (statements_of lams s e kids) (λ (d : Done).
    done (one (statement (forms.Block false) (at_of p) (followed_by d.trees (end_of d.state.ctx (signature_result h.signature) (at_of p))))) d.state))

-- the body of a function that is no constructor and no destructor
abbrev pub function_body : Lambdas → List Lexeme → State → Header → Option Typ → ℕ → syntax.Tree → Result State ElabFault
function_body lams s st h this place (syntax.node kind p token kids) =
    and_then (check h.at Incomplete (is_complete st.ctx (held (signature_result h.signature))))
    (λ x. and_then (with_parameters s (entered st (signature_result h.signature) this h.class) h.params) (λ (e : State).
    and_then (statements_of lams s e kids) (λ (d : Done). body_made (round_function st) h.at place
    (statement (forms.Block false) (at_of p) (followed_by d.trees (end_of d.state.ctx (signature_result h.signature) (at_of p)))) d.state)))
