use Rattle.std.proofs.Common.{◌≡◌, List, true, option_map, Err, ap, sym, ◌∙◌, rules}
use Rattle.cpp_types.specs.Typ.{Typ, typ_of}
use Rattle.cpp_types.specs.Class.{held}
use Rattle.elab_stmt.specs.cpp_lex.Tokens.{lexemes_of}
use Rattle.elab_stmt.specs.cpp_tree.Trees.{Tree}
use Rattle.elab_stmt.specs.cpp_tree.Arena.{tree_at}
use Rattle.elab_stmt.specs.elab_ctx.Ctx.{ctx_of}
use Rattle.elab_stmt.specs.elab_rules.Initialising.{signature_result}
use Rattle.elab_stmt.specs.elab_rules.Operators.{is_complete}
use Rattle.elab_stmt.specs.elab_types.Syntax.{syntax_of, tree_at as syntax_at}
use Rattle.class_members.specs.Shown.{header_of}
use Rattle.elab_stmt.specs.elab_scopes.States.{state_of}
use Rattle.elab_entry.specs.Round.{round_of}
use Rattle.elab_entry.specs.Bodies.{entered}
use Rattle.elab_entry.proofs.WithBodies.{changes_fail, function_refused, function_done}
use Rattle.elab_entry.proofs.bodies.function_body.Goals as goal

pub returns-in_err-made : goal.returns-in_err-made
returns-in_err-made g c =
    let whole : is_complete (ctx_of c.args.st.now.env) (held (signature_result (header_of c.args.header.now).signature)) ≡ true =
    ap (λ (z : Typ). is_complete (ctx_of c.args.st.now.env) (held z)) (sym c.result_type-ret.ensures) ∙ sym c.is_complete_type.ensures
    ∙ c.if-not-is_complete_type.false in
    let inside : state_of c.enter_function.new.st ≡ entered (state_of c.args.st.now) (signature_result (header_of c.args.header.now).signature)
    (option_map typ_of c.args.this) c.args.header.now.class = c.in_ok-around.ensures.is
    ∙ ap (λ (z : Typ). entered (state_of c.args.st.now) z (option_map typ_of c.args.this) c.args.header.now.class) c.result_type-ret.ensures in
    let is_error : c.from_residual-in_err-made.result ≡ Err c.in_err-made.field-0.0 = search rules in
    changes_fail _ _ _ _ _ is_error (function_refused (g.L.MakeLambdas.lambdas c.args.lams.now) (lexemes_of c.args.tokens.now) (state_of c.args.st.now) _
    (header_of c.args.header.now) (option_map typ_of c.args.this) c.args.func
    (syntax_at (syntax_of c.args.nodes.now) c.args.body) _ whole inside c.in_err-made.ensures)

pub returns : goal.returns
returns g c =
    let whole : is_complete (ctx_of c.args.st.now.env) (held (signature_result (header_of c.args.header.now).signature)) ≡ true =
    ap (λ (z : Typ). is_complete (ctx_of c.args.st.now.env) (held z)) (sym c.result_type-ret.ensures) ∙ sym c.is_complete_type.ensures
    ∙ c.if-not-is_complete_type.false in
    let inside : state_of c.enter_function.new.st ≡ entered (state_of c.args.st.now) (signature_result (header_of c.args.header.now).signature)
    (option_map typ_of c.args.this) c.args.header.now.class = c.in_ok-around.ensures.is
    ∙ ap (λ (z : Typ). entered (state_of c.args.st.now) z (option_map typ_of c.args.this) c.args.header.now.class) c.result_type-ret.ensures in
    function_done (g.L.MakeLambdas.lambdas c.args.lams.now) (lexemes_of c.args.tokens.now) c.args.st.now _ _ _ _ (header_of c.args.header.now)
    (option_map typ_of c.args.this) c.args.func (syntax_at (syntax_of c.args.nodes.now) c.args.body)
    (round_of c.in_ok-around.around) c.in_ok-made.field-0 _ _ _ whole inside c.in_ok-around.ensures.round c.in_ok-made.ensures
    c.leave_function-inside.ensures.is (c.leave_function-inside.ensures.trees ∙ c.in_ok-around.ensures.trees)
    (ap (λ (z : List Tree). tree_at z c.in_ok-made.field-0) c.leave_function-inside.ensures.nodes) c.leave_function-inside.ensures.frame c.body_made.ensures
