use Rattle.std.proofs.Common.{◌≡◌, ◌∙◌, List, Err, ap, rules}
use Rattle.elab_entry.specs.cpp_lex.Tokens.{lexemes_of}
use Rattle.elab_entry.specs.cpp_tree.Trees.{Tree}
use Rattle.elab_entry.specs.cpp_tree.Arena.{tree_at}
use Rattle.elab_entry.specs.elab_rules.Statements.{State}
use Rattle.elab_entry.specs.elab_types.Syntax.{syntax_of, tree_at as syntax_at, trees_at as syntaxes_at}
use Rattle.elab_entry.specs.elab_scopes.States.{state_of}
use Rattle.elab_entry.specs.Round.{round_of}
use Rattle.class_members.specs.Shown.{header_of}
use Rattle.elab_members.specs.Bodies.{constructor_inside}
use Rattle.elab_members.proofs.ObjectBodies.{changes_fail, body_refused, body_done}
use Rattle.elab_members.proofs.constructors.constructor_body.Goals as goal

pub returns : goal.returns
returns g c = body_done c.args.st.now _ _ _ _ (header_of c.args.header.now) c.args.func c.args.class
    (λ (z : State). constructor_inside (g.L.MakeLambdas.lambdas c.args.lams.now) (lexemes_of c.args.tokens.now) z (header_of c.args.header.now) c.args.class
    (syntaxes_at (syntax_of c.args.nodes.now) c.args.inits.now) (syntax_at (syntax_of c.args.nodes.now) c.args.body))
    (round_of c.in_ok-around.around) c.in_ok-made.field-0 _ _ _ c.in_ok-around.ensures.is c.in_ok-around.ensures.round c.in_ok-made.ensures
    c.leave_function-inside.ensures.is (c.leave_function-inside.ensures.trees ∙ c.in_ok-around.ensures.trees)
    (ap (λ (z : List Tree). tree_at z c.in_ok-made.field-0) c.leave_function-inside.ensures.nodes) c.leave_function-inside.ensures.frame c.body_made.ensures

pub returns-in_err-made : goal.returns-in_err-made
returns-in_err-made g c =
    let is_error : c.from_residual-in_err-made.result ≡ Err c.in_err-made.field-0.0 = search rules in
    changes_fail _ _ _ _ _ is_error (body_refused (state_of c.args.st.now) _ (header_of c.args.header.now) c.args.func c.args.class
    (λ (z : State). constructor_inside (g.L.MakeLambdas.lambdas c.args.lams.now) (lexemes_of c.args.tokens.now) z (header_of c.args.header.now) c.args.class
    (syntaxes_at (syntax_of c.args.nodes.now) c.args.inits.now)
    (syntax_at (syntax_of c.args.nodes.now) c.args.body)) _ c.in_ok-around.ensures.is c.in_err-made.ensures)
