use Rattle.std.proofs.Common.{◌≡◌, ◌∙◌, Err, ap, rules}
use Rattle.elab_scopes.specs.cpp_lex.Tokens.{lexemes_of}
use Rattle.elab_scopes.specs.cpp_types.Typ.{typ_of}
use Rattle.elab_scopes.specs.elab_types.Syntax.{syntax_of, tree_at, trees_at}
use Rattle.elab_scopes.specs.States.{state_of}
use Rattle.elab_scopes.proofs.Choices.{does_fail}
use Rattle.elab_locals.proofs.Made.{lambdas_values, lambdas_values_fail}
use Rattle.elab_locals.proofs.written.by_values.Goals as goal

pub returns-in_err-all_lambdas : goal.returns-in_err-all_lambdas
returns-in_err-all_lambdas g c =
    let is_error : c.from_residual.result ≡ Err c.in_err-all_lambdas.field-0.0 = search rules in
    does_fail _ _ _ _ _ is_error (lambdas_values_fail (g.L.MakeLambdas.lambdas c.args.lams.now) (lexemes_of c.args.tokens.now) (state_of c.args.st.now) _
    (typ_of c.args.ty.now) c.args.at (tree_at (syntax_of c.args.nodes.now) c.args.id) _ _ _ _
    (trees_at (syntax_of c.args.nodes.now) c.deref.result.now) _ c.node_at.ensures.node
    (ap (trees_at (syntax_of c.args.nodes.now)) c.deref.ensures.value) c.in_err-all_lambdas.ensures)

pub returns : goal.returns
returns g c = lambdas_values (g.L.MakeLambdas.lambdas c.args.lams.now) (lexemes_of c.args.tokens.now) c.args.st.now _ _ c.args.variable
    (typ_of c.args.ty.now) c.args.at (tree_at (syntax_of c.args.nodes.now) c.args.id) _ _ _ _
    (trees_at (syntax_of c.args.nodes.now) c.deref.result.now) _ c.requires.variable c.node_at.ensures.node
    (ap (trees_at (syntax_of c.args.nodes.now)) c.deref.ensures.value) c.in_ok-all_lambdas.ensures c.values_read.ensures
