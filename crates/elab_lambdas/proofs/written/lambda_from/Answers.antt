use Rattle.std.proofs.Common.{◌≡◌, Err, map, rules}
use Rattle.elab_entry.specs.cpp_lex.Tokens.{lexemes_of}
use Rattle.elab_entry.specs.elab_rules.Lambdas.{kids_of}
use Rattle.elab_entry.specs.elab_types.Syntax.{syntax_of, tree_at, trees_at}
use Rattle.elab_entry.specs.elab_scopes.States.{body_of, state_of}
use Rattle.elab_lambdas.specs.Whole.{written_of, lambda_from}
use Rattle.elab_lambdas.proofs.Parts.{from_is, from_refused}
use Rattle.elab_lambdas.proofs.Refusals.{changes_fail}
use Rattle.elab_lambdas.proofs.written.lambda_from.Goals as goal

pub returns : goal.returns
returns c = from_is (lexemes_of c.args.tokens.now) c.args.st.now c.lambda_made.new.st c.lambda_written.new.work c.args.at
    (kids_of (tree_at (syntax_of c.args.nodes.now) c.args.intro)) (trees_at (syntax_of c.args.nodes.now) c.args.ids.now)
    (tree_at (syntax_of c.args.nodes.now) c.args.body) (written_of (syntax_of c.args.nodes.now) c.in_ok-written.written) c.lambda_made.result
    c.in_ok-written.ensures.kept (c.in_ok-written.ensures.is (map body_of c.args.st.now.bodies.items)) c.lambda_made.ensures

pub returns-in_err-written : goal.returns-in_err-written
returns-in_err-written c =
    let is_error : c.from_residual.result ≡ Err c.in_err-written.field-0.0 = search rules in
    let s = lexemes_of c.args.tokens.now in
    let st = state_of c.args.st.now in
    let intro = kids_of (tree_at (syntax_of c.args.nodes.now) c.args.intro) in
    let parts = trees_at (syntax_of c.args.nodes.now) c.args.ids.now in
    let body = tree_at (syntax_of c.args.nodes.now) c.args.body in
    changes_fail c.args.st.now (record c.args.st.now { work = c.lambda_written.new.work }) c.from_residual.result c.in_err-written.field-0.0
    (lambda_from s st c.args.at intro parts body) is_error
    (from_refused s st c.args.at intro parts body c.in_err-written.field-0.0 (c.in_err-written.ensures.is (map body_of c.args.st.now.bodies.items)))
