use Rattle.std.proofs.Common.{◌≡◌, Err, map, ap, rules}
use Rattle.elab_entry.specs.cpp_lex.Tokens.{lexemes_of}
use Rattle.elab_entry.specs.elab_types.Shown.{parameter_of}
use Rattle.elab_entry.specs.elab_types.Syntax.{syntax_of, tree_at, trees_at}
use Rattle.elab_entry.specs.elab_scopes.States.{state_of}
use Rattle.class_members.specs.Shown.{header_of}
use Rattle.elab_members.proofs.ObjectBodies.{does_fail, inside_done, inside_unnamed}
use Rattle.elab_members.proofs.constructors.constructor_inside.Goals as goal

pub returns : goal.returns
returns g c = inside_done (g.L.MakeLambdas.lambdas c.args.lams.now) (lexemes_of c.args.tokens.now) c.args.st.now _ _ (header_of c.args.header.now) c.args.class
    (trees_at (syntax_of c.args.nodes.now) c.args.inits.now) (tree_at (syntax_of c.args.nodes.now) c.args.body) _ _
    (ap (map parameter_of) c.deref.ensures.value) c.in_ok-with_parameters.ensures c.constructor_given.ensures

pub returns-in_err-with_parameters : goal.returns-in_err-with_parameters
returns-in_err-with_parameters g c =
    let is_error : c.from_residual.result ≡ Err c.in_err-with_parameters.field-0.0 = search rules in
    does_fail _ _ _ _ _ is_error (inside_unnamed (g.L.MakeLambdas.lambdas c.args.lams.now) (lexemes_of c.args.tokens.now) (state_of c.args.st.now)
    (header_of c.args.header.now) c.args.class (trees_at (syntax_of c.args.nodes.now) c.args.inits.now)
    (tree_at (syntax_of c.args.nodes.now) c.args.body) _ _ (ap (map parameter_of) c.deref.ensures.value) c.in_err-with_parameters.ensures)
