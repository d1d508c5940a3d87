use Rattle.std.proofs.Common.{◌≡◌, Err, rules}
use Rattle.elab_entry.specs.cpp_lex.Tokens.{lexemes_of}
use Rattle.elab_entry.specs.elab_types.Syntax.{syntax_of, tree_at, trees_at}
use Rattle.class_members.specs.Shown.{header_of}
use Rattle.elab_members.proofs.ObjectBodies.{does_fail, given_done, given_unbuilt}
use Rattle.elab_members.proofs.constructors.constructor_given.Goals as goal

pub returns : goal.returns
returns g c = given_done (g.L.MakeLambdas.lambdas c.args.lams.now) (lexemes_of c.args.tokens.now) c.args.st.now _ _ _ (header_of c.args.header.now) c.args.class
    (trees_at (syntax_of c.args.nodes.now) c.args.inits.now)
    (tree_at (syntax_of c.args.nodes.now) c.args.body) _ _ _ _ c.in_ok-given.ensures c.deref.ensures.value c.in_ok-parts.ensures c.constructor_block.ensures

pub returns-in_err-parts : goal.returns-in_err-parts
returns-in_err-parts g c =
    let is_error : c.from_residual-in_err-parts.result ≡ Err c.in_err-parts.field-0.0 = search rules in
    does_fail _ _ _ _ _ is_error (given_unbuilt (g.L.MakeLambdas.lambdas c.args.lams.now) (lexemes_of c.args.tokens.now) c.args.st.now _
    (header_of c.args.header.now) c.args.class (trees_at (syntax_of c.args.nodes.now) c.args.inits.now)
    (tree_at (syntax_of c.args.nodes.now) c.args.body) _ _ _ c.in_ok-given.ensures c.deref.ensures.value c.in_err-parts.ensures)
