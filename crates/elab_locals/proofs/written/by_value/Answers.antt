use Rattle.std.proofs.Common.{◌≡◌, ◌∙◌}
use Rattle.elab_scopes.specs.cpp_lex.Tokens.{lexemes_of}
use Rattle.elab_scopes.specs.cpp_types.Typ.{typ_of}
use Rattle.elab_scopes.specs.elab_types.Syntax.{syntax_of, tree_at}
use Rattle.elab_locals.proofs.Made.{value_made}
use Rattle.elab_locals.proofs.written.by_value.Goals as goal

pub returns : goal.returns
returns g c = value_made (g.L.MakeLambdas.lambdas c.args.lams.now) (lexemes_of c.args.tokens.now) c.args.st.now _ _ c.args.variable
    (typ_of c.args.ty.now) c.args.at
    (tree_at (syntax_of c.args.nodes.now) c.args.id) c.in_ok-o.o _ c.requires.variable c.in_ok-o.ensures c.expression_made.ensures
