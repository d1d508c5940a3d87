use Rattle.std.proofs.Common.{◌≡◌, ◌∙◌, refl}
use Rattle.elab_scopes.specs.cpp_lex.Tokens.{lexemes_of}
use Rattle.elab_scopes.specs.cpp_types.Typ.{typ_of}
use Rattle.elab_scopes.specs.elab_types.Syntax.{syntax_of, trees_at}
use Rattle.elab_locals.proofs.Placed.{plain_found}
use Rattle.elab_locals.proofs.variables.plain_variable.Goals as goal

pub returns : goal.returns
returns g c = plain_found (g.L.MakeLambdas.lambdas c.args.lams.now) (lexemes_of c.args.tokens.now) c.args.st.now _ _ _ c.args.name.now
    (typ_of c.args.ty.now) c.args.at _ c.in_ok-variable.variable
    (trees_at (syntax_of c.args.nodes.now) c.args.ids.now) _ c.in_ok-place.ensures c.in_ok-variable.ensures refl c.plain_made.ensures
