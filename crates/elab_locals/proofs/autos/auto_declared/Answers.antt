use Rattle.std.proofs.Common.{◌≡◌, ◌∙◌, rules}
use Rattle.elab_scopes.specs.cpp_lex.Tokens.{lexemes_of}
use Rattle.elab_scopes.specs.cpp_types.Typ.{typ_of}
use Rattle.elab_scopes.specs.elab_types.Syntax.{syntax_of, tree_at}
use Rattle.std.proofs.Common.{option_map}
use Rattle.elab_locals.proofs.Placed.{declared_found}
use Rattle.elab_locals.proofs.autos.auto_declared.Goals as goal

pub returns : goal.returns
returns g c = declared_found (g.L.MakeLambdas.lambdas c.args.lams.now) (lexemes_of c.args.tokens.now) c.args.st.now _ _ _ (typ_of c.args.pattern.now) c.args.at
    (option_map typ_of c.args.auto.now) (tree_at (syntax_of c.args.nodes.now) c.args.id) c.in_ok-o.o _ _ (search rules) c.in_ok-o.ensures c.auto_from.ensures
