use Rattle.std.proofs.Common.{◌≡◌, ◌∙◌}
use Rattle.elab_scopes.specs.cpp_lex.Tokens.{lexemes_of}
use Rattle.elab_scopes.specs.cpp_types.Typ.{typ_of}
use Rattle.elab_scopes.specs.elab_types.Syntax.{syntax_of, tree_at, trees_at}
use Rattle.elab_scopes.specs.elab_types.Shown.{declared_of}
use Rattle.elab_locals.proofs.Declared.{declarator_then, unmoved_within}
use Rattle.elab_locals.proofs.declarations.init_declarator.Goals as goal

pub returns : goal.returns
returns g c = declarator_then (g.L.MakeLambdas.lambdas c.args.lams.now) (lexemes_of c.args.tokens.now) c.args.st.now _ c.declared_by.new.work c.args.at
    (typ_of c.args.ty.now) c.args.list.now.items _ c.args.auto.now _ (tree_at (syntax_of c.args.nodes.now) c.args.kid)
    (trees_at (syntax_of c.args.nodes.now) c.args.ids.now) (declared_of c.in_ok-found.found) _ c.in_ok-found.ensures.says c.in_ok-found.ensures.kept
    c.declared_from.ensures

pub declared_from-requires-clause-list : goal.declared_from-requires-clause-list
declared_from-requires-clause-list g c = unmoved_within c.args.st.now c.declared_by.new.work c.args.list.now.items c.in_ok-found.ensures.kept c.requires.list
