use Rattle.std.proofs.Common.{◌≡◌, ◌∙◌, sym}
use Rattle.elab_scopes.specs.cpp_lex.Tokens.{lexemes_of}
use Rattle.elab_scopes.specs.cpp_types.Typ.{typ_of}
use Rattle.elab_scopes.specs.elab_types.Syntax.{syntax_of, trees_at}
use Rattle.std.proofs.Common.{option_map}
use Rattle.elab_locals.proofs.Placed.{variable_read, variable_known}
use Rattle.elab_locals.proofs.variables.variable.Goals as goal

pub returns-then-has_auto : goal.returns-then-has_auto
returns-then-has_auto g c = variable_read (g.L.MakeLambdas.lambdas c.args.lams.now) (lexemes_of c.args.tokens.now) c.args.st.now _ c.args.name.now
    (typ_of c.args.ty.now) c.args.at (option_map typ_of c.args.auto.now) (trees_at (syntax_of c.args.nodes.now) c.args.ids.now) _ _
    (sym c.has_auto.ensures ∙ c.if-has_auto.true) c.auto_variable.ensures

pub returns : goal.returns
returns g c = variable_known (g.L.MakeLambdas.lambdas c.args.lams.now) (lexemes_of c.args.tokens.now) c.args.st.now _ c.args.name.now
    (typ_of c.args.ty.now) _ c.args.at (trees_at (syntax_of c.args.nodes.now) c.args.ids.now) _ _
    (sym c.has_auto.ensures ∙ c.if-has_auto.false) c.in_ok-bound.ensures c.plain_variable.ensures
