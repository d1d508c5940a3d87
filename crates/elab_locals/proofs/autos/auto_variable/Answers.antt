use Rattle.std.proofs.Common.{◌≡◌, ◌∙◌, refl, sym, ap}
use Rattle.elab_scopes.specs.cpp_lex.Tokens.{lexemes_of}
use Rattle.elab_scopes.specs.cpp_types.Typ.{typ_of}
use Rattle.elab_scopes.specs.elab_types.Syntax.{syntax_of, tree_at, trees_at}
use Rattle.elab_scopes.specs.States.{state_of}
use Rattle.std.proofs.Common.{option_map}
use Rattle.elab_scopes.specs.cpp_tree.declared.faults.ElabFault.TheVariants.{Ill}
use Rattle.elab_scopes.specs.cpp_tree.declared.faults.IllRule.TheVariants.{BadInit}
use Rattle.elab_scopes.proofs.elab_ctx.Looks.{grows_refl}
use Rattle.elab_locals.proofs.OneValue.{value_is, none_of_it}
use Rattle.elab_locals.proofs.Declared.{faulted}
use Rattle.elab_locals.proofs.Placed.{read_found, none_found, declared_state}
use Rattle.elab_locals.proofs.autos.auto_variable.Goals as goal

pub returns-in_default : goal.returns-in_default
returns-in_default g c = faulted _ (Ill c.args.at BadInit) _ c.ill.ensures
    (none_found (g.L.MakeLambdas.lambdas c.args.lams.now) (lexemes_of c.args.tokens.now) (state_of c.args.st.now) c.args.name.now
    (typ_of c.args.pattern.now) c.args.at (option_map typ_of c.args.auto.now)
    (trees_at (syntax_of c.args.nodes.now) c.args.ids.now) c.in_ok-declare.ensures.fresh
    (value_is (trees_at (syntax_of c.args.nodes.now) c.args.ids.now) ∙ sym c.only_expression.ensures.is
    ∙ ap (option_map (tree_at (syntax_of c.args.nodes.now))) (none_of_it _ c.in_default.not-Some)))

pub returns : goal.returns
returns g c = read_found (g.L.MakeLambdas.lambdas c.args.lams.now) (lexemes_of c.args.tokens.now) c.args.st.now
    (record c.args.st.now { env = c.declare.new.env }) _ c.args.name.now (typ_of c.args.pattern.now) c.args.at (option_map typ_of c.args.auto.now)
    (trees_at (syntax_of c.args.nodes.now) c.args.ids.now) (tree_at (syntax_of c.args.nodes.now) c.in-Some.id) _ _ c.in_ok-declare.ensures.fresh (grows_refl _)
    (declared_state c.args.st.now (record c.args.st.now { env = c.declare.new.env }) _ _ c.in_ok-declare.ensures c.in_ok-place.ensures refl)
    (value_is (trees_at (syntax_of c.args.nodes.now) c.args.ids.now) ∙ sym c.only_expression.ensures.is
    ∙ ap (option_map (tree_at (syntax_of c.args.nodes.now))) c.in-Some.is) c.auto_declared.ensures
