use Rattle.std.proofs.Common.{◌≡◌, ◌∙◌, Err, refl, sym, rules}
use Rattle.elab_scopes.specs.cpp_lex.Tokens.{lexemes_of}
use Rattle.elab_scopes.specs.elab_types.Syntax.{syntax_of, trees_at}
use Rattle.elab_scopes.specs.elab_types.Shown.{declared_of}
use Rattle.elab_locals.proofs.Declared.{declared_made, declared_fails, declares_fail}
use Rattle.elab_locals.proofs.declarations.declared_from.Goals as goal

pub returns-in_err-made : goal.returns-in_err-made
returns-in_err-made g c =
    let is_error : c.from_residual.result ≡ Err c.in_err-made.field-0.0 = search rules in
    declares_fail _ _ _ _ _ _ _ is_error (declared_fails (g.L.MakeLambdas.lambdas c.args.lams.now) (lexemes_of c.args.tokens.now) c.args.st.now c.args.at
    (declared_of c.args.found.now) (trees_at (syntax_of c.args.nodes.now) c.args.ids.now) c.args.list.now.items c.args.auto.now _ _
    (sym c.is_own_name.ensures ∙ c.if-not-is_own_name.false) c.name_of-name.ensures c.in_err-made.ensures)

pub returns : goal.returns
returns g c = declared_made (g.L.MakeLambdas.lambdas c.args.lams.now) (lexemes_of c.args.tokens.now) c.args.st.now _ _ c.args.at (declared_of c.args.found.now)
    (trees_at (syntax_of c.args.nodes.now) c.args.ids.now) c.args.list.now.items _ c.args.auto.now _ c.in_ok-made.made _ c.requires.list
    (sym c.is_own_name.ensures ∙ c.if-not-is_own_name.false) c.name_of-name.ensures c.in_ok-made.ensures refl
    (c.in_ok-past_declaration.ensures (syntax_of c.args.nodes.now)) refl c.in_ok-keep.ensures
