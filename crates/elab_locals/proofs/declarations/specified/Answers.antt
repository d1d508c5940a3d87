use Rattle.std.proofs.Common.{◌≡◌, ◌∙◌, Err, ap, rules}
use Rattle.elab_scopes.specs.cpp_lex.Tokens.{lexemes_of}
use Rattle.elab_scopes.specs.cpp_types.Typ.{typ_of}
use Rattle.elab_scopes.specs.elab_types.Syntax.{syntax_of, tree_at, trees_at}
use Rattle.std.proofs.Common.{◌++◌, []}
use Rattle.elab_locals.proofs.Declared.{specified_made, specified_declares, specified_fails, specified_faults, all_fail}
use Rattle.elab_locals.proofs.declarations.specified.Goals as goal

pub returns-in_err-declarators : goal.returns-in_err-declarators
returns-in_err-declarators g c =
    let empty : c.new-list.result.items ≡ [] = search rules in
    let is_error : c.from_residual-in_err-declarators.result ≡ Err c.in_err-declarators.field-0.0 = search rules in
    all_fail _ _ _ _ _ _ _ is_error (specified_fails (g.L.MakeLambdas.lambdas c.args.lams.now) (lexemes_of c.args.tokens.now) c.args.st.now
    (tree_at (syntax_of c.args.nodes.now) c.args.specifiers) (trees_at (syntax_of c.args.nodes.now) c.args.ids.now)
    (typ_of c.in_ok-ty.ty) _ _ c.in_ok-ty.ensures.says empty
    (specified_faults (g.L.MakeLambdas.lambdas c.args.lams.now) (lexemes_of c.args.tokens.now) c.args.st.now c.specified.new.work
    (trees_at (syntax_of c.args.nodes.now) c.args.ids.now) (typ_of c.in_ok-ty.ty) c.new-list.result.items _ c.in_ok-ty.ensures.kept
    c.in_err-declarators.ensures))

pub returns : goal.returns
returns g c =
    let empty : c.new-list.result.items ≡ [] = search rules in
    specified_made (g.L.MakeLambdas.lambdas c.args.lams.now) (lexemes_of c.args.tokens.now) c.args.st.now _
    (tree_at (syntax_of c.args.nodes.now) c.args.specifiers) (trees_at (syntax_of c.args.nodes.now) c.args.ids.now)
    (typ_of c.in_ok-ty.ty) c.args.out.now.items _ _ _ c.requires.out c.in_ok-ty.ensures.says empty
    (specified_declares (g.L.MakeLambdas.lambdas c.args.lams.now) (lexemes_of c.args.tokens.now) c.args.st.now _ c.specified.new.work
    (trees_at (syntax_of c.args.nodes.now) c.args.ids.now) (typ_of c.in_ok-ty.ty) _ c.new-list.result.items c.in_ok-ty.ensures.kept
    c.in_ok-declarators.ensures)
    (c.in_ok-keep_all.ensures ∙ ap (λ z. c.args.out.now.items ++ z) c.deref.ensures.value)
