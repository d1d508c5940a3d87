use Rattle.std.proofs.Common.{◌≡◌, ◌∙◌}
use Rattle.elab_scopes.specs.cpp_lex.Tokens.{lexemes_of}
use Rattle.elab_scopes.specs.cpp_types.Typ.{typ_of}
use Rattle.elab_scopes.specs.elab_types.Syntax.{syntax_of, tree_at, trees_at}
use Rattle.std.proofs.Common.{take, drop, length, ◌-◌}
use Rattle.elab_scopes.specs.cpp_tree.declared.faults.ElabFault.TheVariants.{Ill}
use Rattle.elab_scopes.specs.cpp_tree.declared.faults.IllRule.TheVariants.{OutOfProfile}
use Rattle.elab_locals.specs.Deducing.{declaring_of}
use Rattle.elab_locals.proofs.Declared.{declarator_row, declarator_other, declares_same, faulted, kids_behind}
use Rattle.elab_locals.proofs.declarations.declarator.Goals as goal

pub returns-in-Some : goal.returns-in-Some
returns-in-Some g c = declares_same _ _ _ _ _ _ _ (declarator_row (g.L.MakeLambdas.lambdas c.args.lams.now) (lexemes_of c.args.tokens.now)
    (typ_of c.args.ty.now) (declaring_of c.args.st.now c.args.list.now.items c.args.auto.now)
    (tree_at (syntax_of c.args.nodes.now) c.args.id) _ _ c.place-at.result _ _ (tree_at (syntax_of c.args.nodes.now) c.in-Some.kid)
    (trees_at (syntax_of c.args.nodes.now) (take (length c.deref-in-InitDeclarator.result.now - 1) (drop 1 c.deref-in-InitDeclarator.result.now)))
    c.node_at-node.ensures.node c.in-InitDeclarator.is
    (kids_behind (syntax_of c.args.nodes.now) _ _ _ c.in-Some.kid c.deref.ensures.value c.deref-in-InitDeclarator.ensures.value c.in-Some.ensures.kid)
    c.place-at.ensures) c.init_declarator.ensures

pub returns-in_default : goal.returns-in_default
returns-in_default g c = faulted _ (Ill c.place-at.result OutOfProfile) _ c.ill-in_default.ensures
    (declarator_other (g.L.MakeLambdas.lambdas c.args.lams.now) (lexemes_of c.args.tokens.now) (typ_of c.args.ty.now)
    (declaring_of c.args.st.now c.args.list.now.items c.args.auto.now)
    (tree_at (syntax_of c.args.nodes.now) c.args.id) _ _ c.place-at.result _ _ c.node_at-node.ensures.node c.in_default.not-InitDeclarator c.place-at.ensures)
