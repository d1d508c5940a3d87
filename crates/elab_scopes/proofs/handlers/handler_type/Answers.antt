use Rattle.std.proofs.Common.{◌≡◌, ◌∙◌, rules}
use Rattle.elab_expr.specs.cpp_lex.Tokens.{lexemes_of}
use Rattle.elab_expr.specs.cpp_ast.declared.kinds.NodeKind.TheVariants.{ParameterDeclaration}
use Rattle.elab_expr.specs.cpp_ast.Trees.{node, none, more}
use Rattle.elab_expr.specs.elab_types.Syntax.{syntax_of, tree_at}
use Rattle.elab_scopes.specs.States.{state_of}
use Rattle.elab_scopes.proofs.Catching.{parameter_catches}
use Rattle.elab_scopes.proofs.handlers.handler_type.Goals as goal

pub returns-in-Two : goal.returns-in-Two
returns-in-Two c =
    let syn = syntax_of c.args.nodes.now in
    let n = c.node_at-node.result.now in
    let e : tree_at syn c.args.id ≡ node ParameterDeclaration n.at n.token (more (tree_at syn c.in-Two.base) (more (tree_at syn c.in-Two.declarator) none)) =
    search rules in
    parameter_catches _ _ _ (lexemes_of c.args.tokens.now) (state_of c.args.st.now) c.args.at n.at c.place-here.result n.token (tree_at syn c.args.id)
    (tree_at syn c.in-Two.base) (tree_at syn c.in-Two.declarator) e c.place-here.ensures c.parameter_caught.ensures
