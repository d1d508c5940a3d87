use Rattle.std.proofs.Common.{◌≡◌, ◌∙◌, Err, refl, sym, ap, rules}
use Rattle.elab_locals.specs.cpp_lex.Tokens.{lexemes_of}
use Rattle.elab_locals.specs.elab_types.Syntax.{syntax_of, tree_at, trees_at}
use Rattle.elab_locals.specs.elab_scopes.States.{state_of}
use Rattle.elab_stmt.proofs.Small.{all_none, first_absent, first_declared, first_plain}
use Rattle.elab_stmt.proofs.Steps.{all_same}
use Rattle.elab_stmt.proofs.simple.for_first.Goals as goal

pub returns-in-Absent : goal.returns-in-Absent
returns-in-Absent g c = all_none _ _ _ c.requires.out
    (first_absent (g.L.MakeLambdas.lambdas c.args.lams.now) (lexemes_of c.args.tokens.now) (state_of c.args.st.now)
    (tree_at (syntax_of c.args.nodes.now) c.args.id) _ _ _ _ c.node_at-node.ensures.node c.in-Absent.is)

pub returns-in-SimpleDeclaration : goal.returns-in-SimpleDeclaration
returns-in-SimpleDeclaration g c = all_same _ _ _ _ _ _ _
    (first_declared (g.L.MakeLambdas.lambdas c.args.lams.now) (lexemes_of c.args.tokens.now) (state_of c.args.st.now)
    (tree_at (syntax_of c.args.nodes.now) c.args.id) _ _ c.place-at.result _ _
    (trees_at (syntax_of c.args.nodes.now) c.deref.result.now) c.node_at-node.ensures.node c.in-SimpleDeclaration.is c.place-at.ensures
    (ap (trees_at (syntax_of c.args.nodes.now)) c.deref.ensures.value)) c.block_declaration.ensures

pub returns-in_default : goal.returns-in_default
returns-in_default g c = all_same _ _ _ _ _ _ _ (first_plain (g.L.MakeLambdas.lambdas c.args.lams.now) (lexemes_of c.args.tokens.now) (state_of c.args.st.now)
    (tree_at (syntax_of c.args.nodes.now) c.args.id) _ _ _ _ c.node_at-node.ensures.node c.in_default.not-Absent c.in_default.not-SimpleDeclaration)
    c.first_expression.ensures
