use Rattle.elab_entry.specs.cpp_lex.Tokens.{lexemes_of}
use Rattle.elab_entry.specs.elab_types.Syntax.{syntax_of, tree_at}
use Rattle.elab_members.proofs.ClassSteps.{late_some, late_other}
use Rattle.elab_members.proofs.late.late_of.Goals as goal

pub returns-in-Some : goal.returns-in-Some
returns-in-Some g c = late_some (g.L.MakeLambdas.lambdas c.args.lams.now)
    (lexemes_of c.args.tokens.now) c.args.st.now _ c.args.home.now.number c.args.home.now.name.items
    (tree_at (syntax_of c.args.nodes.now) c.args.id) _ _ _ _ _ _ c.in-Some.kind _ _ c.node_at-node.ensures.node c.late_kind.ensures c.in-Some.is
    c.place-at.ensures c.kids_in.ensures.kids c.late_function.ensures

pub returns-in-None : goal.returns-in-None
returns-in-None g c = late_other (g.L.MakeLambdas.lambdas c.args.lams.now)
    (lexemes_of c.args.tokens.now) c.args.st.now c.args.home.now.number c.args.home.now.name.items
    (tree_at (syntax_of c.args.nodes.now) c.args.id) _ _ _ _ _ c.node_at-node.ensures.node c.late_kind.ensures c.in-None.is
