use Rattle.std.proofs.Common.{ap}
use Rattle.elab_entry.specs.cpp_lex.Tokens.{lexemes_of}
use Rattle.elab_entry.specs.elab_types.Syntax.{syntax_of, tree_at, trees_at}
use Rattle.elab_members.proofs.GivenSteps.{member_node, base_node}
use Rattle.elab_members.proofs.written.given_by.Goals as goal

pub returns-in-MemberInitializer : goal.returns-in-MemberInitializer
returns-in-MemberInitializer g c = member_node (g.L.MakeLambdas.lambdas c.args.lams.now)
    (lexemes_of c.args.tokens.now) c.args.st.now _ c.args.class c.args.list.now.items _
    (tree_at
    (syntax_of c.args.nodes.now) c.args.id) _ _ _ c.in-Some.token _ _ _ _ c.node_at-node.ensures.node c.in-MemberInitializer.is c.in-Some.is c.place-at.ensures
    (ap (trees_at (syntax_of c.args.nodes.now)) c.deref.ensures.value) c.given_member.ensures

pub returns-in-BaseInitializer : goal.returns-in-BaseInitializer
returns-in-BaseInitializer g c = base_node (g.L.MakeLambdas.lambdas c.args.lams.now)
    (lexemes_of c.args.tokens.now) c.args.st.now _ c.args.class c.args.list.now.items _
    (tree_at
    (syntax_of c.args.nodes.now) c.args.id) _ _ _ c.in-Some.token _ _ _ _ c.node_at-node.ensures.node c.in-BaseInitializer.is c.in-Some.is c.place-at.ensures
    (ap (trees_at (syntax_of c.args.nodes.now)) c.deref-in-BaseInitializer.ensures.value) c.given_base.ensures
