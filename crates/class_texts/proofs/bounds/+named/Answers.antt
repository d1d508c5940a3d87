use Rattle.elab_init.specs.cpp_lex.Tokens.{lexemes_of}
use Rattle.elab_init.specs.elab_ctx.Ctx.{ctx_of}
use Rattle.elab_types.specs.Syntax.{syntax_of, tree_at, trees_at}
use Rattle.class_members.specs.Shown.{reading}
use Rattle.class_texts.proofs.Places.{trees_next}
use Rattle.class_texts.proofs.Names.{own_named, other_named, among_more}
use Rattle.class_texts.proofs.bounds.+named.Goals as goal

pub member_among-loop-kid-preserved : goal.member_among-loop-kid-preserved
member_among-loop-kid-preserved t c w bodies =
    among_more (lexemes_of c.args.tokens.now) c.args.class (reading (ctx_of c.args.env.now) w bodies c.args.members.now) _ _ _ _ (c.in-None.ensures w bodies)
    (c.loop-kid.invariant w bodies) (trees_next (syntax_of c.args.nodes.now) c.args.kids.now c.loop-kid.kid-index (record { 0 = 0 }) c.loop-kid-test.true)

pub member_named-returns-then-is_own_member : goal.member_named-returns-then-is_own_member
member_named-returns-then-is_own_member t c w bodies =
    own_named (lexemes_of c.args.tokens.now) c.args.class (reading (ctx_of c.args.env.now) w bodies c.args.members.now)
    (tree_at (syntax_of c.args.nodes.now) c.args.id) c.node_at-node.result.now.kind c.node_at-node.result.now.at c.node_at-node.result.now.token
    (trees_at (syntax_of c.args.nodes.now) c.node_at-node.result.now.kids.items) c.in-Some.token c.spelling.result.now c.place.result
    c.node_at-node.ensures.node (c.in-Some.ensures (lexemes_of c.args.tokens.now) c.args.class
    (reading (ctx_of c.args.env.now) w bodies c.args.members.now) c.node_at-node.result.now.at
    (trees_at (syntax_of c.args.nodes.now) c.node_at-node.result.now.kids.items)) c.spelling.ensures (c.if-is_own_member.ensures w bodies) c.place.ensures

pub member_named-returns-else-is_own_member : goal.member_named-returns-else-is_own_member
member_named-returns-else-is_own_member t c w bodies =
    other_named (lexemes_of c.args.tokens.now) c.args.class (reading (ctx_of c.args.env.now) w bodies c.args.members.now)
    (tree_at (syntax_of c.args.nodes.now) c.args.id) c.node_at-node.result.now.kind c.node_at-node.result.now.at c.node_at-node.result.now.token
    (trees_at (syntax_of c.args.nodes.now) c.node_at-node.result.now.kids.items) c.in-Some.token c.spelling.result.now
    c.node_at-node.ensures.node (c.in-Some.ensures (lexemes_of c.args.tokens.now) c.args.class
    (reading (ctx_of c.args.env.now) w bodies c.args.members.now) c.node_at-node.result.now.at
    (trees_at (syntax_of c.args.nodes.now) c.node_at-node.result.now.kids.items)) c.spelling.ensures (c.if-is_own_member.ensures w bodies)
