use Rattle.std.proofs.Common.{◌≡◌, ◌∙◌, ◌+◌, length, true, [], fold, sym, ap, arith, subst, List}
use Rattle.cpp_tree.specs.declared.arena.TNodeId.{TNodeId}
use Rattle.cpp_tree.specs.Arena.{trees_of, trees_at, with_node, are_below}
use Rattle.elab_ctx.proofs.Looks.{kids_look, within_wider, length_shown}
use Rattle.elab_ctx.proofs.nodes.kids_at.Goals as goal

pub index-requires : goal.index-requires
unfolding trees_of
index-requires c = let h : length (fold with_node [] c.args.nodes.now.items) ≡ 0 + length c.args.nodes.now.items = length_shown [] c.args.nodes.now.items in
    omega arith

pub returns-clause-kids : goal.returns-clause-kids
unfolding trees_of
returns-clause-kids c =
    let low : are_below c.args.id.0 c.index.result.now.kids.items ≡ true =
    subst (λ (z : List TNodeId). are_below c.args.id.0 z ≡ true) c.deref.ensures.value (sym c.are_before.ensures ∙ c.if-not-are_before.false) in
    kids_look c.args.nodes.now.items c.args.id c.index.result.now c.requires c.index.ensures low
    ∙ ap (trees_at (fold with_node [] c.args.nodes.now.items)) (sym c.deref-2.ensures.value)

pub returns-clause-within : goal.returns-clause-within
returns-clause-within c =
    let low : are_below c.args.id.0 c.deref-2.result.now ≡ true =
    subst (λ (z : List TNodeId). are_below c.args.id.0 z ≡ true) (c.deref.ensures.value ∙ sym c.deref-2.ensures.value)
    (sym c.are_before.ensures ∙ c.if-not-are_before.false) in
    within_wider c.args.id.0 (length (trees_of c.args.nodes.now.items)) c.deref-2.result.now c.requires low
