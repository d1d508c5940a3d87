use Rattle.std.proofs.Common.{◌≡◌, ◌+◌, length, [], fold, arith}
use Rattle.cpp_tree.specs.Arena.{trees_of, with_node}
use Rattle.elab_ctx.proofs.Looks.{looks_index, length_shown}
use Rattle.elab_ctx.proofs.nodes.node_at.Goals as goal

pub index-requires : goal.index-requires
unfolding trees_of
index-requires c = let h : length (fold with_node [] c.args.nodes.now.items) ≡ 0 + length c.args.nodes.now.items = length_shown [] c.args.nodes.now.items in
    omega arith

pub returns-clause-kind : goal.returns-clause-kind
unfolding trees_of
returns-clause-kind c = (looks_index c.args.nodes.now.items c.args.id c.index.result.now c.requires c.index.ensures).kind

pub returns-clause-typ : goal.returns-clause-typ
unfolding trees_of
returns-clause-typ c = (looks_index c.args.nodes.now.items c.args.id c.index.result.now c.requires c.index.ensures).typ

pub returns-clause-cat : goal.returns-clause-cat
unfolding trees_of
returns-clause-cat c = (looks_index c.args.nodes.now.items c.args.id c.index.result.now c.requires c.index.ensures).cat

pub returns-clause-place : goal.returns-clause-place
unfolding trees_of
returns-clause-place c = (looks_index c.args.nodes.now.items c.args.id c.index.result.now c.requires c.index.ensures).place
