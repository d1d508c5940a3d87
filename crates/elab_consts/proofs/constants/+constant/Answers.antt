use Rattle.std.proofs.Common.{◌∙◌, map}
use Rattle.elab_rules.specs.cpp_tree.Arena.{trees_of, tree_at}
use Rattle.elab_rules.specs.cpp_tree.Units.{global_of}
use Rattle.elab_consts.proofs.Kids.{of_three_at, of_others, not_load}
use Rattle.elab_consts.proofs.constants.+constant.Goals as goal

pub returns-then-kids-eq3 : goal.returns-then-kids-eq3
returns-then-kids-eq3 t c =
    let trees = trees_of c.args.nodes.now.items in
    c.from_three.ensures ∙ of_three_at (map global_of c.args.globals.now.items) trees
    (tree_at trees c.args.id) c.node_at-node.result.now.kind c.node_at-node.result.now.cat c.in_ok-kids.kids.now
    (record {
      0 =
          0;
    }) c.in_ok-test.test c.in_ok-yes.yes c.in_ok-no.no c.node_at-node.ensures.kind c.node_at-node.ensures.cat c.in_ok-kids.ensures.kids c.if-kids-eq3.true
    (not_load _ c.in_default.not-Load) c.in_ok-test.ensures c.in_ok-yes.ensures c.in_ok-no.ensures

pub returns : goal.returns
returns t c =
    let trees = trees_of c.args.nodes.now.items in
    c.word_at.ensures ∙ of_others (map global_of c.args.globals.now.items) trees
    (tree_at trees c.args.id) c.node_at-node.result.now.kind c.node_at-node.result.now.cat c.in_ok-kids.kids.now c.node_at-node.ensures.kind
    c.node_at-node.ensures.cat c.in_ok-kids.ensures.kids (not_load _ c.in_default.not-Load) c.if-kids-eq1.false c.if-kids-eq2.false c.if-kids-eq3.false
