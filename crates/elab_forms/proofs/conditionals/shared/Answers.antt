use Rattle.elab_make.specs.cpp_types.Typ.{typ_of}
use Rattle.elab_make.specs.cpp_tree.Arena.{trees_of}
use Rattle.elab_forms.proofs.Beside.{shared_ok}
use Rattle.elab_forms.proofs.conditionals.shared.Goals as goal

pub returns : goal.returns
returns c = shared_ok c.args.at c.args.test c.in_ok-x.x c.in_ok-y.y c.args.a c.args.b (typ_of c.args.joined) c.conditional_node.result
    (trees_of c.args.nodes.now.items) (trees_of c.seen_as.new.nodes.items) (trees_of c.seen_as-2.new.nodes.items)
    (trees_of c.conditional_node.new.nodes.items) c.requires.test c.requires.right c.requires.joined c.in_ok-x.ensures c.in_ok-y.ensures
    c.conditional_node.ensures
