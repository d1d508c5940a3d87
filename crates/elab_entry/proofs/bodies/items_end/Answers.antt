use Rattle.cpp_types.specs.Class.{classes_of}
use Rattle.elab_entry.proofs.Frames.{end_next, end_last}
use Rattle.elab_entry.proofs.bodies.items_end.Goals as goal

pub loop-item-preserved : goal.loop-item-preserved
loop-item-preserved c = end_next (classes_of c.args.env.now.classes.items) c.args.items.now c.loop-item.item-index c.loop-item.end _ _ c.item-item.result
    c.item-item.result c.loop-item.invariant c.loop-item-test.true c.item-item.is c.in_ok-next.ensures

pub returns : goal.returns
returns c = end_last
    (classes_of c.args.env.now.classes.items) c.args.items.now c.loop-item.item-index c.loop-item.end _ c.loop-item.invariant c.loop-item-test.false
