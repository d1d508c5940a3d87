use Rattle.cpp_types.specs.Class.{classes_of}
use Rattle.cpp_layout.proofs.Samples.{all_more}
use Rattle.src_link.proofs.fits.all_complete.Goals as goal

pub loop-item-preserved : goal.loop-item-preserved
loop-item-preserved c = λ rest. c.loop-item.invariant
    (all_more (classes_of c.args.classes.now) c.args.items.now c.loop-item.item-index c.item-item.result c.loop-item-test.true c.item-item.is
    (c.holds_complete.ensures c.if-not-holds_complete.false) rest)
