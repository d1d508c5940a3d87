use Rattle.cpp_types.specs.Class.{classes_of}
use Rattle.cpp_layout.proofs.Stacks.{item_complete, frame_over, next_end, next_offsets}
use Rattle.cpp_layout.proofs.frames.frame.Goals as goal

pub placed-requires-clause-complete : goal.placed-requires-clause-complete
placed-requires-clause-complete c = item_complete
    (classes_of c.args.classes.now) c.args.items.now c.loop-item.item-index c.item-item.result c.requires.complete c.loop-item-test.true c.item-item.is

pub returns-in_default : goal.returns-in_default
returns-in_default c = frame_over (classes_of c.args.classes.now) c.args.items.now c.loop-item.item-index c.loop-item.end c.item-item.result
    c.loop-item-test.true c.item-item.is c.loop-item.invariant.end c.in_default.ensures

pub loop-item-preserved : goal.loop-item-preserved
loop-item-preserved c = record {
  end = next_end (classes_of c.args.classes.now) c.args.items.now c.loop-item.item-index c.loop-item.end c.item-item.result c.in-Some.lies c.loop-item-test.true
      c.item-item.is c.loop-item.invariant.end c.in-Some.ensures;
  offsets = next_offsets (classes_of c.args.classes.now) c.args.items.now c.loop-item.item-index c.loop-item.end c.item-item.result c.in-Some.lies
      c.loop-item.offsets.items c.put.new.offsets.items c.loop-item-test.true c.item-item.is c.loop-item.invariant.end c.in-Some.ensures
      c.loop-item.invariant.offsets c.in-Ok.ensures;
  within = c.in-Some.ensures.within;
}
