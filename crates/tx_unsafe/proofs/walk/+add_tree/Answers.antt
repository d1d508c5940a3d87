use Rattle.std.proofs.Common.{arith}
use Rattle.cpp_tree.specs.Arena.{trees_of}
use Rattle.tx_unsafe.specs.Volatile.{marked}
use Rattle.tx_unsafe.proofs.Trees.{whole_first, whole_calls, last_first, last_calls, kids_below, kid_below}
use Rattle.tx_unsafe.proofs.walk.+add_tree.Goals as goal

pub add_counted-requires-clause-below : goal.add_counted-requires-clause-below
add_counted-requires-clause-below t c = kids_below c.args.nodes.now c.args.id.0 c.index-nodes-id.result c.requires.ordered c.requires.within c.index-nodes-id.is

pub add_tree-requires : goal.add_tree-requires
add_tree-requires t c =
    let k = kid_below c.args.nodes.now c.args.id.0 c.index-nodes-id.result c.deref-kid-items.result.now c.loop-kid.kid-index
    (record { 0 = 0 }) c.requires.ordered c.requires.within c.index-nodes-id.is c.deref-kid-items.ensures.value c.loop-kid-test.true in
    (omega arith, (c.requires.ordered, omega arith))

pub returns-clause-first : goal.returns-clause-first
returns-clause-first t c = whole_first (marked c.args.volatile.now) c.args.inside c.is_inside-deeper.result c.args.nodes.now c.args.id c.index-nodes-id.result
    c.deref-kid-items.result.now c.args.contents.now.first c.add_counted.new.contents.first c.loop-kid.contents.first
    c.requires.ordered c.requires.within c.index-nodes-id.is c.is_inside-deeper.ensures c.deref-kid-items.ensures.value c.in_ok-add_counted.ensures.first
    (last_first (marked c.args.volatile.now) c.is_inside-deeper.result
    (trees_of c.args.nodes.now) c.deref-kid-items.result.now c.loop-kid.kid-index c.loop-kid.contents.first _ c.loop-kid-test.false
    c.loop-kid.invariant.first)

pub returns-clause-calls : goal.returns-clause-calls
returns-clause-calls t c = whole_calls c.args.inside c.is_inside-deeper.result c.args.nodes.now c.args.id c.index-nodes-id.result c.deref-kid-items.result.now
    c.args.contents.now.calls.items c.add_counted.new.contents.calls.items c.loop-kid.contents.calls.items
    c.requires.ordered c.requires.within c.index-nodes-id.is c.is_inside-deeper.ensures c.deref-kid-items.ensures.value c.in_ok-add_counted.ensures.calls
    (last_calls c.is_inside-deeper.result (trees_of c.args.nodes.now) c.deref-kid-items.result.now c.loop-kid.kid-index c.loop-kid.contents.calls.items _
    c.loop-kid-test.false c.loop-kid.invariant.calls)
