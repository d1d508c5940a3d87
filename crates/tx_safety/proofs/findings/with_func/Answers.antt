use Rattle.cpp_tree.specs.Arena.{trees_of}
use Rattle.cpp_tree.specs.Units.{func_of}
use Rattle.tx_unsafe.specs.Volatile.{marked}
use Rattle.tx_safety.specs.Marks.{may_from}
use Rattle.tx_safety.proofs.FindingLists.{func_found}
use Rattle.tx_safety.proofs.findings.with_func.Goals as goal

pub returns : goal.returns
returns c = func_found (marked c.args.volatile.now) (may_from c.args.marks.now) c.args.n
    (func_of (trees_of c.args.nodes.now) c.args.func.now) c.promises_safety.result c.args.found c.in_ok-contents.contents.first c.with_calls.result
    c.in_ok-contents.contents.calls.items c.deref.result.now
    (c.promises_safety.ensures
    (trees_of c.args.nodes.now)) c.in_ok-contents.ensures.first c.in_ok-contents.ensures.calls c.deref.ensures.value c.with_calls.ensures
