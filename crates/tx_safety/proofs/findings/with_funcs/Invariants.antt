use Rattle.std.proofs.Common.{◌≡◌, drop, fold, map}
use Rattle.cpp_tree.specs.Arena.{trees_of}
use Rattle.cpp_tree.specs.Units.{func_of}
use Rattle.tx_unsafe.specs.Volatile.{marked}
use Rattle.tx_safety.specs.Safe.{funcs_findings}
use Rattle.tx_unsafe.specs.First.{sooner}
use Rattle.tx_safety.specs.Marks.{may_from}
use Rattle.tx_safety.proofs.findings.with_funcs.Given as goal

abbrev pub invariant-loop-n : goal.invariant-loop-n
invariant-loop-n l = fold sooner l.found (funcs_findings (marked l.volatile) (may_from l.marks) l.n (map (func_of (trees_of l.nodes)) (drop l.n l.funcs)))
    ≡ fold sooner l.initial.found (funcs_findings (marked l.volatile) (may_from l.marks) 0 (map (func_of (trees_of l.nodes)) l.funcs))
