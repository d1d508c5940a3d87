use Rattle.std.proofs.Common.{◌≡◌, drop, map, fold}
use Rattle.std.specs.List.{flat_map}
use Rattle.cpp_tree.specs.Units.{param_of}
use Rattle.tx_unsafe.specs.Volatile.{marked}
use Rattle.tx_unsafe.specs.Unsafe.{param_findings}
use Rattle.tx_unsafe.specs.First.{sooner}
use Rattle.tx_unsafe.proofs.definition.with_params.Given as goal

abbrev pub invariant-loop-param : goal.invariant-loop-param
invariant-loop-param l = fold sooner l.found (flat_map (param_findings (marked l.volatile)) (map param_of (drop l.param-index l.params)))
    ≡ fold sooner l.initial.found (flat_map (param_findings (marked l.volatile)) (map param_of l.params))
