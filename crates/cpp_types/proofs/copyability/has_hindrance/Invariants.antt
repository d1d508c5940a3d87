use Rattle.std.proofs.Common.{◌≡◌, drop, map}
use Rattle.std.specs.List.{list_any}
use Rattle.cpp_types.specs.Class.{function_of}
use Rattle.cpp_types.specs.Trivial.{hinders}
use Rattle.cpp_types.proofs.copyability.has_hindrance.Given as goal

abbrev pub invariant-loop-function : goal.invariant-loop-function
invariant-loop-function l = list_any (hinders l.class l.name) (map function_of l.functions)
    ≡ list_any (hinders l.class l.name) (map function_of (drop l.function-index l.functions))
