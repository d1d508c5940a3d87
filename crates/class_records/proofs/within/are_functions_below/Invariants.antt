use Rattle.std.proofs.Common.{◌≡◌, drop, map}
use Rattle.cpp_types.specs.Class.{function_of}
use Rattle.cpp_types.specs.Order.{functions_below}
use Rattle.class_records.proofs.within.are_functions_below.Given as goal

abbrev pub invariant-loop-function : goal.invariant-loop-function
invariant-loop-function l = functions_below l.limit (map function_of l.functions)
    ≡ functions_below l.limit (map function_of (drop l.function-index l.functions))
