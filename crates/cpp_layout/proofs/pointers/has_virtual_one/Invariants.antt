use Rattle.std.proofs.Common.{◌≡◌, drop, map}
use Rattle.std.specs.List.{list_any}
use Rattle.cpp_types.specs.Class.{function_of}
use Rattle.cpp_layout.specs.Layout.{is_virtual_function}
use Rattle.cpp_layout.proofs.pointers.has_virtual_one.Given as goal

abbrev pub invariant-loop-function : goal.invariant-loop-function
invariant-loop-function l = list_any is_virtual_function (map function_of l.functions)
    ≡ list_any is_virtual_function (map function_of (drop l.function-index l.functions))
