use Rattle.std.proofs.Common.{◌≡◌, drop, map}
use Rattle.cpp_types.specs.Class.{function_of}
use Rattle.cpp_tree.specs.Units.{unit_of, program_of}
use Rattle.src_link.specs.Slots.{first_symbol}
use Rattle.src_link.proofs.slots.first_symbol.Given as goal

abbrev pub invariant-loop-unit : goal.invariant-loop-unit
invariant-loop-unit l = first_symbol l.class (function_of l.record) (map unit_of (drop l.unit-index l.program.units.items))
    ≡ first_symbol l.class (function_of l.record) (program_of l.program).units
