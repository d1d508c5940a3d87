use Rattle.std.proofs.Common.{◌≡◌, map, drop}
use Rattle.cpp_types.specs.Typ.{typs_of}
use Rattle.elab_conv.specs.elab_rules.Types.{types_of}
use Rattle.elab_types.specs.Shown.{parameter_of}
use Rattle.elab_types.proofs.ParameterTypes.{joined}
use Rattle.elab_types.proofs.declarators.types_of_parameters.Given as goal

abbrev pub invariant-loop-param : goal.invariant-loop-param
invariant-loop-param l = joined (typs_of l.types.items) (types_of (map parameter_of (drop l.param-index l.params))) ≡ types_of (map parameter_of l.params)
