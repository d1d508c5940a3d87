use Rattle.std.proofs.Common.{◌≡◌, drop}
use Rattle.cpp_types.specs.Typ.{typs_of}
use Rattle.cpp_types.specs.Class.{typs_below}
use Rattle.class_records.proofs.within.+below.Given as goal

abbrev pub invariant-are_types_below-loop-ty : goal.invariant-are_types_below-loop-ty
invariant-are_types_below-loop-ty l = typs_below l.limit (typs_of l.types) ≡ typs_below l.limit (typs_of (drop l.ty-index l.types))
