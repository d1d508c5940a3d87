use Rattle.std.proofs.Common.{◌≡◌, take}
use Rattle.cpp_types.specs.Typ.{typs_of}
use Rattle.cpp_types.proofs.copying.+copies.Given as goal

abbrev pub invariant-copy_all-loop-ty : goal.invariant-copy_all-loop-ty
invariant-copy_all-loop-ty l = typs_of l.copies.items ≡ typs_of (take l.ty-index l.types)
