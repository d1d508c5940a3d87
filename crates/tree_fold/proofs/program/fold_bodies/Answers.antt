use Rattle.std.proofs.Common.{map, refl}
use Rattle.cpp_tree.specs.Units.{unit_of}
use Rattle.tree_fold.proofs.ProgramParts.{program_is, readable_first}
use Rattle.tree_fold.proofs.program.fold_bodies.Goals as goal

pub fold_units-requires : goal.fold_units-requires
fold_units-requires c = readable_first c.args.program c.requires

pub returns-clause-program : goal.returns-clause-program
returns-clause-program c = program_is c.args.program c.args.program
    (map unit_of c.fold_units.new.units.items) c.in_ok-volatile.volatile.items c.as_slice.result.now c.deref.result.now
    refl c.as_slice.ensures.value c.deref.ensures.value c.in_ok-volatile.ensures c.in_ok-fold_units.ensures.units
