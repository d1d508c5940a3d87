use Rattle.std.proofs.Common.{ap}
use Rattle.cpp_types.specs.Class.{classes_of}
use Rattle.cpp_tree.specs.Units.{program_of, global_of}
use Rattle.src_bind.specs.Defs.{def_of}
use Rattle.src_bind.proofs.Stay.{sized_by}
use Rattle.src_link.proofs.fits.size_found.Goals as goal

pub returns-in-Ok-clause-size : goal.returns-in-Ok-clause-size
returns-in-Ok-clause-size c = sized_by (program_of c.args.program.now) (def_of c.args.def.now)
    (global_of c.in-Some.global.now) _ c.in-Ok.found c.in-Some.ensures (ap classes_of c.deref-2.ensures.value) c.in-Ok.ensures
