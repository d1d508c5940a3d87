use Rattle.std.proofs.Common.{ap}
use Rattle.cpp_tree.specs.cpp_types.Class.{classes_of}
use Rattle.cpp_tree.specs.Units.{program_of, global_of}
use Rattle.src_bind.specs.Defs.{def_of}
use Rattle.src_bind.proofs.Stay.{holds_by, too_large, sized_by}
use Rattle.src_bind.proofs.globals.size_at.Goals as goal

pub size_align-requires-clause-complete : goal.size_align-requires-clause-complete
size_align-requires-clause-complete c = holds_by (program_of c.args.program.now) (def_of c.args.def.now)
    (global_of c.in-Some.global.now) _ c.requires.sized c.in-Some.ensures (ap classes_of c.deref.ensures.value)

pub unreachable-requires : goal.unreachable-requires
unreachable-requires c = too_large (program_of c.args.program.now) (def_of c.args.def.now) (global_of c.in-Some.global.now) _ c.requires.sized c.in-Some.ensures
    (ap classes_of c.deref.ensures.value) c.in_default-size_align.ensures

pub returns : goal.returns
returns c = sized_by (program_of c.args.program.now) (def_of c.args.def.now) (global_of c.in-Some.global.now) _ c.in-Ok.found c.in-Some.ensures
    (ap classes_of c.deref.ensures.value) c.in-Ok.ensures
