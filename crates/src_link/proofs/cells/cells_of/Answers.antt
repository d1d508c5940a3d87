use Rattle.std.proofs.Common.{ap, ◌∙◌}
use Rattle.cpp_tree.specs.Units.{program_of}
use Rattle.src_bind.specs.Defs.{defs_of}
use Rattle.src_bind.proofs.Stay.{sizes_there}
use Rattle.src_bind.proofs.Made.{room_for}
use Rattle.src_link.proofs.cells.cells_of.Goals as goal

pub offsets-requires-clause-sized : goal.offsets-requires-clause-sized
offsets-requires-clause-sized c = sizes_there (program_of c.args.program.now) c.requires.can (defs_of c.as_slice-globals.result.now)
    (ap defs_of c.as_slice-globals.ensures.value ∙ c.in_ok-kept.ensures)

pub offsets-requires-clause-total : goal.offsets-requires-clause-total
offsets-requires-clause-total c = room_for (program_of c.args.program.now) (defs_of c.as_slice-globals.result.now) c.requires.can
    (ap defs_of c.as_slice-globals.ensures.value ∙ c.in_ok-kept.ensures)
