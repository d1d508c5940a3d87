use Rattle.std.proofs.Common.{ap, ◌∙◌}
use Rattle.cpp_tree.specs.Units.{program_of}
use Rattle.src_bind.specs.Defs.{defs_of}
use Rattle.src_bind.proofs.Stay.{sizes_there}
use Rattle.src_link.proofs.cells.globals_size.Goals as goal

pub end_of-requires-clause-sized : goal.end_of-requires-clause-sized
end_of-requires-clause-sized c = sizes_there (program_of c.args.program.now) c.requires (defs_of c.as_slice.result.now)
    (ap defs_of c.as_slice.ensures.value ∙ c.in_ok-kept.ensures)
