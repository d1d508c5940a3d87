use Rattle.std.specs.Prelude.{slice_index}
use Rattle.race_check.proofs.BlockSteps.{Ahead}
use Rattle.race_check.proofs.blocks.Blocks.gather_ahead.Given as goal

abbrev pub invariant-ahead : goal.invariant-ahead
invariant-ahead l = Ahead l.items l.j l.u l.other (slice_index l.row.latest)
