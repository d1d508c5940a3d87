use Rattle.std.proofs.Common.{◌∙◌, take}
use Rattle.link_tables.specs.Symbols.{has_rank}
use Rattle.link_tables.proofs.FirstNumbers.{number_step}
use Rattle.link_tables.proofs.places.by_rank.Goals as goal

pub loop-def-preserved : goal.loop-def-preserved
loop-def-preserved c = (
  number_step has_rank c.args.defs.now c.loop-def.def-index _ c.note_rank.new.table.items c.loop-def-test.true
      (c.note_rank.ensures.tells (take c.loop-def.def-index c.args.defs.now) c.loop-def.invariant.0),
  c.note_rank.ensures.length ∙ c.loop-def.invariant.1,
)
