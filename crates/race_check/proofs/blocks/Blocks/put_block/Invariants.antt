use Rattle.race_check.specs.Blocks.{Putting}
use Rattle.race_check.proofs.blocks.Blocks.put_block.Given as goal

abbrev pub invariant-inside : goal.invariant-inside
invariant-inside l = Putting l.items l.self l.t l.l l.from l.k
