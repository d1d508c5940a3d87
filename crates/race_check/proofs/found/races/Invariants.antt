use Rattle.race_check.specs.Blocks.{Blocked}
use Rattle.race_check.specs.Clocks.{Clocked}
use Rattle.race_check.specs.Marks.{Marked}
use Rattle.race_check.specs.Words.{Listed}
use Rattle.race_check.proofs.found.races.Given as goal

abbrev pub invariant-items : goal.invariant-items
invariant-items l = record {
  clocked : Clocked l.items l.clocks l.j;
  blocked : Blocked l.items l.blocks l.j;
  marked : Marked l.items l.seen l.j;
  listed : Listed l.items l.words.items l.j;
}
