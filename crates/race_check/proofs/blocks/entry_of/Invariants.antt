use Rattle.race_check.proofs.BlockSteps.{Back}
use Rattle.race_check.proofs.blocks.entry_of.Given as goal

abbrev pub invariant-back : goal.invariant-back
invariant-back l = Back l.items l.t l.l l.k l.found

abbrev pub decreases-back : goal.decreases-back
decreases-back l = l.k
