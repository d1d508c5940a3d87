use Rattle.race_check.specs.Regular.{RegularTo}
use Rattle.race_check.proofs.regular.is_regular.Given as goal

abbrev pub invariant-items : goal.invariant-items
invariant-items l = RegularTo l.items l.i
