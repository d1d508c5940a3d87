use Rattle.std.proofs.Common.{◌≡◌, drop}
use Rattle.low_code.specs.Temporaries.{has_one}
use Rattle.low_code.proofs.temporaries.has_one.Given as goal

abbrev pub invariant-loop-kid : goal.invariant-loop-kid
invariant-loop-kid l = has_one l.known (drop l.kid-index l.kids) ≡ has_one l.known l.kids
