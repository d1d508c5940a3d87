use Rattle.std.proofs.Common.{◌≡◌, drop}
use Rattle.low_code.specs.Caught.{is_among, names_of}
use Rattle.low_code.proofs.caught.is_among.Given as goal

abbrev pub invariant-loop-class : goal.invariant-loop-class
invariant-loop-class l = is_among (names_of (drop l.class-index l.classes)) l.name ≡ is_among (names_of l.classes) l.name
