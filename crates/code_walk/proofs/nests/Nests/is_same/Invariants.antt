use Rattle.std.proofs.Common.{◌≡◌, ◌<◌, length}
use Rattle.code_walk.specs.Nests.{nest}
use Rattle.code_walk.specs.Bodies.{same_opens}
use Rattle.code_walk.proofs.nests.Nests.is_same.Given as goal

abbrev pub invariant-outwards : goal.invariant-outwards
invariant-outwards l = record {
  one : l.a < length l.self;
  other : l.b < length l.self;
  same : same_opens (nest l.self l.fn.one) (nest l.self l.fn.other)
      ≡ same_opens (nest l.self l.a) (nest l.self l.b);
}

abbrev pub decreases-outwards : goal.decreases-outwards
decreases-outwards l = l.a
