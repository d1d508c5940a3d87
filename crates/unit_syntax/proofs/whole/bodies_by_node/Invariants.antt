use Rattle.std.proofs.Common.{take}
use Rattle.unit_syntax.specs.Copies.{IsNotedIn}
use Rattle.unit_syntax.proofs.whole.bodies_by_node.Given as goal

abbrev pub invariant-bodies : goal.invariant-bodies
invariant-bodies l = IsNotedIn (take l.body-index l.bodies) l.table.items
