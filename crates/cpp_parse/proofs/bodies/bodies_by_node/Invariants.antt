use Rattle.std.proofs.Common.{◌≡◌, length, take}
use Rattle.cpp_parse_expr.specs.Depths.{HaveNodes, IsNotedIn}
use Rattle.cpp_parse.proofs.bodies.bodies_by_node.Given as goal

abbrev pub invariant-bodies : goal.invariant-bodies
invariant-bodies l = (length l.noted.items ≡ length l.nodes) × IsNotedIn (take l.body-index l.bodies) l.noted.items × HaveNodes (length l.nodes) l.noted.items
