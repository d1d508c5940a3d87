-- Each body that is read in a body has less depth left.
use Rattle.std.proofs.Common.{◌+◌, ◌*◌, take}
use Rattle.cpp_parse.specs.Bodies.{AreRead}
use Rattle.cpp_parse.proofs.bodies.+bodies_in_bodies.Given as goal

abbrev pub decreases-read_bodies : goal.decreases-read_bodies
decreases-read_bodies l = l.depth_left * 2 + 1

abbrev pub decreases-read_body : goal.decreases-read_body
decreases-read_body l = l.depth_left * 2

abbrev pub invariant-read_bodies-bodies : goal.invariant-read_bodies-bodies
invariant-read_bodies-bodies l = AreRead l.types (take l.body-index l.bodies) l.fn.nodes l.nodes l.fn.noted.items l.noted.items
