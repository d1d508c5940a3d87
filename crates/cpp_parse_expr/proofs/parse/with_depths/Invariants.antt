use Rattle.std.proofs.Common.{◌≡◌, map, take}
use Rattle.cpp_parse_expr.specs.declared.parse.BodyRange.{BodyRange}
use Rattle.cpp_parse_expr.specs.Parse.{open_bodies}
use Rattle.cpp_parse_expr.proofs.parse.with_depths.Given as goal

abbrev pub invariant-bodies : goal.invariant-bodies
invariant-bodies l =
    (open_bodies l.ranges.items ≡ take l.k l.bodies) × (map (λ (range : BodyRange). range.depth) l.ranges.items ≡ take l.k l.depths)
