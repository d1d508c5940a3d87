-- Each call further down has less depth left.
use Rattle.std.proofs.Common.{◌+◌, ◌*◌, List}
use Rattle.cpp_ast.specs.declared.units.LamBody.{LamBody}
use Rattle.cpp_ast.specs.Trees.{Trees, ShowsAllWith}
use Rattle.cpp_parse_expr.specs.Depths.{IsNotedIn}
use Rattle.cpp_parse_expr.proofs.FirstDeepNode.{Passing}
use Rattle.cpp_parse_expr.proofs.depth.+down.Given as goal

abbrev pub decreases-first_deep : goal.decreases-first_deep
decreases-first_deep l = l.depth_left * 3

abbrev pub decreases-first_deep_kid : goal.decreases-first_deep_kid
decreases-first_deep_kid l = l.depth_left * 3 + 1

abbrev pub decreases-first_deep_in_body : goal.decreases-first_deep_in_body
decreases-first_deep_in_body l = l.depth_left * 3 + 2

abbrev pub invariant-first_deep_kid-kids : goal.invariant-first_deep_kid-kids
invariant-first_deep_kid-kids l =
    (bodies : List LamBody) (trees : Trees) → IsNotedIn bodies l.noted → ShowsAllWith bodies l.nodes l.kids trees → Passing bodies l.nodes l.kids
    l.kid-index l.limit l.depth trees l.fn.lambdas.items l.lambdas.items
