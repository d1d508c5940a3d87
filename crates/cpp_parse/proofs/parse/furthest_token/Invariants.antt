use Rattle.std.proofs.Common.{◌≤◌, length}
use Rattle.cpp_parse.proofs.parse.furthest_token.Given as goal

abbrev pub invariant-bodies : goal.invariant-bodies
invariant-bodies l = l.furthest ≤ length l.types.terminals
