use Rattle.std.proofs.Common.{◌≡◌, map, drop}
use Rattle.cpp_nests.specs.Roles.{role_by, spelled_of}
use Rattle.cpp_nests.proofs.roles.role_by.Given as goal

abbrev pub invariant-loop-row : goal.invariant-loop-row
invariant-loop-row l = role_by (map spelled_of (drop l.row-index l.rows)) l.word l.otherwise ≡ role_by (map spelled_of l.rows) l.word l.otherwise
