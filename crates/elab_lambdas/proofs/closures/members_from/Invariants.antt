use Rattle.std.proofs.Common.{◌≡◌, map, take}
use Rattle.elab_entry.specs.cpp_types.Class.{member_of}
use Rattle.elab_entry.specs.elab_ctx.Ctx.{capture_of}
use Rattle.elab_entry.specs.elab_rules.Lambdas.{capture_members}
use Rattle.elab_lambdas.proofs.closures.members_from.Given as goal

abbrev pub invariant-loop-found : goal.invariant-loop-found
invariant-loop-found l = map member_of l.list.items ≡ capture_members (map capture_of (take l.found-index l.captures))
