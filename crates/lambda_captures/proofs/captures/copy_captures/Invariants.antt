use Rattle.std.proofs.Common.{◌≡◌, map, take}
use Rattle.elab_init.specs.elab_ctx.Ctx.{capture_of}
use Rattle.lambda_captures.proofs.captures.copy_captures.Given as goal

abbrev pub invariant-loop-found : goal.invariant-loop-found
invariant-loop-found l = map capture_of l.list.items ≡ map capture_of (take l.found-index l.captures)
