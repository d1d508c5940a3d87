use Rattle.std.proofs.Common.{◌≡◌, drop}
use Rattle.elab_implicit.specs.Written.{found_for}
use Rattle.elab_implicit.proofs.given.given_for.Given as goal

abbrev pub invariant-loop-found : goal.invariant-loop-found
invariant-loop-found l = found_for l.member (drop l.found-index l.list) ≡ found_for l.member l.list
