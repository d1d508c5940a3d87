use Rattle.std.proofs.Common.{◌≡◌, drop}
use Rattle.elab_members.specs.Initialisers.{are_known}
use Rattle.elab_members.proofs.defaults.are_first.Given as goal

abbrev pub invariant-loop-found : goal.invariant-loop-found
invariant-loop-found l = are_known l.count (drop l.found-index l.list) ≡ are_known l.count l.list
