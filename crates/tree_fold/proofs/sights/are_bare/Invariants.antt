use Rattle.std.proofs.Common.{◌≡◌, drop}
use Rattle.tree_fold.specs.Sights.{all_bare}
use Rattle.tree_fold.proofs.sights.are_bare.Given as goal

abbrev pub invariant-loop-id : goal.invariant-loop-id
invariant-loop-id l = all_bare l.sights l.ids ≡ all_bare l.sights (drop l.id-index l.ids)
