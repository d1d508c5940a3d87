use Rattle.std.proofs.Common.{◌≡◌, length}
use Rattle.tree_forests.specs.Forests.{HaveForests}
use Rattle.elab_units.proofs.Elaborating.{SoFar}
use Rattle.elab_units.proofs.programs.elaborate.Given as goal

abbrev pub invariant-loop-unit : goal.invariant-loop-unit
invariant-loop-unit l = record {
  long : length l.trees.items ≡ l.unit-index;
  forests : HaveForests l.trees.items;
  so_far : SoFar l.units l.unit-index l.trees.items l.known;
}
