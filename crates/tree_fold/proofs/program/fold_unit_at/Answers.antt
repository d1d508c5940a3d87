use Rattle.std.proofs.Common.{refl, ap, ◌∙◌}
use Rattle.std.proofs.lemmas.Option.{get_or_from_slice_get}
use Rattle.cpp_tree.specs.declared.program.UnitTree.{UnitTree}
use Rattle.cpp_tree.specs.Units.{unit_of}
use Rattle.tx_unsafe.specs.Volatile.{marked}
use Rattle.tree_fold.specs.Programs.{folded_unit}
use Rattle.tree_fold.proofs.ProgramParts.{weaker, both_ok}
use Rattle.tree_fold.proofs.program.fold_unit_at.Goals as goal

pub returns : goal.returns
returns c = λ u e. weaker c.fold_unit.result _ _ (λ q. record {
  unit = c.fold_unit.new.unit;
  are = refl;
  own = q.1;
  is = q.0 ∙ ap (λ (z : UnitTree). folded_unit (marked c.args.volatile.now) (unit_of z))
      (c.index_mut-unit.ensures.value ∙ get_or_from_slice_get c.args.units.now.items c.args.i u c.index_mut-unit.result.now e);
}) (both_ok c.fold_unit.result _ _ c.fold_unit.ensures.unit c.fold_unit.ensures.own)
