use Rattle.std.proofs.Common.{◌≡◌, drop, fold, map, length, None}
use Rattle.std.specs.List.{flat_map}
use Rattle.cpp_tree.specs.Units.{unit_of}
use Rattle.tx_unsafe.specs.Volatile.{marked}
use Rattle.tx_safety.specs.Safe.{unit_findings}
use Rattle.tx_unsafe.specs.First.{sooner}
use Rattle.tx_safety.specs.Marks.{AreUnitMarks}
use Rattle.tx_safety.proofs.checking.check_units.Given as goal

abbrev pub invariant-loop-unit : goal.invariant-loop-unit
invariant-loop-unit l = record {
  found : fold sooner l.found (flat_map (unit_findings (marked l.volatile)) (map unit_of (drop l.unit-index l.units)))
      ≡ fold sooner None (flat_map (unit_findings (marked l.volatile)) (map unit_of l.units));
  long : length l.marks.items ≡ l.unit-index;
  marks : AreUnitMarks (marked l.volatile) l.units l.marks.items;
}
