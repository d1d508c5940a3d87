use Rattle.std.proofs.Common.{◌≡◌, ℕ, Some, length, map, slice_get}
use Rattle.std.specs.Prelude.{string_bytes}
use Rattle.std.specs.List.{All}
use Rattle.cpp_tree.specs.Units.{program_of}
use Rattle.tx_code.specs.Objects.{ObjectView, object_view}
use Rattle.tx_code.specs.WellFormed.{IsObject}
use Rattle.tx_safety.specs.Answers.{checked_in}
use Rattle.unit_objects.specs.Units.{IsNamedObject}
use Rattle.unit_objects.proofs.compiling.unit_objects.Given as goal

abbrev pub invariant-texts : goal.invariant-texts
invariant-texts l = record {
  objects : All (λ o. IsObject (object_view o)) l.objects.items;
  many : length (map object_view l.objects.items) ≡ l.index;
  each : (unit : ℕ) (o : ObjectView) → slice_get (map object_view l.objects.items) unit ≡ Some o
      → IsNamedObject (program_of (checked_in l.safe)) (map string_bytes l.names) unit o;
}
