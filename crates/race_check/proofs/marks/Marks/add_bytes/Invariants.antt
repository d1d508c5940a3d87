use Rattle.std.proofs.Common.{◌≡◌, ◌≤◌}
use Rattle.std.specs.Prelude.{slice_index}
use Rattle.race_check.specs.Marks.{cell, GathersFrom}
use Rattle.race_check.proofs.marks.Marks.add_bytes.Given as goal

abbrev pub invariant-bytes : goal.invariant-bytes
invariant-bytes l = record {
  none : l.to ≤ l.from → l.byte ≡ l.from;
  gathers : GathersFrom (cell l.self.bytes) l.from l.byte (slice_index l.fn.row.latest) (slice_index l.row.latest);
}
