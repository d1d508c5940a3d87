use Rattle.std.proofs.Common.{◌≡◌, ◌<◌, ◌≤◌, ℕ, length}
use Rattle.std.specs.Prelude.{false, ◌&&◌, ◌||◌, nat_le, nat_lt, slice_index_or}
use Rattle.code_verify.proofs.edges.mark.Given as goal

abbrev pub invariant-loop-index : goal.invariant-loop-index
invariant-loop-index l = record {
  len : length l.covered.items ≡ length l.initial.covered.items;
  marks : (i : ℕ) → i < length l.initial.covered.items
      → slice_index_or l.covered.items i false ≡ (slice_index_or l.initial.covered.items i false || (nat_le l.fn.row.from i && nat_lt i l.index));
  none : l.end ≤ l.fn.row.from → l.index ≡ l.fn.row.from;
}
