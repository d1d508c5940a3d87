use Rattle.std.proofs.Common.{◌≡◌, ◌<◌, ℕ, length, drop}
use Rattle.std.specs.Prelude.{false, ◌||◌, slice_index_or}
use Rattle.tx_code.specs.Sound.{has_edge}
use Rattle.code_verify.proofs.edges.covered_by_edges.Given as goal

abbrev pub invariant-loop-row : goal.invariant-loop-row
invariant-loop-row l = record {
  len : length l.covered.items ≡ l.count;
  is : (i : ℕ) → i < l.count → (slice_index_or l.covered.items i false || has_edge (drop l.row-index l.rows) i) ≡ has_edge l.rows i;
}
