use Rattle.std.proofs.Common.{ℕ, ◌+◌, ◌*◌}
use Rattle.cpp_syntax.proofs.outline.Outline.+shaped_types.Given as goal

abbrev pub decreases-shaped_type_id : goal.decreases-shaped_type_id
decreases-shaped_type_id l = l.depth_left * 64 + 4

abbrev pub decreases-shaped_type_specifier_seq : goal.decreases-shaped_type_specifier_seq
decreases-shaped_type_specifier_seq l = l.depth_left * 64 + 3

abbrev pub decreases-shaped_type_specifier : goal.decreases-shaped_type_specifier
decreases-shaped_type_specifier l = l.depth_left * 64 + 2

abbrev pub decreases-shaped_tx_exception : goal.decreases-shaped_tx_exception
decreases-shaped_tx_exception l = l.depth_left * 64 + 1
