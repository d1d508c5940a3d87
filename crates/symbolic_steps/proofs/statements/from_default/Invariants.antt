use Rattle.std.proofs.Common.{◌≡◌}
use Rattle.src_mean.specs.Source.{from_label, is_default}
use Rattle.src_frames.specs.Trees.{count_of}
use Rattle.src_frames.specs.Bounds.{all_kids}
use Rattle.symbolic_steps.proofs.statements.from_default.Given as goal

abbrev pub invariant-loop-item : goal.invariant-loop-item
invariant-loop-item l = from_label is_default (all_kids l.source.bound.now l.at) ≡ from_label is_default (all_kids l.source.bound.now l.initial.at)

abbrev pub decreases-loop-item : goal.decreases-loop-item
decreases-loop-item l = count_of (all_kids l.source.bound.now l.at)
