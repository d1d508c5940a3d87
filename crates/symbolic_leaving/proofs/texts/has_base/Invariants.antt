use Rattle.std.proofs.Common.{◌≡◌, ℕ, ◌+◌}
use Rattle.cpp_tree.specs.cpp_types.Class.{classes_of}
use Rattle.src_frames.proofs.Caught.{left}
use Rattle.symbolic_leaving.proofs.texts.has_base.Given as goal

-- `k` more bases may be looked at
abbrev pub invariant-loop-passed : goal.invariant-loop-passed
invariant-loop-passed l = (k : ℕ) → l._passed + k ≡ l.most → left (classes_of l.classes) l.text l.most l.fn.class ≡ left (classes_of l.classes) l.text k l.below
