use Rattle.std.proofs.Common.{◌≡◌, ℕ, ◌+◌}
use Rattle.cpp_tree.specs.cpp_types.Class.{classes_of}
use Rattle.src_bind.proofs.Chains.{left}
use Rattle.src_bind.proofs.bound.has_base.Given as goal

-- `k` more bases may be looked at
abbrev pub invariant-loop-passed : goal.invariant-loop-passed
invariant-loop-passed l = (k : ℕ) → l._passed + k ≡ l.most → left (classes_of l.classes) l.name l.most l.fn.class ≡ left (classes_of l.classes) l.name k l.below
