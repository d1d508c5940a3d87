use Rattle.std.proofs.Common.{◌≡◌, ℕ, ◌+◌, Some}
use Rattle.cpp_tree.specs.cpp_types.Class.{class_of, classes_of}
use Rattle.low_code.specs.Caught.{has_name}
use Rattle.low_code.proofs.caught.is_or_has_base.Given as goal

-- `k` more bases may be looked at
abbrev pub invariant-loop : goal.invariant-loop
invariant-loop l = (k : ℕ) → l.counter + k ≡ l.most
    → has_name l.most (classes_of l.classes) l.name (Some (class_of l.fn.class)) ≡ has_name k (classes_of l.classes) l.name (Some (class_of l.below))
