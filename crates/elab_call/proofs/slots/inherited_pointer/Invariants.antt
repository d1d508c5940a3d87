use Rattle.std.proofs.Common.{◌≡◌, ℕ, ◌+◌}
use Rattle.cpp_types.specs.Class.{classes_of}
use Rattle.cpp_types.specs.Conversion.{chain}
use Rattle.elab_make.specs.elab_rules.Calls.{pointer_along}
use Rattle.elab_call.proofs.slots.inherited_pointer.Given as goal

-- `k` more bases may be looked at
abbrev pub invariant-loop-passed : goal.invariant-loop-passed
invariant-loop-passed l = (k : ℕ) → l._passed + k ≡ l.most
    → pointer_along (classes_of l.env.classes.items) (chain l.most (classes_of l.env.classes.items) l.fn.class)
    ≡ pointer_along (classes_of l.env.classes.items) (chain k (classes_of l.env.classes.items) l.below)
