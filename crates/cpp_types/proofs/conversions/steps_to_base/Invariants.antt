use Rattle.std.proofs.Common.{◌≡◌, ℕ, ◌+◌}
use Rattle.cpp_types.specs.Class.{classes_of}
use Rattle.cpp_types.specs.Conversion.{base_steps}
use Rattle.cpp_types.proofs.Chains.{left}
use Rattle.cpp_types.proofs.conversions.steps_to_base.Given as goal

-- `k` more steps up the chain may be looked at
abbrev pub invariant-loop-passed : goal.invariant-loop-passed
invariant-loop-passed l = (k : ℕ) → l.passed + k ≡ l.most
    → base_steps (classes_of l.classes) l.class l.base ≡ left (classes_of l.classes) l.base l.passed k l.below
