use Rattle.std.proofs.Common.{◌≡◌, drop}
use Rattle.low_code.specs.Caught.{names_of}
use Rattle.unwind_lower.specs.States.{state_of}
use Rattle.unwind_lower.specs.Exceptions.{catch_each}
use Rattle.unwind_lower.proofs.lowering.Lowering.catch_each.Given as goal

abbrev pub invariant-loop-class : goal.invariant-loop-class
invariant-loop-class l = catch_each l.scope (names_of (drop l.class-index l.classes)) (state_of l.w)
    ≡ catch_each l.scope (names_of l.classes) (state_of l.initial.w)
