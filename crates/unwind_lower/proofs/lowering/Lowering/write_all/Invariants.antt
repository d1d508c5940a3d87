use Rattle.unwind_lower.specs.States.{state_of}
use Rattle.unwind_lower.specs.Settings.{setting_of}
use Rattle.unwind_lower.specs.Steps.{Reaches}
use Rattle.unwind_lower.proofs.lowering.Lowering.write_all.Given as goal

abbrev pub invariant-loop : goal.invariant-loop
invariant-loop l = Reaches (setting_of l.self) (state_of l.initial.w) (state_of l.w)
