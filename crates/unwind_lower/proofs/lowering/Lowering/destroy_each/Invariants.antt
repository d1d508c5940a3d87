use Rattle.std.proofs.Common.{◌≡◌, drop}
use Rattle.unwind_lower.specs.States.{state_of}
use Rattle.unwind_lower.specs.Settings.{setting_of}
use Rattle.unwind_lower.specs.Objects.{destroy_each}
use Rattle.unwind_lower.proofs.lowering.Lowering.destroy_each.Given as goal

abbrev pub invariant-loop-i : goal.invariant-loop-i
invariant-loop-i l = destroy_each (setting_of l.self) (drop l.i l.rows) (state_of l.w) ≡ destroy_each (setting_of l.self) l.rows (state_of l.initial.w)
