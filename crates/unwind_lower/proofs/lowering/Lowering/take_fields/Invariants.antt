use Rattle.std.proofs.Common.{◌≡◌, drop}
use Rattle.unwind_lower.specs.States.{state_of}
use Rattle.unwind_lower.specs.Settings.{setting_of}
use Rattle.unwind_lower.specs.Exceptions.{take_fields}
use Rattle.unwind_lower.proofs.lowering.Lowering.take_fields.Given as goal

abbrev pub invariant-loop-id : goal.invariant-loop-id
invariant-loop-id l = take_fields (setting_of l.self) (drop l.id-index l.fields) l.base l.at (state_of l.w)
    ≡ take_fields (setting_of l.self) l.fields l.base l.at (state_of l.initial.w)
