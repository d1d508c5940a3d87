use Rattle.std.proofs.Common.{◌≡◌, drop}
use Rattle.unwind_lower.specs.States.{state_of}
use Rattle.unwind_lower.specs.Settings.{setting_of}
use Rattle.unwind_lower.specs.Exceptions.{put_fields}
use Rattle.unwind_lower.proofs.lowering.Lowering.put_fields.Given as goal

abbrev pub invariant-loop-id : goal.invariant-loop-id
invariant-loop-id l = put_fields (setting_of l.self) l.is_object (drop l.id-index l.fields) (state_of l.w)
    ≡ put_fields (setting_of l.self) l.is_object l.fields (state_of l.initial.w)
