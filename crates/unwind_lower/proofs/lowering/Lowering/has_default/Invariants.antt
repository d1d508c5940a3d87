use Rattle.std.proofs.Common.{◌≡◌, drop}
use Rattle.unwind_lower.specs.Settings.{setting_of}
use Rattle.unwind_lower.specs.Blocks.{has_default}
use Rattle.unwind_lower.proofs.lowering.Lowering.has_default.Given as goal

abbrev pub invariant-loop-id : goal.invariant-loop-id
invariant-loop-id l = has_default (setting_of l.self) (drop l.id-index l.items) ≡ has_default (setting_of l.self) l.items
