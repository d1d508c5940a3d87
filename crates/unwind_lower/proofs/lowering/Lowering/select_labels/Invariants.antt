use Rattle.std.proofs.Common.{◌≡◌, ◌++◌, drop}
use Rattle.unwind_lower.specs.States.{state_of}
use Rattle.unwind_lower.specs.Settings.{setting_of}
use Rattle.unwind_lower.specs.Blocks.{select_labels, labels_of}
use Rattle.unwind_lower.proofs.lowering.Lowering.select_labels.Given as goal

abbrev pub invariant-loop-id : goal.invariant-loop-id
invariant-loop-id l = record {
  made : l.labels.items ++ labels_of (setting_of l.self) (drop l.id-index l.items) (state_of l.w)
      ≡ labels_of (setting_of l.self) l.items (state_of l.initial.w);
  state : select_labels (setting_of l.self) (drop l.id-index l.items) (state_of l.w) ≡ select_labels (setting_of l.self) l.items (state_of l.initial.w);
}
