use Rattle.std.proofs.Common.{◌≡◌, drop}
use Rattle.unwind_lower.specs.States.{state_of}
use Rattle.unwind_lower.specs.Settings.{setting_of}
use Rattle.unwind_lower.specs.Functions.{store_each, word_typs}
use Rattle.unwind_lower.proofs.lowering.Lowering.store_words.Given as goal

abbrev pub invariant-loop-i : goal.invariant-loop-i
invariant-loop-i l = store_each (setting_of l.self) l.i (drop l.i (word_typs (setting_of l.self))) l.at (state_of l.w)
    ≡ store_each (setting_of l.self) 0 (word_typs (setting_of l.self)) l.at (state_of l.initial.w)
