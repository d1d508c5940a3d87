use Rattle.std.proofs.Common.{◌≡◌, ◌≤◌, [], take}
use Rattle.cpp_types.specs.Class.{classes_of}
use Rattle.cpp_layout.specs.Layout.{end_from}
use Rattle.cpp_layout.specs.Frames.{offsets_after}
use Rattle.cpp_layout.proofs.Stacks.{extents_at}
use Rattle.cpp_layout.specs.declared.frames.TheConstants.{GREATEST_FRAME}
use Rattle.cpp_layout.proofs.frames.frame.Given as goal

-- the items so far
abbrev pub invariant-loop-item : goal.invariant-loop-item
invariant-loop-item l = record {
  end : l.end ≡ end_from 0 (extents_at (classes_of l.classes) (take l.item-index l.items));
  offsets : l.offsets.items ≡ offsets_after [] (extents_at (classes_of l.classes) (take l.item-index l.items));
  within : l.end ≤ GREATEST_FRAME;
}
