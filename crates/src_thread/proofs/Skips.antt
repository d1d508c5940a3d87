-- Frames that mind nothing that goes outward.
use Rattle.std.proofs.Common.{◌≡◌, List, ◌∷◌, refl}
use Rattle.cpp_tree.specs.declared.program.Program.{Program}
use Rattle.src_mean.specs.Frames as frames
use Rattle.src_mean.specs.Source.{leave}
use Rattle.src_frames.specs.declared.frames.ValueFrame.{ValueFrame}
use Rattle.src_frames.specs.declared.frames.ValueFrame.TheVariants.{Loads, Loaded, Replied, StoreTo, Converts, Right, Apply, Choose, AssignTo, UpdateAt}
use Rattle.src_frames.specs.declared.frames.ValueFrame.TheVariants.{UpdateOld, UpdateBy, CopyTo, CopyBy, From}
use Rattle.src_frames.specs.Shown.{value_shown}

pub skip_value : (p : Program) (f : ValueFrame) (h : frames.Here) (x : frames.Exit) (k : List frames.Frame) → leave h x (value_shown p f ∷ k) ≡ leave h x k
skip_value p (Loads kind volatile) h x k = refl
skip_value p (Loaded kind) h x k = refl
skip_value p Replied h x k = refl
skip_value p (StoreTo address kind volatile answer) h x k = refl
skip_value p (Converts kind) h x k = refl
skip_value p (Right op kind t) h x k = refl
skip_value p (Apply op kind left) h x k = refl
skip_value p (Choose way chosen other) h x k = refl
skip_value p (AssignTo kind volatile t) h x k = refl
skip_value p (UpdateAt c t) h x k = refl
skip_value p (UpdateOld c address t) h x k = refl
skip_value p (UpdateBy c address old) h x k = refl
skip_value p (CopyTo source init) h x k = refl
skip_value p (CopyBy target init) h x k = refl
skip_value p (From target init) h x k = refl
