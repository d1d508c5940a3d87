-- What the frames of a thread show.
use Rattle.std.specs.Prelude.{List, reverse}
use Rattle.std.specs.Option.{option_map}
use Rattle.tx_code.specs.Meaning as meaning
use Rattle.tx_code.specs.Meaning.{State}
use Rattle.vm_frames.specs.Stacks.{own, under, HasRoom}
use Rattle.vm_frames.specs.Frames.{exception_of, frame_of, frames_of, state_of}
use Rattle.vm_frames.specs.declared.frames.FrameStack.{FrameStack}
use Rattle.std.specs.Prelude.{◌+◌, ◌≤◌, vec_len, vec_capacity}

abbrev pub top_of : FrameStack → meaning.Frame
top_of s = frame_of s.thread s.top (own s.words) (own s.blocks) (own s.caught)

abbrev pub rest_of : FrameStack → List meaning.Frame
rest_of s = frames_of s.thread (reverse s.below.items) (under s.words) (under s.blocks) (under s.caught)

abbrev pub shown : FrameStack → State
shown s = state_of (option_map exception_of s.flight) (top_of s) (rest_of s)

-- there is room for what one instruction adds
pub record CanTake (s : FrameStack) : Type 0 where
  pub words : HasRoom s.words 2
  pub blocks : HasRoom s.blocks 1
  pub caught : HasRoom s.caught 1
  pub below : vec_len s.below + 1 ≤ vec_capacity s.below
