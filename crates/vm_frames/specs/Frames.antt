-- What the vectors of a thread show: its frames, as the meaning of code has them.
use Rattle.std.specs.Prelude.{Bool, true, false, ℕ, List, [], ◌∷◌, ◌++◌, reverse, map, take, Option, Some, None, ◌&&◌, nat_le, nat_eq}
use Rattle.tx_events.specs.Thread.{Open, Atomic, Sync}
use Rattle.tx_code.specs.Meaning as meaning
use Rattle.tx_code.specs.Meaning.{State, Runs, Unwinds, on_with}
use Rattle.vm_frames.specs.declared.parts.Exception.{Exception}
use Rattle.vm_frames.specs.declared.parts.Held.{Held}
use Rattle.vm_frames.specs.declared.parts.Held.TheVariants.{Free, Building, Flying}
use Rattle.vm_frames.specs.declared.parts.Block.{Block}
use Rattle.vm_frames.specs.declared.parts.Block.TheVariants.{Atomic as AtomicBlock, Sync as SyncBlock}
use Rattle.vm_frames.specs.declared.parts.Frame.{Frame}
use Rattle.vm_frames.specs.declared.parts.Suspended.{Suspended}
use Rattle.vm_frames.specs.Stacks.{above, put}

abbrev pub exception_of : Exception → meaning.Exception
exception_of e = record { ty = e.ty; bytes = e.bytes }

abbrev pub held_of : Held → meaning.Held
held_of Free = meaning.Free
held_of (Building e) = meaning.Building (exception_of e)
held_of (Flying e) = meaning.Flying (exception_of e)

abbrev pub open_of : Block → Open
open_of (AtomicBlock kind) = Atomic kind
open_of SyncBlock = Sync

-- a frame of a thread, with what it has on the stacks
abbrev pub frame_of : (thread : ℕ) → Frame → List ℕ → List Block → List Exception → meaning.Frame
frame_of t f words blocks caught = record {
  home = record { thread = t; func = f.func; safe = f.safe; base = f.address };
  nest = record { opens = map open_of blocks; caught = map exception_of caught; held = held_of f.held };
  index = f.index;
  words = words;
}

-- the frames below, the innermost first
abbrev pub frames_of : (thread : ℕ) → List Suspended → List ℕ → List Block → List Exception → List meaning.Frame
frames_of t [] words blocks caught = []
frames_of t (s ∷ ss) words blocks caught = frame_of t s.frame (above s.words words) (above s.blocks blocks) (above s.caught caught)
    ∷ frames_of t ss (take s.words words) (take s.blocks blocks) (take s.caught caught)

-- what a frame has begins where that of the frame below it begins, or above, and that of the outermost begins at 0
abbrev pub are_nested : (words blocks caught : ℕ) → List Suspended → Bool
are_nested w b c [] = nat_eq w 0 && nat_eq b 0 && nat_eq c 0
are_nested w b c (s ∷ ss) = nat_le s.words w && nat_le s.blocks b && nat_le s.caught c && are_nested s.words s.blocks s.caught ss

abbrev pub state_of : Option meaning.Exception → meaning.Frame → List meaning.Frame → State
state_of None top rest = Runs top rest
state_of (Some e) top rest = Unwinds e top rest

-- the frame below goes on behind its call, with a word more if there is one
abbrev pub returned : Option ℕ → meaning.Frame → List meaning.Frame → State
returned w f [] = Runs f []
returned w f (g ∷ rest) = Runs (on_with g (put w g.words)) rest

-- an exception unwinds the frame below
abbrev pub left : meaning.Exception → meaning.Frame → List meaning.Frame → State
left e f [] = Unwinds e f []
left e f (g ∷ rest) = Unwinds e g rest

abbrev pub is_outermost : List meaning.Frame → Bool
is_outermost [] = true
is_outermost (f ∷ rest) = false

-- the operands of frames, the innermost frame first and its top first
abbrev pub words_down : List meaning.Frame → List ℕ
words_down [] = []
words_down (f ∷ fs) = f.words ++ words_down fs

-- and the outermost frame first, each frame's from the bottom up
abbrev pub words_in : List meaning.Frame → List ℕ
words_in fs = reverse (words_down fs)
