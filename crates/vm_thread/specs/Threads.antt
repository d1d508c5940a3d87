-- A thread together with the image that it runs.
use Rattle.std.specs.Prelude.{List, ◌∷◌}
use Rattle.tx_events.specs.Thread.{Thread}
use Rattle.tx_code.specs.Images.{ImageView}
use Rattle.tx_code.specs.Meaning as meaning
use Rattle.tx_code.specs.Meaning.{Frame, State, Runs, Unwinds}
use Rattle.tx_code.specs.Program.{names_of, first_state}
use Rattle.tx_code.specs.Sound.{Sound}
use Rattle.tx_code.specs.InShape.{InShape}

-- a state of a thread of an image
pub record Running : Type 0 where
  pub image : ImageView
  pub state : State

-- it goes on as the meaning of code says, in the same image
abbrev pub running : Thread Running
running = record {
  next = λ s. (meaning.thread (names_of s.image)).next s.state;
  after = λ s r. record { image = s.image; state = (meaning.thread (names_of s.image)).after s.state r };
  child = λ s number func arg. record { image = s.image; state = (meaning.thread (names_of s.image)).child s.state number func arg };
  blocks = λ s. (meaning.thread (names_of s.image)).blocks s.state;
}

-- the image is sound, and its code comes to that state
pub record Stands (s : Running) : Type 0 where
  pub sound : Sound s.image
  pub shaped : InShape s.image s.state

abbrev pub IsReached : Running → Type 0
IsReached s = ∥ Stands s ∥₁

-- thread 0 at the start of `main`
abbrev pub at_main : ImageView → Running
at_main i = record { image = i; state = first_state i }

-- the innermost frame of a state, and all frames, the innermost first
abbrev pub innermost : State → Frame
innermost (Runs f rest) = f
innermost (Unwinds e f rest) = f

abbrev pub all_frames : State → List Frame
all_frames (Runs f rest) = f ∷ rest
all_frames (Unwinds e f rest) = f ∷ rest
