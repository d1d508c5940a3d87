-- A frame of a checked body, with what the source has left to do in it.
use Rattle.std.specs.Prelude.{ℕ, Bool, ◌≡◌, List, ◌∷◌, Some, slice_get, true}
use Rattle.tx_events.specs.declared.End.{End}
use Rattle.tx_events.specs.declared.Event.TheVariants.{Stop, Done}
use Rattle.tx_code.specs.declared.body.Row.{Row}
use Rattle.tx_code.specs.Objects.{BodyView}
use Rattle.tx_code.specs.Meaning.{Names, Home, Frame, Ends, step_act}
use Rattle.tx_code.specs.Meaning as code
use Rattle.cpp_tree.specs.cpp_types.Typ.{Typ}
use Rattle.src_mean.specs.Linked.{Func, Program}
use Rattle.src_mean.specs.Frames.{State, Halted, Ended, at}
use Rattle.src_mean.specs.Frames as frames
use Rattle.symbolic_source.specs.Terms.{Values}
use Rattle.symbolic_source.specs.Outcomes.{Shows}
use Rattle.symbolic_source.specs.Small.{AreWords}
use Rattle.symbolic_code.specs.Facts.{AllHold}
use Rattle.symbolic_code.specs.Places.{frame_at}
use Rattle.symbolic_code.specs.Following.{Table}
use Rattle.body_check.specs.Notes.{Note}

-- a body that is held against a function of the source: the function's number and frame, whether it is the safe body, its rows with the numbers of types, the
-- notes and the table
pub record Held : Type 0 where
  pub number : ℕ
  pub safe : Bool
  pub func : Func
  pub body : BodyView
  pub rows : List Row
  pub notes : List Note
  pub table : Table

-- where the frame lies and where its stack ends, and unknown exceptions are of types that are thrown
abbrev pub Based : (thrown : Typ → Bool) → Home → ℕ → Values → Type 0
Based thrown home limit x = (home.base ≡ x.base) × (x.limit ≡ limit) × ((n : ℕ) → thrown (x.exception n).typ ≡ true)

-- the frame stands at a note, and the source has come to what the note foresees
pub record Stands (p : Program) (numbers : Typ → ℕ) (thrown : Typ → Bool) (h : Held) (home : Home) (limit : ℕ) (rest : List frames.Frame) (rank : ℕ) (s : State)
    (top : Frame) : Type 0 where
  pub values : Values
  pub are_words : AreWords values
  pub based : Based thrown home limit values
  pub at : ℕ
  pub note : Note
  pub is : slice_get h.notes at ≡ Some note
  pub ranked : note.rank ≡ rank
  pub holds : AllHold p h.func values note.facts
  pub frame : top ≡ frame_at p h.func numbers values home note.index note.place
  pub shows : Shows p h.func values rest note.outcome s

-- both have stopped
pub record Stopped (x : Names) (s : State) (c : code.State) : Type 0 where
  pub end : End
  pub here : frames.Here
  pub others : List frames.Frame
  pub first : s ≡ at (Stop end) here (Halted end ∷ others)
  pub second : step_act x c ≡ Ends (Stop end)

-- both have ended, as a thread other than main's does
pub record Finished (x : Names) (s : State) (c : code.State) : Type 0 where
  pub here : frames.Here
  pub others : List frames.Frame
  pub first : s ≡ at Done here (Ended ∷ others)
  pub second : step_act x c ≡ Ends Done
