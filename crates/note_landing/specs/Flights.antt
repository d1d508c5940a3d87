-- Exceptions in flight.
use Rattle.std.specs.Prelude.{ℕ, List}
use Rattle.tx_events.specs.Thread.{rest_of}
use Rattle.symbolic_source.specs.Terms.{Exception, variable}
use Rattle.symbolic_source.specs.Frames.{Waiting, throws}
use Rattle.symbolic_source.specs.Outcomes.{Outcome, goes_out}
use Rattle.symbolic_source.specs.Steps.{given}
use Rattle.symbolic_source.specs.Replacing.{in_waitings, in_frames}
use Rattle.symbolic_code.specs.Facts.{Fact, in_facts}
use Rattle.symbolic_code.specs.Places.{Place, flying, holding, later, opened_later}
use Rattle.symbolic_terms.specs.Meanings.{Meaning}
use Rattle.symbolic_terms.specs.declared.outcomes.Rest.{Rest}
use Rattle.symbolic_leaving.specs.Shown.{waiting_at, frames_at}
use Rattle.body_check.specs.Notes.{no_answers}
use Rattle.note_landing.specs.declared.notes.Notes.{Notes}
use Rattle.note_landing.specs.declared.compiled.Compiled.{Compiled}
use Rattle.note_landing.specs.Shown.{linked_by, func_by, LandsAtOnce}

-- the place behind the edge of a block that an exception leaves
abbrev pub behind_edge : Place → Exception → Place
behind_edge q e = opened_later (holding q (flying e)) (rest_of q.opens)

-- the exception has left the function
pub data IsOut : Outcome → Exception → Type 0 where
  out : {e : Exception} (temporaries : List Waiting) → IsOut (goes_out (throws e) temporaries) e

-- what the source does behind an event whose reply is the first variable
abbrev pub given_later : Compiled → Meaning → Rest → Outcome
given_later b m rest = given (linked_by b) (func_by b) no_answers (in_waitings later (waiting_at b.source m rest.temporaries)) (variable 0) (in_frames later (frames_at b.source m rest.frames))

-- the source lands at once there
abbrev pub BehindBy : Compiled → Meaning → Notes → List Fact → (index : ℕ) → Place → Rest → Type 0
BehindBy b m ns known index q rest = LandsAtOnce b m ns (in_facts later known) index q (given_later b m rest)
