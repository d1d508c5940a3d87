-- What values show in a function of a program.
use Rattle.std.specs.Prelude.{List}
use Rattle.symbolic_source.specs.Frames as frames
use Rattle.symbolic_source.specs.Outcomes as outcomes
use Rattle.symbolic_terms.specs.Meanings.{Meaning}
use Rattle.symbolic_terms.specs.declared.frames.Frame.{Frame}
use Rattle.symbolic_terms.specs.declared.frames.Frames.{Frames}
use Rattle.symbolic_terms.specs.declared.frames.Waitings.{Waitings}
use Rattle.symbolic_terms.specs.declared.outcomes.Outcome.{Outcome}
use Rattle.symbolic_terms.specs.declared.outcomes.Rest.{Rest}
use Rattle.symbolic_terms.specs.Shown.{frame_of, frames_of, all_waiting, outcome_of}
use Rattle.symbolic_leaving.specs.declared.source.Source.{Source}
use Rattle.symbolic_leaving.specs.Source.{types_at, units_of, func_of}

-- at what numbers of words and of exceptions mean
abbrev pub frame_at : Source → Meaning → Frame → frames.Frame
frame_at s m g = frame_of (types_at s) m (units_of s) (func_of s) g

abbrev pub frames_at : Source → Meaning → Frames → List frames.Frame
frames_at s m k = frames_of (types_at s) m (units_of s) (func_of s) k

abbrev pub waiting_at : Source → Meaning → Waitings → List frames.Waiting
waiting_at s m ws = all_waiting (types_at s) m (units_of s) ws

abbrev pub outcome_at : Source → Meaning → Outcome → outcomes.Outcome
outcome_at s m o = outcome_of (types_at s) m (units_of s) (func_of s) o

-- what is left to do
abbrev pub left_in : Source → Meaning → Rest → List frames.Frame
left_in s m r = frames_at s m r.frames

abbrev pub waits_in : Source → Meaning → Rest → List frames.Waiting
waits_in s m r = waiting_at s m r.temporaries
