-- What goes outward at a frame, and words that are known.
use Rattle.std.specs.Prelude.{◌==◌, ◌%◌, ◌^◌, ◌||◌, Bool, true, false, Option, Some, None}
use Rattle.symbolic_source.specs.Terms as words
use Rattle.symbolic_source.specs.Outcomes as outcomes
use Rattle.symbolic_source.specs.Steps.{left}
use Rattle.symbolic_terms.specs.Meanings.{Meaning}
use Rattle.symbolic_terms.specs.declared.frames.Exit.{Exit}
use Rattle.symbolic_terms.specs.declared.frames.Exit.TheVariants.{Throws, Returns, Breaks, Continues}
use Rattle.symbolic_terms.specs.declared.outcomes.Outcome.{Outcome}
use Rattle.symbolic_terms.specs.declared.outcomes.Rest.{Rest}
use Rattle.symbolic_terms.specs.Shown.{exit_of}
use Rattle.symbolic_leaving.specs.declared.source.Source.{Source}
use Rattle.symbolic_leaving.specs.Source.{types_at}
use Rattle.symbolic_leaving.specs.Shown.{waits_in, left_in, outcome_at}

-- an outcome has come of it, or it goes on past the frame
abbrev pub past : Source → Meaning → Rest → Exit → Option Outcome → outcomes.Outcome
past s m r exit (Some o) = outcome_at s m o
past s m r exit None = left (waits_in s m r) (exit_of (types_at s) m exit) (left_in s m r)

-- whether it is an exception
abbrev pub throws_in : Exit → Bool
throws_in (Throws e) = true
throws_in (Returns w) = false
throws_in Breaks = false
throws_in Continues = false

-- whether the objects of a scope are destroyed
abbrev pub cleans_in : Bool → Exit → Bool
cleans_in always exit = always || throws_in exit

-- whether a word is 0, where that is known
abbrev pub known_zero : words.Term → Option Bool
known_zero (words.number n) = Some (n % 2 ^ 64 == 0)
known_zero w = None
