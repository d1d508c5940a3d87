-- Where a function is entered.
use Rattle.std.specs.Prelude.{ℕ, false, ◌≡◌, ◌≤◌, [], ◌∷◌}
use Rattle.symbolic_source.specs.Frames.{value, Passes, Then}
use Rattle.symbolic_source.specs.Outcomes.{Outcome, silent, goes}
use Rattle.symbolic_source.specs.Steps.{step_of}
use Rattle.symbolic_source.specs.Small.{is_stuck}
use Rattle.body_check.specs.Notes.{variables, no_answers}
use Rattle.body_check.specs.Calls.{bare}
use Rattle.image_links.specs.Books.{func_takes}
use Rattle.symbolic_terms.specs.Meanings.{Meaning}
use Rattle.note_landing.specs.declared.notes.Note.{Note}
use Rattle.note_landing.specs.declared.compiled.Compiled.{Compiled}
use Rattle.note_landing.specs.Shown.{linked_by, func_by, place_by, facts_by, outcome_by}

-- how many words it takes
abbrev pub takes_by : Compiled → ℕ
takes_by b = func_takes (linked_by b) b.number

-- what the source does there
abbrev pub entered_at : Compiled → Outcome
entered_at b = step_of (linked_by b) (func_by b) no_answers (goes silent [] (Passes (variables 0 (takes_by b)) (func_by b).words ∷ Then value (func_by b).body ∷ []))

-- the note is that of the entry
pub record IsEntry (b : Compiled) (m : Meaning) (n : Note) : Type 0 where
  pub first : n.index ≡ 0
  pub facts_are : facts_by b m n.facts ≡ []
  pub place_is : place_by b m n.place ≡ bare (takes_by b)
  pub outcome_is : outcome_by b m n.outcome ≡ entered_at b
  pub foreseen : is_stuck (outcome_by b m n.outcome) ≡ false
  pub low : n.rank ≤ 63
