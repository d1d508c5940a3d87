-- Calls of a body under test.
use Rattle.std.specs.Prelude.{ℕ, Bool, true, false, ◌≡◌, ◌+◌, ◌≤◌, List, ◌∷◌}
use Rattle.symbolic_source.specs.Terms.{number, variable}
use Rattle.symbolic_source.specs.Frames.{Gives, handled, blocks_in}
use Rattle.symbolic_source.specs.Outcomes.{silent, goes, Outcome}
use Rattle.symbolic_source.specs.Replacing.{in_terms, in_waitings, in_frames}
use Rattle.symbolic_code.specs.Facts.{Fact, in_facts}
use Rattle.symbolic_code.specs.Places.{Place, later, place_later}
use Rattle.symbolic_terms.specs.declared.outcomes.Rest.{Rest}
use Rattle.symbolic_leaving.specs.Shown.{waits_in, left_in}
use Rattle.body_check.specs.Notes.{Lands, no_answers}
use Rattle.body_check.specs.Calls.{first_of, AllThrown}
use Rattle.symbolic_terms.specs.Meanings.{Meaning}
use Rattle.note_landing.specs.declared.notes.Notes.{Notes}
use Rattle.note_landing.specs.declared.compiled.Compiled.{Compiled}
use Rattle.note_landing.specs.Books.{bounds}
use Rattle.note_landing.specs.Shown.{linked_by, func_by, notes_by, thrown_by}
use Rattle.body_notes.specs.declared.calls.Ends.{Ends}
use Rattle.body_notes.specs.Fits.{RisesBy}

-- what the source does behind a call, with the word that is handed back, or with none
abbrev pub given_back : Compiled → Meaning → (gives : Bool) → Rest → Outcome
given_back b m true rest = goes silent (in_waitings later (waits_in b.source m rest)) (Gives (variable 0) ∷ in_frames later (left_in b.source m rest))
given_back b m false rest = goes silent (waits_in b.source m rest) (Gives (number 0) ∷ left_in b.source m rest)

-- and where the operands are
abbrev pub place_back : (gives : Bool) → Place → Place
place_back true q = place_later q (variable 0 ∷ in_terms later q.operands)
place_back false q = q

abbrev pub facts_back : (gives : Bool) → List Fact → List Fact
facts_back true known = in_facts later known
facts_back false known = known

module _ (b : Compiled) (m : Meaning) (ns : Notes) where
  -- the caller goes on behind a call, by at least one silent step
  pub record BackBy (known : List Fact) (index : ℕ) (q : Place) (o : Outcome) : Type 0 where
    pub lands : Lands (linked_by b) (func_by b) bounds (notes_by b m ns) (thrown_by b) known no_answers index q o
    pub some : 1 ≤ lands.lag
    pub short : lands.lag ≤ 512

  -- with the word that is handed back, or with none; the words of the call have been taken off
  abbrev pub BackWithBy : (gives : Bool) → List Fact → ℕ → Place → Rest → Type 0
  BackWithBy gives known i q rest = BackBy (facts_back gives known) i (place_back gives q) (given_back b m gives rest)

  -- what a call leaves behind it
  pub record BehindBy (ends : Ends) (known : List Fact) (index : ℕ) (q : Place) (rest : Rest) : Type 0 where
    pub back : BackWithBy ends.gives known (index + 1) q rest
    pub thrown : ends.stops ≡ false → RisesBy b m ns known index q rest 63
    pub opens : q.opens ≡ blocks_in (left_in b.source m rest)
    pub caught : first_of q.caught ≡ handled (left_in b.source m rest)
    pub type : AllThrown (thrown_by b) q.caught
