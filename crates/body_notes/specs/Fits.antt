-- What comes of an instruction fits.
use Rattle.std.specs.Prelude.{ℕ, ◌≡◌, ◌+◌, ◌≤◌, ◌⊎◌, true, List, ◌∷◌}
use Rattle.symbolic_source.specs.Terms.{Exception, unknown, variable}
use Rattle.symbolic_source.specs.Frames.{throws, Replied}
use Rattle.symbolic_source.specs.Outcomes.{Doing, Outcome}
use Rattle.symbolic_source.specs.Steps.{left, given}
use Rattle.symbolic_source.specs.Replacing.{in_waitings, in_frames}
use Rattle.symbolic_code.specs.Facts.{Fact, in_facts}
use Rattle.symbolic_code.specs.Places.{Place, later}
use Rattle.symbolic_terms.specs.declared.outcomes.Rest.{Rest}
use Rattle.symbolic_leaving.specs.Shown.{waits_in, left_in}
use Rattle.code_follows.specs.declared.next.Next.{Next}
use Rattle.code_follows.specs.declared.next.Course.{Course}
use Rattle.code_follows.specs.Shown.{coming, next_of}
use Rattle.body_check.specs.Notes.{no_answers, is_loud, IsThrown, Fits, Flies, in_place, rising}
use Rattle.symbolic_terms.specs.Meanings.{Meaning}
use Rattle.note_landing.specs.declared.notes.Notes.{Notes}
use Rattle.note_landing.specs.declared.compiled.Compiled.{Compiled}
use Rattle.note_landing.specs.Books.{bounds}
use Rattle.note_landing.specs.Shown.{linked_by, func_by, types_by, notes_by, thrown_by, numbers_by, rows_by, FliesBy, LandsAtOnce}
use Rattle.note_landing.specs.Flights.{BehindBy}
use Rattle.body_notes.specs.declared.fits.Pending.{Pending}

-- the rank of a flight may be behind the note's
abbrev pub IsBelow : ℕ → Pending → Type 0
IsBelow n g = (1 ≤ g.lead) ⊎ (n + 1 ≤ g.rank)

-- what the source does where an exception comes from elsewhere
abbrev pub left_rising : Compiled → Meaning → Rest → Outcome
left_rising b m rest = left (in_waitings rising (waits_in b.source m rest)) (throws (unknown 0)) (in_frames rising (left_in b.source m rest))

module _ (b : Compiled) (m : Meaning) (ns : Notes) where
  abbrev pub FitsBy : List Fact → Pending → Next → Outcome → Type 0
  FitsBy known g next o = Fits (linked_by b) (func_by b) bounds (notes_by b m ns) (thrown_by b) (numbers_by b) (rows_by b) known g.lead g.rank (next_of (types_by b) m next o)

  abbrev pub CourseBy : List Fact → Pending → Course → (index : ℕ) → Place → Outcome → Type 0
  CourseBy known g course index q o = Fits (linked_by b) (func_by b) bounds (notes_by b m ns) (thrown_by b) (numbers_by b) (rows_by b) known g.lead g.rank (coming m course index q o)

  -- an event
  abbrev pub LoudBy : List Fact → Doing → Rest → (index : ℕ) → Place → Type 0
  LoudBy known doing rest index q = (is_loud doing ≡ true) × BehindBy b m ns known index q rest

  -- a thread has been started, and the code goes on
  abbrev pub StartsBy : List Fact → Rest → (index : ℕ) → Place → Type 0
  StartsBy known rest index q = LandsAtOnce b m ns (in_facts later known) index q
      (given (linked_by b) (func_by b) no_answers (in_waitings later (waits_in b.source m rest)) (variable 0) (in_frames later (Replied ∷ left_in b.source m rest)))

  -- an exception comes from elsewhere
  abbrev pub RisesBy : List Fact → (index : ℕ) → Place → Rest → (rank : ℕ) → Type 0
  RisesBy known index q rest rank = FliesBy b m ns (in_facts rising known) index (in_place rising q) (unknown 0) (left_rising b m rest) rank

  abbrev pub FlightBy : List Fact → (index : ℕ) → Place → Exception → Outcome → Type 0
  FlightBy known index q e o = Flies (linked_by b) (func_by b) bounds (notes_by b m ns) (thrown_by b) (numbers_by b) (rows_by b) known index q e o

  -- an exception is thrown
  abbrev pub ThrowsBy : List Fact → Pending → Exception → (index : ℕ) → Place → Outcome → Type 0
  ThrowsBy known g e index q o = (t : FlightBy known index q e o) × IsThrown (thrown_by b) e × ((1 ≤ g.lead) ⊎ (t.rank + 1 ≤ g.rank))

  -- what a caller's handler has is thrown again
  abbrev pub RethrowsBy : List Fact → Pending → Rest → (index : ℕ) → Place → Type 0
  RethrowsBy known g rest index q = (t : FlightBy (in_facts rising known) index (in_place rising q) (unknown 0) (left_rising b m rest)) × ((1 ≤ g.lead) ⊎ (t.rank + 1 ≤ g.rank))
