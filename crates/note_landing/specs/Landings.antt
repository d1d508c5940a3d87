-- What the tests of a note say, with the numbers that the next test needs beside it.
use Rattle.std.specs.Prelude.{ℕ, ◌≡◌, ◌≤◌, Bool, false, List, Some, slice_get}
use Rattle.cpp_tree.specs.cpp_types.Typ.{Typ}
use Rattle.src_mean.specs.Linked.{Func, Program}
use Rattle.symbolic_source.specs.Outcomes.{Outcome}
use Rattle.symbolic_source.specs.Steps.{Answers}
use Rattle.symbolic_source.specs.Small.{is_stuck}
use Rattle.symbolic_source.specs.Replacing.{Replacing, in_outcome}
use Rattle.symbolic_source.specs.Terms.{Exception}
use Rattle.symbolic_code.specs.Facts.{Fact, in_facts, AllAmong, settled}
use Rattle.symbolic_code.specs.Places.{Place}
use Rattle.tx_code.specs.declared.body.Row.{Row}
use Rattle.body_check.specs.Notes.{Note, IsThrown, in_place, Lands, Flies}
use Rattle.note_landing.specs.Books.{bounds}

-- with these terms in the place of its variables a note is what was computed
module _ (thrown : Typ → Bool) (note : Note) (known : List Fact) (q : Place) (o : Outcome) where
  pub record Makes (terms : Replacing) : Type 0 where
    pub types : (n : ℕ) → IsThrown thrown (terms.exception n)
    pub same_place : in_place terms note.place ≡ q
    pub same_facts : AllAmong (in_facts terms note.facts) known
    pub same_outcome : in_outcome terms note.outcome ≡ o

  -- with some terms
  pub record Same (index : ℕ) : Type 0 where
    pub there : note.index ≡ index
    pub low : note.rank ≤ 63
    pub terms : Replacing
    pub makes : Makes terms

module _ (p : Program) (f : Func) (notes : List Note) (thrown : Typ → Bool) where
  -- a note of the index, of this rank, is what was computed, with terms in the place of its variables
  pub record Found (known : List Fact) (index : ℕ) (q : Place) (o : Outcome) (rank : ℕ) : Type 0 where
    pub at : ℕ
    pub note : Note
    pub is : slice_get notes at ≡ Some note
    pub same : Same thrown note known q o index
    pub ranked : note.rank ≡ rank

  -- the same with decisions made by what is known
  pub record Agrees (known : List Fact) (index : ℕ) (q : Place) (o : Outcome) (rank : ℕ) : Type 0 where
    pub found : Found known index q (settled known o) rank
    pub foreseen : is_stuck o ≡ false

  -- a landing after so many silent steps, at a note of this rank
  pub record LandsIn (known : List Fact) (answers : Answers) (index : ℕ) (q : Place) (o : Outcome) (lag rank : ℕ) : Type 0 where
    pub lands : Lands p f bounds notes thrown known answers index q o
    pub lag_is : lands.lag ≡ lag
    pub rank_is : lands.note.rank ≡ rank

  -- an exception in flight, where ranks lie below this one
  pub record FliesBelow (numbers : Typ → ℕ) (rows : List Row) (known : List Fact) (index : ℕ) (q : Place) (e : Exception) (o : Outcome) (rank : ℕ) : Type 0 where
    pub flies : Flies p f bounds notes thrown numbers rows known index q e o
    pub rank_is : flies.rank ≡ rank
