-- Notes that fit, whoever holds the other bodies.
use Rattle.std.specs.Prelude.{ℕ, Bool, true, false, List}
use Rattle.tx_code.specs.declared.instr.Instr.{Instr}
use Rattle.tx_code.specs.declared.instr.Instr.TheVariants.{Call, TCall, CallIndirect, TCallIndirect, Ret}
use Rattle.cpp_tree.specs.cpp_types.Typ.{Typ}
use Rattle.symbolic_source.specs.Outcomes.{Outcome}
use Rattle.symbolic_code.specs.Facts.{Fact}
use Rattle.symbolic_code.specs.Places.{Place}
use Rattle.body_check.specs.Notes as checked
use Rattle.body_check.specs.Calls.{StepFits, NoteFits, Entry, Checked}
use Rattle.symbolic_terms.specs.Meanings.{Meaning}
use Rattle.note_landing.specs.declared.notes.Note.{Note}
use Rattle.note_landing.specs.declared.notes.Notes.{Notes}
use Rattle.note_landing.specs.declared.compiled.Compiled.{Compiled}
use Rattle.note_landing.specs.Books.{bounds}
use Rattle.note_landing.specs.Shown.{linked_by, book_by, held_by, note_at}
use Rattle.body_notes.specs.declared.fits.Pending.{Pending}

-- what the note says of steps and ranks
abbrev pub pending_of : Note → Pending
pending_of n = record { lead = n.lead; rank = n.rank }

-- neither a call nor a return
abbrev pub is_plain : Instr → Bool
is_plain (Call func words) = false
is_plain (TCall func words) = false
is_plain (CallIndirect ty words) = false
is_plain (TCallIndirect ty words) = false
is_plain (Ret n) = false
is_plain a = true

module _ (b : Compiled) (m : Meaning) (ns : Notes) where
  abbrev pub StepBy : List Fact → Pending → (index : ℕ) → Instr → Place → Outcome → Type 0
  StepBy known g index a q o = (all : ℕ → Bool → List checked.Note) (types : ℕ → Bool → List Typ) → StepFits (linked_by b) bounds (book_by b all types) (held_by b m ns) known g.lead g.rank index a q o

  abbrev pub NoteBy : Note → Type 0
  NoteBy n = (all : ℕ → Bool → List checked.Note) (types : ℕ → Bool → List Typ) → NoteFits (linked_by b) bounds (book_by b all types) (held_by b m ns) (note_at b.source m n)

  abbrev pub EntryBy : Type 0
  EntryBy = (all : ℕ → Bool → List checked.Note) (types : ℕ → Bool → List Typ) → Entry (linked_by b) bounds (book_by b all types) (held_by b m ns)

  abbrev pub CheckedBy : Type 0
  CheckedBy = (all : ℕ → Bool → List checked.Note) (types : ℕ → Bool → List Typ) → Checked (linked_by b) bounds (book_by b all types) (held_by b m ns)

-- there are notes with which it is checked, where numbers of words and of exceptions mean something
pub record HasNotesBy (b : Compiled) : Type 0 where
  pub meaning : Meaning
  pub notes : Notes
  pub checked : CheckedBy b meaning notes
