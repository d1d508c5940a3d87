use Rattle.std.proofs.Common.{ℕ, ◌≡◌, ◌<◌, Some}
use Rattle.std.specs.Prelude.{slice_get}
use Rattle.symbolic_terms.specs.Meanings.{Meaning, Agrees}
use Rattle.note_landing.specs.declared.notes.Note.{Note}
use Rattle.note_landing.specs.Shown.{types_by}
use Rattle.body_notes.specs.Checked.{NoteBy}
use Rattle.body_notes.proofs.whole.all_fit.Given as goal

abbrev pub invariant-loop-note : goal.invariant-loop-note
invariant-loop-note l = (m : Meaning) → Agrees (types_by l.body) m l.words → (n : ℕ) (note : Note) → n < l.note-index → slice_get l.notes.list.items n ≡ Some note → NoteBy l.body m l.notes note
