-- What a caller sees of a log: its notes, and for each mark the position at which its notes begin.
use Rattle.std.specs.Prelude.{ℕ, ◌<◌, ◌-◌, ◌≡◌, List, length, drop, slice_index, vec_len, vec_capacity}
use Rattle.undo_log.specs.declared.notes.Note.{Note}
use Rattle.undo_log.specs.declared.undo.Log.{Log}
use Rattle.undo_log.specs.IndexView.{words_listed, CanAdd}

abbrev pub notes_of : Log → List Note
notes_of log = log.list.notes.items

abbrev pub marks_of : Log → List ℕ
marks_of log = log.marks.items

-- where the notes of the newest mark begin, or 0 where there is no mark
abbrev pub newest_start : List ℕ → ℕ
newest_start marks = slice_index marks (length marks - 1)

abbrev pub newest_notes : Log → List Note
newest_notes log = drop (newest_start (marks_of log)) (notes_of log)

-- there is room for one note and one mark more, and the index has all notes and room for one more
pub record HasCapacity (log : Log) : Type 0 where
  pub notes : vec_len log.list.notes < vec_capacity log.list.notes
  pub marks : vec_len log.marks < vec_capacity log.marks
  pub indexed : length (words_listed log.index) ≡ length (notes_of log)
  pub index : CanAdd log.index
