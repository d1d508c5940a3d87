-- The savepoints of a log, as maps from words to what they held.
use Rattle.std.specs.Prelude.{ℕ, ◌≡◌, ◌<◌, ◌-◌, Bool, true, false, not, ◌==◌, List, [], ◌∷◌, length, take, drop, reverse, slice_index}
use Rattle.undo_log.specs.declared.notes.Note.{Note}
use Rattle.undo_log.specs.declared.undo.Log.{Log}
use Rattle.undo_log.specs.Notes.{first_note}
use Rattle.undo_log.specs.View.{notes_of, marks_of}
use Rattle.tx_serial.specs.Machine.{Save, no_save, oldest, hand, forget}

-- the savepoints of these marks, the newest first: each has what the first notes since it and before the next one have
abbrev pub saves_by : List Note → List ℕ → List Save
saves_by notes [] = []
saves_by notes (m ∷ ms) = first_note (drop m notes) ∷ saves_by (take m notes) ms

-- the savepoints of a log, the newest first
unfoldable pub saves_of : Log → List Save
saves_of log = saves_by (notes_of log) (reverse (marks_of log))

abbrev pub newest : List Save → Save
newest [] = no_save
newest (s ∷ ss) = s

-- the newest one is dropped, and hands down its notes
abbrev pub handed : List Save → List Save
handed [] = []
handed (s ∷ []) = []
handed (s ∷ o ∷ ss) = hand s o ∷ ss

-- the newest one notes this word no more
abbrev pub newest_without : ℕ → List Save → List Save
newest_without x [] = []
newest_without x (s ∷ ss) = forget s x ∷ ss

abbrev pub is_nil : {X : Type 0} → List X → Bool
is_nil [] = true
is_nil (x ∷ xs) = false

-- the oldest mark has all notes: none stands before it
abbrev pub begins_at : List Note → List ℕ → Bool
begins_at notes [] = is_nil notes
begins_at notes (m ∷ ms) = m == 0

-- a transaction that can be put back has a mark, and nothing else has one
abbrev pub marks_fit : Bool → List ℕ → Bool
marks_fit true marks = not (is_nil marks)
marks_fit false marks = is_nil marks

-- one savepoint, which notes nothing
pub record IsFresh (log : Log) : Type 0 where
  pub notes : notes_of log ≡ []
  pub marks : marks_of log ≡ 0 ∷ []

-- the notes since this mark, from the oldest mark on counted
abbrev pub notes_since : Log → ℕ → List Note
notes_since log mark = drop (slice_index (marks_of log) mark) (notes_of log)

-- the savepoints from the newest down to this one, which has its mark's number
abbrev pub down_to : ℕ → List Save → List Save
down_to mark ss = take (length ss - mark) ss

-- Each mark has its savepoint: since the mark, the first note of a word has what the savepoints down to the mark's
-- together put the word back to.
abbrev pub ShowsLevels : Log → List Save → Type 0
ShowsLevels log ss = (mark word : ℕ) → mark < length (marks_of log) → first_note (notes_since log mark) word ≡ oldest (down_to mark ss) word
