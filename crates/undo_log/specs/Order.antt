-- Lists of notes in order of their words.
use Rattle.std.specs.Prelude.{ℕ, ◌≡◌, ◌==◌, ◌≤◌, ◌<◌, ◌-◌, ◌++◌, false, Some, List, length, take, drop, slice_index_or}
use Rattle.std.specs.List.{count_by}
use Rattle.undo_log.specs.Notes.{first_note, is_noted, others}
use Rattle.undo_log.specs.declared.notes.Note.{Note}

-- how many notes of the word there are
abbrev pub times_noted : List Note → ℕ → ℕ
times_noted notes word = count_by (λ n. n.word == word) notes

-- no note is of a greater word than one before it
abbrev pub IsDescending : List Note → Type 0
IsDescending notes = (i j : ℕ) (d : Note) → i ≤ j → j < length notes → (slice_index_or notes j d).word ≤ (slice_index_or notes i d).word

-- from start on, the last note is the only one of the word
pub record EndsIn (start word : ℕ) (notes : List Note) : Type 0 where
  pub some : start < length notes
  pub before : is_noted (drop start (take (length notes - 1) notes)) word ≡ false
  pub rest : take start notes ++ others word (drop start notes) ≡ take (length notes - 1) notes
  pub first : (d : Note) → first_note (drop start notes) word ≡ Some (slice_index_or notes (length notes - 1) d).old
