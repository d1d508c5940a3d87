-- Lists of notes, and putting them back.
use Rattle.std.specs.Prelude.{ℕ, ◌==◌, Bool, not, Option, Some, None, unwrap_or, option_map, List, [], ◌∷◌, ◌++◌, ◌≡◌, if◌then◌else◌, filter, map}
use Rattle.std.specs.List.{find, list_all, list_any}
use Rattle.tx_events.specs.Memory.{MemoryLayout, can_access, update}
use Rattle.undo_log.specs.declared.notes.Note.{Note}

-- what the first note of the word has
abbrev pub first_note : List Note → ℕ → Option ℕ
first_note notes word = option_map (λ n. n.old) (find (λ n. n.word == word) notes)

abbrev pub is_noted : List Note → ℕ → Bool
is_noted notes word = list_any (λ n. n.word == word) notes

-- the word of each note
abbrev pub noted_words : List Note → List ℕ
noted_words notes = map (λ n. n.word) notes

-- the memory with each noted word as its first note has it, and all else as it was
abbrev pub put_back : List Note → (ℕ → ℕ) → ℕ → ℕ
put_back notes memory word = unwrap_or (first_note notes word) (memory word)

-- the memory with this word put back, if there is something to put back
abbrev pub word_back : Option ℕ → ℕ → (ℕ → ℕ) → ℕ → ℕ
word_back None word memory = memory
word_back (Some old) word memory = update memory word old

-- the notes of all other words
abbrev pub others : ℕ → List Note → List Note
others word notes = filter (λ n. not (n.word == word)) notes

-- each noted word is a word of the memory
abbrev pub can_put_back : MemoryLayout → List Note → Bool
can_put_back p notes = list_all (λ n. can_access p n.word 8) notes

-- the notes, and one of this word where it is not noted
abbrev pub noted_too : List Note → ℕ → ℕ → List Note
noted_too notes word old = if is_noted notes word then notes else notes ++ record { word = word; old = old } ∷ []

-- the first note of each noted word has what the word holds in this memory
abbrev pub HoldsOf : List Note → (ℕ → ℕ) → Type 0
HoldsOf notes memory = (word old : ℕ) → first_note notes word ≡ Some old → old ≡ memory word
