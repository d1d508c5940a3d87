-- Lists of words, and where a word stands last in one.
use Rattle.std.specs.Prelude.{ℕ, ◌+◌, ◌==◌, ◌≡◌, Bool, if◌then◌else◌, Option, Some, None, List, [], ◌∷◌, length, take, map}
use Rattle.std.specs.List.{slice_get}
use Rattle.undo_log.specs.declared.index.Entry.{Entry}

-- the last position in a list, from the last position behind its head, and whether it stands at the head
abbrev pub with_head : Option ℕ → Bool → Option ℕ
with_head (Some position) here = Some (position + 1)
with_head None here = if here then Some 0 else None

-- the position of the word's last occurrence, if the list has it
abbrev pub last_position : List ℕ → ℕ → Option ℕ
last_position [] word = None
last_position (w ∷ ws) word = with_head (last_position ws word) (w == word)

abbrev pub words_in : List Entry → List ℕ
words_in entries = map (λ e. e.word) entries

-- each entry has the position of its word's last occurrence before it
abbrev pub IsLinked : List Entry → Type 0
IsLinked entries = (position : ℕ) (e : Entry) → slice_get entries position ≡ Some e → e.before ≡ last_position (take position (words_in entries)) e.word

-- the list has these words, as far as they go
abbrev pub BeginsWith : List ℕ → List ℕ → Type 0
BeginsWith all words = words ≡ take (length words) all
