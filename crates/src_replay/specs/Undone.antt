-- The notes of what the stores in open blocks wrote over, and the copies of memory that they stand for (the TS, [stmt.tx]: a block that is cancelled leaves
-- memory as it was where the block began).
use Rattle.std.specs.Prelude.{◌≡◌, ℕ, nat_le, Bool, true, ◌&&◌, List, [], ◌∷◌, ◌++◌, map, reverse, take, drop, length}
use Rattle.std.specs.List.{list_all}
use Rattle.tx_events.specs.Memory.{MemoryLayout, update, can_access}
use Rattle.src_replay.specs.declared.nested.Note.{Note}
use Rattle.src_replay.specs.declared.nested.Nested.{Nested}

-- memory with what was noted put back, the newest note first, which stands last
abbrev pub undo : List Note → (ℕ → ℕ) → ℕ → ℕ
undo [] memory = memory
undo (n ∷ ns) memory = update (undo ns memory) n.word n.old

-- memory as it was before the notes from one of them on were made
abbrev pub undone : List Note → ℕ → (ℕ → ℕ) → ℕ → ℕ
undone notes from memory = undo (drop from notes) memory

-- memory as it was where each open block began, the newest first
abbrev pub copies_by : List Note → List ℕ → (ℕ → ℕ) → List (ℕ → ℕ)
copies_by notes marks memory = map (λ from. undone notes from memory) (reverse marks)

-- the words that were noted are mapped
abbrev pub are_words : MemoryLayout → List Note → Bool
are_words p notes = list_all (λ (n : Note). can_access p n.word 8) notes

abbrev pub copies : Nested → (ℕ → ℕ) → List (ℕ → ℕ)
copies n memory = copies_by n.notes.items n.marks.items memory

-- each is at most the one before it, and the first at most this number
abbrev pub are_falling : ℕ → List ℕ → Bool
are_falling most [] = true
are_falling most (n ∷ ns) = nat_le n most && are_falling n ns

-- the words that were noted are mapped, and blocks began one after the other
pub record AreNotes (p : MemoryLayout) (notes : List Note) (begins : List ℕ) : Type 0 where
  pub words : are_words p notes ≡ true
  pub marks : are_falling (length notes) (reverse begins) ≡ true

abbrev pub IsNested : MemoryLayout → Nested → Type 0
IsNested p n = AreNotes p n.notes.items n.marks.items

-- a block is left, and its stores stay
pub record Ended (old new : Nested) : Type 0 where
  pub mark : ℕ
  pub marks : old.marks.items ≡ new.marks.items ++ mark ∷ []
  pub notes : new.notes.items ≡ old.notes.items

-- a block is left, and memory goes back to where it began
pub record Cancelled (old new : Nested) (before after : ℕ → ℕ) : Type 0 where
  pub mark : ℕ
  pub marks : old.marks.items ≡ new.marks.items ++ mark ∷ []
  pub notes : new.notes.items ≡ take mark old.notes.items
  pub words : after ≡ undone old.notes.items mark before
