-- The bodies of an image that have notes.
use Rattle.std.specs.Prelude.{ℕ, Bool, ◌≡◌, Some}
use Rattle.tx_code.specs.declared.linked.ImageFunc.{ImageFunc}
use Rattle.tx_code.specs.Objects.{BodyView}
use Rattle.tx_code.specs.Images.{ImageView, image_func_view}
use Rattle.tx_code.specs.Program.{body_in, names_of}
use Rattle.src_bind.specs.Tables.{Given}
use Rattle.note_landing.specs.Books.{HasNotes}

-- both bodies of a function, where it is that with this number
abbrev pub BothHaveNotes : ImageView → Given → ℕ → ImageFunc → Type 0
BothHaveNotes i g n f = (safe : Bool) (body : BodyView) → body_in (image_func_view f) safe ≡ Some body → (names_of i).body n safe ≡ Some body → HasNotes i g n safe

-- each body that is there has notes with which it is checked, whatever the notes of the others are
abbrev pub AllHaveNotes : ImageView → Given → Type 0
AllHaveNotes i g = (n : ℕ) (safe : Bool) (body : BodyView) → (names_of i).body n safe ≡ Some body → HasNotes i g n safe
