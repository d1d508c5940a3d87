-- How far the source goes in one move, and what a body with its notes is held against.
use Rattle.std.specs.Prelude.{ℕ, Bool, List}
use Rattle.std.proofs.Common.{le_refl}
use Rattle.tx_code.specs.Images.{ImageView}
use Rattle.cpp_tree.specs.cpp_types.Typ.{Typ}
use Rattle.src_bind.specs.Tables.{Given, linked_of}
use Rattle.body_check.specs.Notes.{Note, Bounds}
use Rattle.body_check.specs.Linked.{Held}
use Rattle.body_check.specs.Calls.{Checked}
use Rattle.image_links.specs.Agreeing.{linked_book}

abbrev pub bounds : Bounds
bounds = record { half = 512; longest = 1024; both = le_refl 1024; most = 63 }

-- a body of a function, plain or safe, with these notes, where these types are those of the exceptions that it makes
abbrev pub held_with : ImageView → Given → (n : ℕ) → (safe : Bool) → (typs : List Typ) → List Note → Held
held_with i g n safe typs notes = (linked_book i g (λ m s. notes) (λ m s. typs)).held n safe

-- there are notes with which it is checked, whatever the notes of the other bodies are
pub record HasNotes (i : ImageView) (g : Given) (n : ℕ) (safe : Bool) : Type 0 where
  pub typs : List Typ
  pub notes : List Note
  pub checked : (all : ℕ → Bool → List Note) (types : ℕ → Bool → List Typ) → Checked (linked_of g) bounds (linked_book i g all types) (held_with i g n safe typs notes)
