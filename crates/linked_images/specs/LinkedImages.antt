-- What has to hold so that a run of an image is a run of the program that it is linked from.
use Rattle.std.specs.Prelude.{ℕ, ◌≡◌, true, Bool, List, Some}
use Rattle.tx_code.specs.Objects.{BodyView}
use Rattle.tx_code.specs.Images.{ImageView}
use Rattle.tx_code.specs.Program.{names_of}
use Rattle.cpp_tree.specs.cpp_types.Typ.{Typ}
use Rattle.src_bind.specs.Tables.{Given, typed, linked_of}
use Rattle.body_check.specs.Notes.{Note, Bounds}
use Rattle.body_check.specs.Calls.{Book, Checked}
use Rattle.checked_runs.specs.Images.{IsCodeOf, SameGlobals}
use Rattle.image_links.specs.Agreeing.{agrees, AllChecked, linked_book}
use Rattle.linked_images.specs.Globals.{SameCells}

-- The image is the code of the linked program, with a book of notes that fit, and begins with the same memory.
pub record IsLinkedFrom (g : Given) (i : ImageView) (b : Bounds) (book : Book) : Type 0 where
  pub code : IsCodeOf (linked_of g) i b book
  pub globals : SameGlobals (typed g) (linked_of g) i

-- What finite tables can tell of it: equal numbers, sizes, addresses and slots, and the same globals.
pub record Agree (g : Given) (i : ImageView) : Type 0 where
  pub tables : agrees i g ≡ true
  pub globals : SameCells g i

-- The image is linked from the program, whatever notes its bodies are checked with.
abbrev pub IsLinkedWhereChecked : Given → ImageView → Type 0
IsLinkedWhereChecked g i = (b : Bounds) (notes : ℕ → Bool → List Note) (typs : ℕ → Bool → List Typ) → AllChecked i (linked_of g) b (linked_book i g notes typs)
    → IsLinkedFrom g i b (linked_book i g notes typs)

-- There are notes with which a body is checked, whatever the notes of the other bodies are.
pub record IsNoted (g : Given) (i : ImageView) (b : Bounds) (n : ℕ) (safe : Bool) : Type 0 where
  pub notes : List Note
  pub typs : List Typ
  pub checked : (all : ℕ → Bool → List Note) (types : ℕ → Bool → List Typ)
      → Checked (linked_of g) b (linked_book i g all types) ((linked_book i g (λ m s. notes) (λ m s. typs)).held n safe)

-- So it is of each body that is there.
abbrev pub AllNoted : Given → ImageView → Bounds → Type 0
AllNoted g i b = (n : ℕ) (safe : Bool) (body : BodyView) → (names_of i).body n safe ≡ Some body → IsNoted g i b n safe

-- The image is linked from the program with some book.
pub record IsLinked (g : Given) (i : ImageView) : Type 0 where
  pub bounds : Bounds
  pub book : Book
  pub is : IsLinkedFrom g i bounds book

-- So it is with some book whose notes are within these bounds.
pub record IsLinkedBy (g : Given) (i : ImageView) (b : Bounds) : Type 0 where
  pub book : Book
  pub is : IsLinkedFrom g i b book
