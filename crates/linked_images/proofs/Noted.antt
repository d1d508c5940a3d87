-- Where there are notes for each body, there is one book with which all are checked.
use Rattle.std.proofs.Common.{ℕ, ◌≡◌, Bool, refl, List, [], Option, Some, None}
use Rattle.tx_code.specs.Objects.{BodyView}
use Rattle.tx_code.specs.Images.{ImageView}
use Rattle.tx_code.specs.Program.{names_of}
use Rattle.cpp_tree.specs.cpp_types.Typ.{Typ}
use Rattle.src_bind.specs.Tables.{Given, CanBind, typed, linked_of}
use Rattle.body_check.specs.Notes.{Note, Bounds}
use Rattle.body_check.specs.Calls.{Checked}
use Rattle.image_links.specs.Agreeing.{AllChecked, linked_book}
use Rattle.linked_images.specs.LinkedImages.{Agree, AllNoted, IsLinked, IsLinkedBy}
use Rattle.linked_images.proofs.Linked.{linked_where_checked}

module _ (g : Given) (i : ImageView) (b : Bounds) (all : AllNoted g i b) where
  notes_there : (n : ℕ) (safe : Bool) (o : Option BodyView) → (names_of i).body n safe ≡ o → List Note
  notes_there n safe None e = []
  notes_there n safe (Some body) e = (all n safe body e).notes

  typs_there : (n : ℕ) (safe : Bool) (o : Option BodyView) → (names_of i).body n safe ≡ o → List Typ
  typs_there n safe None e = []
  typs_there n safe (Some body) e = (all n safe body e).typs

  notes_of : ℕ → Bool → List Note
  notes_of n safe = notes_there n safe ((names_of i).body n safe) refl

  typs_of : ℕ → Bool → List Typ
  typs_of n safe = typs_there n safe ((names_of i).body n safe) refl

  checked_there : (n : ℕ) (safe : Bool) (o : Option BodyView) (e : (names_of i).body n safe ≡ o) (body : BodyView) → o ≡ Some body
      → Checked (linked_of g) b (linked_book i g notes_of typs_of)
      ((linked_book i g (λ m s. notes_there n safe o e) (λ m s. typs_there n safe o e)).held n safe)
  unfolding notes_there typs_there
  checked_there n safe None e body is = absurd cc
  checked_there n safe (Some there) e body is = (all n safe there e).checked notes_of typs_of

  all_checked : AllChecked i (linked_of g) b (linked_book i g notes_of typs_of)
  unfolding notes_of typs_of
  all_checked n safe body is = checked_there n safe ((names_of i).body n safe) refl body is

  pub linked_by_notes : Agree g i → CanBind (typed g) → IsLinkedBy g i b
  linked_by_notes h can = record { book = linked_book i g notes_of typs_of; is = linked_where_checked g i h can b notes_of typs_of all_checked }

  pub linked_where_noted : Agree g i → CanBind (typed g) → IsLinked g i
  linked_where_noted h can = let l = linked_by_notes h can in record { bounds = b; book = l.book; is = l.is }
