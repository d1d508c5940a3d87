-- What has to hold so that the threads of an image run the code of a linked program.
use Rattle.std.specs.Prelude.{ℕ, ◌≡◌, ◌+◌, ◌*◌, ◌/◌, true, false, Some}
use Rattle.tx_events.specs.Memory.{no_bytes, with_cells}
use Rattle.tx_code.specs.Images.{ImageView}
use Rattle.tx_code.specs.Program.{names_of}
use Rattle.cpp_tree.specs.Units.{TypedProgram}
use Rattle.src_mean.specs.Linked.{Program}
use Rattle.src_mean.specs.Links.{first_cells, globals_size}
use Rattle.src_mean.specs.Source.{thread_signature}
use Rattle.symbolic_source.specs.Small.{IsSmall}
use Rattle.body_check.specs.Notes.{Bounds}
use Rattle.body_check.specs.Calls.{Book, Links}
use Rattle.checked_runs.specs.Beginnings.{CanBegin}

-- The bodies of the image have notes that fit the functions of the program, its main is the program's, and main and each function that a thread can be started
-- in can be the first of a thread.
pub record IsCodeOf (p : Program) (i : ImageView) (b : Bounds) (book : Book) : Type 0 where
  pub links : Links p (names_of i) b book
  pub small : IsSmall p
  pub main_is : i.main ≡ p.main
  pub main : CanBegin (names_of i) book p.main true 0
  pub started : (address n : ℕ) → p.pointed address thread_signature ≡ Some n → CanBegin (names_of i) book n false 1

-- The image and the program begin with the same memory: as many bytes of globals, and in each word of memory the same bytes.
pub record SameGlobals (t : TypedProgram) (p : Program) (i : ImageView) : Type 0 where
  pub size : i.size ≡ (globals_size t + 7) / 8 * 8
  pub words : (word : ℕ) → with_cells no_bytes i.globals word ≡ with_cells no_bytes (first_cells t p) word
