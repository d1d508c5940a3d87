-- Images whose code is checked against a program.
use Rattle.std.specs.Prelude.{ℕ, ◌≡◌, ◌+◌, List, [], Some}
use Rattle.body_check.specs.Notes.{Bounds}
use Rattle.body_check.specs.Calls.{Book, Links, Begins}
use Rattle.src_mean.specs.Linked.{Program}
use Rattle.symbolic_source.specs.Small.{IsSmall}
use Rattle.tx_code.specs.Images.{ImageView, IsImage}
use Rattle.tx_code.specs.Program.{names_of}
use Rattle.tx_code.specs.Sound.{Sound}
use Rattle.tx_events.specs.declared.End.{End}
use Rattle.tx_events.specs.Memory.{MemoryLayout}
use Rattle.tx_serial.specs.Machine.{Machine}
use Rattle.tx_serial.specs.Turn.{Slot, turns}
use Rattle.vm_thread.specs.Threads.{Running, running}
use Rattle.turn_bounds.specs.Alone.{enough}

-- The bodies of the image have notes that fit the functions of the program, its main is the program's and can begin, and the image is sound.
pub record IsChecked (p : Program) (i : ImageView) (b : Bounds) (book : Book) : Type 0 where
  pub links : Links p (names_of i) b book
  pub small : IsSmall p
  pub begins : Begins p (names_of i) book 0 p.main []
  pub main_is : i.main ≡ p.main
  pub image : IsImage i
  pub sound : Sound i

-- So many turns of thread 0 are enough for cost n, where the notes allow at most `b.most` steps before the source takes one more.
abbrev pub enough_for : Bounds → (n : ℕ) → ℕ
enough_for b n = enough (b.most + 1) b.most n

-- after these turns a machine that runs an image has come to this end with this output
pub record EndsSo (layout : MemoryLayout) (first : Machine Running) (slots : List Slot) (out : List ℕ) (end : End) : Type 0 where
  pub end_is : (turns running layout slots first).end ≡ Some end
  pub out_is : (turns running layout slots first).out ≡ out
