use Rattle.std.proofs.Common.{ℕ, ◌≡◌, ◌<◌, Bool, Some}
use Rattle.tx_code.specs.Objects.{BodyView}
use Rattle.tx_code.specs.Views.{image_view}
use Rattle.tx_code.specs.Program.{names_of}
use Rattle.src_bind.specs.Bounds.{given}
use Rattle.note_landing.specs.Books.{HasNotes}
use Rattle.image_notes.proofs.bodies.all_have_notes.Given as goal

abbrev pub invariant-loop-n : goal.invariant-loop-n
invariant-loop-n l = (m : ℕ) (safe : Bool) (body : BodyView) → m < l.n → (names_of (image_view l.image)).body m safe ≡ Some body → HasNotes (image_view l.image) (given l.bound) m safe
