-- The trace of a run.
use Rattle.std.specs.Prelude.{ℕ, List, ⊤}
use Rattle.tx_code.specs.Images.{ImageView}
use Rattle.tx_events.specs.declared.Item.{Item}
use Rattle.tx_events.specs.World.{first_world}
use Rattle.tx_serial.specs.Trace.{TraceOf}
use Rattle.vm_thread.specs.Threads.{running, at_main}
use Rattle.tx_machine.specs.ImageRuns.{layout_of_image, first_words}
use Rattle.tx_machine.specs.Watch.{Sight}

-- no one else watches
abbrev pub no_one : {S : Type 0} → Sight S ⊤ ⊤
no_one = record { place = λ s. tt; shown = λ w t place. w; told = λ w kind end. w }

-- These items are the trace of that order, run by the threads of the image.
abbrev pub TracesImage : ImageView → (input order : List ℕ) → List Item → Type 0
TracesImage image input order items = TraceOf running (layout_of_image image) (first_world (first_words image) input (at_main image)) order items
