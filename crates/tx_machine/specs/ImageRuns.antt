-- Runs of a linked program.
use Rattle.std.specs.Prelude.{ℕ, min, List, ⊤}
use Rattle.std.specs.Option.{option_map}
use Rattle.choosers.specs.declared.Clash.{Clash}
use Rattle.choosers.specs.declared.Choice.{Choice}
use Rattle.choosers.specs.declared.Seen.{Seen}
use Rattle.tx_code.specs.Images.{ImageView}
use Rattle.tx_events.specs.declared.TheConstants.{THREAD_LIMIT}
use Rattle.tx_events.specs.Memory.{MemoryLayout, no_bytes, with_cells}
use Rattle.tx_serial.specs.Machine.{Machine}
use Rattle.tx_serial.specs.Run.{Outcome}
use Rattle.tx_serial.specs.Turn.{first_machine}
use Rattle.vm_thread.specs.Threads.{Running, running, at_main, innermost}
use Rattle.vm_thread.specs.declared.thread.Here.{Here}
use Rattle.tx_machine.specs.declared.run.Ran.{Ran}
use Rattle.tx_machine.specs.Finished.{RunsTo}
use Rattle.tx_machine.specs.Ran.{IsRan}
use Rattle.tx_machine.specs.Watch.{Sight}

-- the globals of the image, and as many stacks as threads may be started
abbrev pub layout_of_image : ImageView → MemoryLayout
layout_of_image image = record { globals = image.size; limit = THREAD_LIMIT }

-- the cells of the globals; all other bytes are zero
abbrev pub first_words : ImageView → ℕ → ℕ
first_words image = with_cells no_bytes image.globals

-- the machine before the first turn
abbrev pub machine_at_main : ImageView → (input : List ℕ) → Machine Running
machine_at_main image input = first_machine (first_words image) input (at_main image)

-- where a thread is: its function and body, and the index in that body
abbrev pub here_of : Running → Here
here_of s = record { func = (innermost s.state).home.func; safe = (innermost s.state).home.safe; index = min (innermost s.state).index 4294967295 }

-- no one watches
abbrev pub unwatched : Sight Running ⊤ ⊤
unwatched = record { place = λ s. tt; shown = λ w t place. w; told = λ w kind end. w }

-- The record is that of a run of the image: of the thread of its `main`, on the first bytes of its globals.
pub record RunsImage {G : Type 0} (image : ImageView) (policy : Clash → Choice → Type 0) (step : G → Seen → ℕ → G → Type 0)
    (bound : ℕ) (input : List ℕ) (before after : G) (ran : Ran Here) : Type 0 where
  pub outcome : Outcome Running
  pub runs : RunsTo running (layout_of_image image) policy step unwatched bound (first_words image) input (at_main image) before after tt tt outcome
  pub is : IsRan outcome (option_map here_of outcome.place) ran
