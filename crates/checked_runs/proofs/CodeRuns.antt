-- Runs of checked code, by the names of its functions.
use Rattle.std.proofs.Common.{ℕ, ℤ, ◌≡◌, ◌==◌, ◌≤◌, false, sym, ◌∙◌, List, [], ◌∷◌, Option}
use Rattle.tx_ints.specs.Words.{word_of}
use Rattle.tx_events.specs.declared.TheConstants.{THREAD_LIMIT}
use Rattle.tx_events.specs.declared.Event.TheVariants.{Spawn}
use Rattle.tx_events.specs.Memory.{MemoryLayout}
use Rattle.tx_events.specs.World.{Alive, World, Replays, first_world}
use Rattle.tx_events.specs.Same.{SameEvents, with_threads}
use Rattle.tx_events.proofs.Composition.{same_events_turn}
use Rattle.tx_code.specs.Meaning.{Names, State as CodeState, thread, starts}
use Rattle.src_mean.specs.Linked.{Program}
use Rattle.src_mean.specs.Frames.{State as SourceState}
use Rattle.src_mean.specs.Source.{source, main_state, begins}
use Rattle.symbolic_source.specs.Small.{IsSmall}
use Rattle.body_check.specs.Notes.{Bounds}
use Rattle.body_check.specs.Calls.{Book, Links}
use Rattle.body_check.proofs.Program.{main_same, child_same}
use Rattle.checked_runs.specs.Beginnings.{AllBegin}
use Rattle.checked_runs.proofs.Children.{SameStarted, runs_lift}
use Rattle.checked_runs.proofs.Found.{started_found}

module _ (p : Program) (names : Names) (b : Bounds) (book : Book) (links : Links p names b book) (small : IsSmall p) (all : AllBegin p names book) where
  -- main has the events of its source
  pub first_same : SameEvents (source p) (thread names) (main_state p) (starts names 0 p.main [])
  first_same = main_same p names b book links small all.main

  -- so has each thread that code starts
  pub started_same : (s : CodeState) (number func : ℕ) (arg : ℤ) → (number == 0) ≡ false → (thread names).next s ≡ Spawn func arg
      → SameEvents (source p) (thread names) (begins p number func arg) (starts names number func (word_of arg ∷ []))
  started_same s number func arg other e =
      let found = started_found names s func arg e in
      child_same p names b book links small number func arg other
      (all.started found.0 func (sym ((links.names p.main false).spawned found.0) ∙ found.1) number (word_of arg) other)

  code_kids : SameStarted (thread names) (source p) (starts names 0 p.main []) (main_state p)
  code_kids s r number func arg other f g same e i = same_events_turn (source p) (thread names) (begins p number func arg)
      (starts names number func (word_of arg ∷ [])) (started_same s number func arg other e)

  source_kids : SameStarted (source p) (thread names) (main_state p) (starts names 0 p.main [])
  source_kids r s number func arg other g f same i e = started_same s number func arg other e

  pub code_runs : (layout : MemoryLayout) → layout.limit ≤ THREAD_LIMIT → (memory : ℕ → ℕ) (input order : List ℕ) (world : World CodeState)
      → Replays (thread names) layout (first_world memory input (starts names 0 p.main [])) order world
      → (threads : ℕ → Option (Alive SourceState)) × Replays (source p) layout (first_world memory input (main_state p)) order (with_threads world threads)
  code_runs = runs_lift (thread names) (source p) (starts names 0 p.main []) (main_state p)
      (same_events_turn (source p) (thread names) (main_state p) (starts names 0 p.main []) first_same) code_kids

  pub source_runs : (layout : MemoryLayout) → layout.limit ≤ THREAD_LIMIT → (memory : ℕ → ℕ) (input order : List ℕ) (world : World SourceState)
      → Replays (source p) layout (first_world memory input (main_state p)) order world
      → (threads : ℕ → Option (Alive CodeState)) × Replays (thread names) layout (first_world memory input (starts names 0 p.main [])) order
      (with_threads world threads)
  source_runs = runs_lift (source p) (thread names) (main_state p) (starts names 0 p.main []) first_same source_kids
