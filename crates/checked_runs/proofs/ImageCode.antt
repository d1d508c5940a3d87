-- Runs of an image whose bodies are checked, by the names of the image.
use Rattle.std.proofs.Common.{ℕ, ◌≡◌, ◌+◌, ◌*◌, ◌/◌, ◌≤◌, refl, ap, sym, subst, List, [], Option}
use Rattle.cpp_tree.specs.Units.{TypedProgram}
use Rattle.tx_events.specs.declared.TheConstants.{THREAD_LIMIT}
use Rattle.tx_events.specs.Memory.{MemoryLayout, no_bytes, with_cells}
use Rattle.tx_events.specs.Same.{SameEvents, with_threads}
use Rattle.tx_events.specs.World.{Alive, World, Replays, first_world}
use Rattle.tx_code.specs.Images.{ImageView}
use Rattle.tx_code.specs.Meaning.{State as CodeState, thread, starts}
use Rattle.tx_code.specs.Program.{names_of, first_state}
use Rattle.src_mean.specs.Linked.{Program}
use Rattle.src_mean.specs.Links.{first_cells, globals_size}
use Rattle.src_mean.specs.Frames.{State as SourceState}
use Rattle.src_mean.specs.Source.{source, main_state}
use Rattle.body_check.specs.Notes.{Bounds}
use Rattle.body_check.specs.Calls.{Book}
use Rattle.checked_runs.specs.Beginnings.{AllBegin}
use Rattle.checked_runs.specs.Images.{IsCodeOf, SameGlobals}
use Rattle.checked_runs.proofs.Beginning.{all_begin}
use Rattle.checked_runs.proofs.CodeRuns.{first_same, code_runs, source_runs}

module _ (p : Program) (i : ImageView) (b : Bounds) (book : Book) (is : IsCodeOf p i b book) where
  -- the stacks of an image lie where the source has them
  pub image_begins : AllBegin p (names_of i) book
  image_begins = all_begin p (names_of i) b book is.links
      (record { stacks = record { starts = λ t. refl; ends = λ t. refl }; main = is.main; started = is.started })

  pub image_same : SameEvents (source p) (thread (names_of i)) (main_state p) (first_state i)
  image_same = subst (λ z. SameEvents (source p) (thread (names_of i)) (main_state p) (starts (names_of i) 0 z [])) (sym is.main_is)
      (first_same p (names_of i) b book is.links is.small image_begins)

  pub image_runs : (layout : MemoryLayout) → layout.limit ≤ THREAD_LIMIT → (memory : ℕ → ℕ) (input order : List ℕ) (world : World CodeState)
      → Replays (thread (names_of i)) layout (first_world memory input (first_state i)) order world
      → (threads : ℕ → Option (Alive SourceState)) × Replays (source p) layout (first_world memory input (main_state p)) order (with_threads world threads)
  image_runs layout few memory input order world h = code_runs p (names_of i) b book is.links is.small image_begins layout few memory input order world
      (subst (λ z. Replays (thread (names_of i)) layout (first_world memory input (starts (names_of i) 0 z [])) order world) is.main_is h)

  pub runs_of_image : (layout : MemoryLayout) → layout.limit ≤ THREAD_LIMIT → (memory : ℕ → ℕ) (input order : List ℕ) (world : World SourceState)
      → Replays (source p) layout (first_world memory input (main_state p)) order world
      → (threads : ℕ → Option (Alive CodeState)) × Replays (thread (names_of i)) layout (first_world memory input (first_state i)) order
      (with_threads world threads)
  runs_of_image layout few memory input order world h =
      let l = source_runs p (names_of i) b book is.links is.small image_begins layout few memory input order world h in (
        l.0,
        subst (λ z. Replays (thread (names_of i)) layout (first_world memory input (starts (names_of i) 0 z [])) order (with_threads world l.0))
            (sym is.main_is) l.1,
      )

-- equal cells give the same memory
pub same_cells : (t : TypedProgram) (p : Program) (i : ImageView) → i.size ≡ (globals_size t + 7) / 8 * 8 → i.globals ≡ first_cells t p → SameGlobals t p i
same_cells t p i e f = record { size = e; words = λ word. ap (λ z. with_cells no_bytes z word) f }
