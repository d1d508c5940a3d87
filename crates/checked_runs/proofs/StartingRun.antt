-- A run of the worked program that starts a thread.
use Rattle.std.proofs.Common.{ℕ, pos, ◌≤◌, refl, List, [], ◌∷◌, Option, arith}
use Rattle.tx_events.specs.declared.TheConstants.{THREAD_LIMIT}
use Rattle.tx_events.specs.declared.End.TheVariants.{Exit}
use Rattle.tx_events.specs.Memory.{MemoryLayout, no_bytes, can_access, is_mapped, is_aligned}
use Rattle.tx_ints.specs.Integers.{reduced}
use Rattle.tx_ints.specs.Words.{word_of}
use Rattle.tx_events.specs.Same.{with_threads}
use Rattle.tx_events.specs.World.{Alive, World, Replays, first_world, none, one_more}
use Rattle.tx_code.specs.Meaning.{State as CodeState, thread, starts}
use Rattle.src_mean.specs.Frames.{State as SourceState}
use Rattle.src_mean.specs.Source.{source, main_state}
use Rattle.checked_runs.specs.Starting.{starting_program, starting_names, starting_book, RunsTo}
use Rattle.checked_runs.proofs.Beginning.{all_begin}
use Rattle.checked_runs.proofs.CodeRuns.{code_runs}
use Rattle.checked_runs.proofs.Starting.{bounds, starting_links, starting_small, starting_can}

pub all_runs : (layout : MemoryLayout) → layout.limit ≤ THREAD_LIMIT → (memory : ℕ → ℕ) (input order : List ℕ) (world : World CodeState)
    → Replays (thread starting_names) layout (first_world memory input (starts starting_names 0 0 [])) order world
    → (threads : ℕ → Option (Alive SourceState)) × Replays (source starting_program) layout (first_world memory input (main_state starting_program)) order
    (with_threads world threads)
all_runs = code_runs starting_program starting_names bounds starting_book starting_links starting_small
    (all_begin starting_program starting_names bounds starting_book starting_links starting_can)

-- main starts the thread; the thread stores its argument and ends; main returns the thread's number
pub code_run : RunsTo (thread starting_names) (starts starting_names 0 0 []) (0 ∷ 1 ∷ 1 ∷ 0 ∷ []) (Exit (pos 1))
unfolding can_access is_mapped is_aligned reduced word_of
code_run = record {
  world = _;
  replays = (
    _,
    record { going = refl; from = _; before = _; is = refl; silents = one_more (one_more none refl) refl; does = refl },
    (
      _,
      record { going = refl; from = _; before = _; is = refl; silents = one_more (one_more none refl) refl; does = refl },
      (
        _,
        record { going = refl; from = _; before = _; is = refl; silents = none; does = refl },
        (
          _,
          record { going = refl; from = _; before = _; is = refl; silents = none; does = refl },
          refl,
        ),
      ),
    ),
  );
  end_is = refl;
}

few : THREAD_LIMIT ≤ THREAD_LIMIT
few = omega arith

pub source_run : RunsTo (source starting_program) (main_state starting_program) (0 ∷ 1 ∷ 1 ∷ 0 ∷ []) (Exit (pos 1))
source_run =
    let run = all_runs (record { globals = 0; limit = THREAD_LIMIT }) few no_bytes [] (0 ∷ 1 ∷ 1 ∷ 0 ∷ []) code_run.world code_run.replays in
    record { world = with_threads code_run.world run.0; replays = run.1; end_is = code_run.end_is }
