-- Programs with folded bodies do what the programs do.
use Rattle.std.proofs.Common.{◌≤◌, ℕ, Bool, List, refl, sym, subst}
use Rattle.cpp_tree.specs.tx_events.declared.TheConstants.{THREAD_LIMIT}
use Rattle.cpp_tree.specs.tx_events.Memory.{MemoryLayout}
use Rattle.cpp_tree.specs.tx_events.Same.{SameChildren}
use Rattle.cpp_tree.specs.tx_events.World.{World, first_world, only_first}
use Rattle.tx_events.proofs.Composition.{same_events_turn, same_children_turn}
use Rattle.tx_events.proofs.Lifting.{starts_lift}
use Rattle.cpp_tree.specs.declared.program.Program.{Program as Units}
use Rattle.cpp_tree.specs.Units.{program_of}
use Rattle.cpp_tree.specs.WellFormed.{WellFormed}
use Rattle.src_mean.specs.Linked.{Program}
use Rattle.src_mean.specs.Frames.{State}
use Rattle.src_mean.specs.Source.{source, begins, main_state}
use Rattle.tx_unsafe.specs.Volatile.{has_volatile_part}
use Rattle.tree_fold.specs.Programs.{folded_program}
use Rattle.fold_events.specs.Keeping.{Linking, linked_by, calls, Replayed, cost_of, IsReplay, CostsAtMost, Keeps}
use Rattle.fold_events.proofs.Costs.{cheaper, firsts}
use Rattle.fold_events.proofs.Linking.{linked_kept}
use Rattle.fold_events.proofs.Nodes.{shown_at}
use Rattle.fold_events.proofs.Shown.{state_shown, program_shown}
use Rattle.fold_events.proofs.Threads.{after_kept, same_from, no_more_from, begins_kept, main_kept, calls_kept}

module _ (v : ℕ → Bool) (p : Program) where
  abbrev shown : Program
  shown = program_shown v p

  children_kept : SameChildren (source p) (source shown) (main_state p) (main_state shown)
  children_kept = λ s r thread address arg d e f g h. same_from v p (begins p thread address arg) (begins shown thread address arg)
      (begins_kept v p thread address arg)

  replays_kept : (layout : MemoryLayout) (memory : ℕ → ℕ) (input order : List ℕ) (w : World State) (h : Replayed p layout memory input order w)
      → CostsAtMost shown layout memory input order w (cost_of p layout memory input order w h)
  replays_kept layout memory input order w h =
      let c = cheaper (source p) (source shown) (state_shown v) (λ z. refl) (after_kept v p)
      (λ s number func arg. shown_at v p (begins_kept v p number func arg)) layout order
      (first_world memory input (main_state p)) w (only_first (main_state shown))
      (firsts (source p) (source shown) (state_shown v) (λ z. refl) (after_kept v p)
      (λ s number func arg. shown_at v p (begins_kept v p number func arg)) layout (main_state p) (main_state shown) (shown_at v p (main_kept v p))) h in
      record { threads = c.threads; replay = c.replays; within = c.short }

  replays_back : (layout : MemoryLayout) (memory : ℕ → ℕ) (input order : List ℕ) (w : World State) → layout.limit ≤ THREAD_LIMIT
      → Replayed shown layout memory input order w → IsReplay p layout memory input order w
  replays_back layout memory input order w few h =
      let turned = same_events_turn (source p) (source shown) (main_state p) (main_state shown)
      (same_from v p (main_state p) (main_state shown) (main_kept v p)) in
      let children = same_children_turn (source p) (source shown) (main_state p) (main_state shown) children_kept in
      let r = starts_lift (source shown) (source p) (main_state shown) (main_state p) layout children turned few memory input order w h in
      record { threads = r.0; replay = r.1 }

  pub shown_keeps : Keeps p shown
  shown_keeps = record {
    functions = λ thread number words main. same_from v p (calls p thread number words main) (calls shown thread number words main)
        (calls_kept v p thread number words main);
    functions_cost = λ thread number words main. no_more_from v p (calls p thread number words main) (calls shown thread number words main)
        (calls_kept v p thread number words main);
    threads = λ thread address arg. same_from v p (begins p thread address arg) (begins shown thread address arg) (begins_kept v p thread address arg);
    threads_cost = λ thread address arg. no_more_from v p (begins p thread address arg) (begins shown thread address arg) (begins_kept v p thread address arg);
    main = same_from v p (main_state p) (main_state shown) (main_kept v p);
    main_cost = no_more_from v p (main_state p) (main_state shown) (main_kept v p);
    children = children_kept;
    replays = replays_kept;
    back = replays_back;
  }

pub fold_keeps : (p : Units) (l : Linking) → WellFormed p → Keeps (linked_by l (program_of p)) (linked_by l (folded_program (program_of p)))
fold_keeps p l well =
    let q = linked_by l (program_of p) in
    subst (λ (z : Program). Keeps q z) (sym (linked_kept p well l.safe l.symbol l.main)) (shown_keeps (has_volatile_part (program_of p).classes) q)
