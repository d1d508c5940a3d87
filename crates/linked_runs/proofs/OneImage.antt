-- The threads of an image, each with its image, have the events of its source.
use Rattle.std.proofs.Common.{ℕ, ℤ, ◌≡◌, ◌==◌, ◌≤◌, false, refl, ap, sym, ◌∙◌, subst, List, [], ◌∷◌, Option}
use Rattle.tx_ints.specs.Words.{word_of}
use Rattle.tx_events.specs.declared.TheConstants.{THREAD_LIMIT}
use Rattle.tx_events.specs.declared.Event.TheVariants.{Spawn}
use Rattle.tx_events.specs.declared.Reply.{Reply}
use Rattle.tx_events.specs.Memory.{MemoryLayout}
use Rattle.tx_events.specs.World.{Alive, World, Replays, first_world}
use Rattle.tx_events.specs.Same.{Reaches, at_once, silently, answered, SameEvents, Descends, at_first, went_on, started, with_threads}
use Rattle.tx_events.proofs.Composition.{same_events_compose, same_events_turn}
use Rattle.tx_code.specs.Images.{ImageView}
use Rattle.tx_code.specs.Meaning.{State as CodeState, thread, starts}
use Rattle.tx_code.specs.Program.{names_of, first_state}
use Rattle.src_mean.specs.Linked.{Program}
use Rattle.src_mean.specs.Frames.{State as SourceState}
use Rattle.src_mean.specs.Source.{source, main_state, begins}
use Rattle.vm_thread.specs.Threads.{Running, running, at_main}
use Rattle.body_check.specs.Notes.{Bounds}
use Rattle.body_check.specs.Calls.{Book}
use Rattle.checked_runs.specs.Images.{IsCodeOf}
use Rattle.checked_runs.proofs.Children.{SameStarted, runs_lift}
use Rattle.checked_runs.proofs.CodeRuns.{started_same}
use Rattle.checked_runs.proofs.ImageCode.{image_begins, image_same}

-- a thread of an image is the thread of its names, and stays in the image

abbrev in_image : ImageView → CodeState → Running
in_image i s = record { image = i; state = s }

record Stays (s q : Running) (replies : List Reply) : Type 0 where
  state : CodeState
  is : q ≡ in_image s.image state
  reaches : Reaches (thread (names_of s.image)) s.state replies state

stays : {s q : Running} {replies : List Reply} → Reaches running s replies q → Stays s q replies
stays {s} at_once = record { state = s.state; is = refl; reaches = at_once }
stays (silently e r) = let h = stays r in record { state = h.state; is = h.is; reaches = silently e h.reaches }
stays (answered e f r) = let h = stays r in record { state = h.state; is = h.is; reaches = answered e f h.reaches }

module _ (i : ImageView) where
  carried : {s q : CodeState} {replies : List Reply} → Reaches (thread (names_of i)) s replies q → Reaches running (in_image i s) replies (in_image i q)
  carried at_once = at_once
  carried (silently e r) = silently e (carried r)
  carried (answered e f r) = answered e f (carried r)

  by_names : (s : CodeState) → SameEvents running (thread (names_of i)) (in_image i s) s
  by_names s = record {
    there = λ replies event loud f. let h = stays f.reaches in record { at = h.state; reaches = h.reaches; is = ap running.next (sym h.is) ∙ f.is };
    back = λ replies event loud f. record { at = in_image i f.at; reaches = carried f.reaches; is = f.is };
  }

  -- the threads of a program are all in its image
  one_image : {s : Running} → Descends running (at_main i) s → s.image ≡ i
  one_image at_first = refl
  one_image (went_on reply h e) = one_image h
  one_image (started number func arg h e) = one_image h

module _ (p : Program) (i : ImageView) (b : Bounds) (book : Book) (is : IsCodeOf p i b book) where
  by_source : (s : CodeState) (r : SourceState) → SameEvents (source p) (thread (names_of i)) r s → SameEvents running (source p) (in_image i s) r
  by_source s r h = same_events_compose running (thread (names_of i)) (source p) (in_image i s) s r (by_names i s)
      (same_events_turn (source p) (thread (names_of i)) r s h)

  main_same : SameEvents running (source p) (at_main i) (main_state p)
  main_same = by_source (first_state i) (main_state p) (image_same p i b book is)

  started_here : (image : ImageView) → image ≡ i → (s : CodeState) (number func : ℕ) (arg : ℤ) → (number == 0) ≡ false
      → (thread (names_of image)).next s ≡ Spawn func arg
      → SameEvents running (source p) (in_image image (starts (names_of image) number func (word_of arg ∷ []))) (begins p number func arg)
  started_here image same s number func arg other e =
      subst (λ z. SameEvents running (source p) (in_image z (starts (names_of z) number func (word_of arg ∷ []))) (begins p number func arg)) (sym same)
      (by_source (starts (names_of i) number func (word_of arg ∷ [])) (begins p number func arg)
      (started_same p (names_of i) b book is.links is.small (image_begins p i b book is) s number func arg other
      (subst (λ z. (thread (names_of z)).next s ≡ Spawn func arg) same e)))

  kids : SameStarted running (source p) (at_main i) (main_state p)
  kids s r number func arg other f g same e j = started_here s.image (one_image i f) s.state number func arg other e

  turned_kids : SameStarted (source p) running (main_state p) (at_main i)
  turned_kids r s number func arg other g f same j e =
      same_events_turn running (source p) (running.child s number func arg) (begins p number func arg)
      (kids s r number func arg other f g (same_events_turn (source p) running r s same) e j)

  pub running_runs : (layout : MemoryLayout) → layout.limit ≤ THREAD_LIMIT → (memory : ℕ → ℕ) (input order : List ℕ) (world : World Running)
      → Replays running layout (first_world memory input (at_main i)) order world
      → (threads : ℕ → Option (Alive SourceState)) × Replays (source p) layout (first_world memory input (main_state p)) order (with_threads world threads)
  running_runs = runs_lift running (source p) (at_main i) (main_state p) main_same kids

  pub runs_running : (layout : MemoryLayout) → layout.limit ≤ THREAD_LIMIT → (memory : ℕ → ℕ) (input order : List ℕ) (world : World SourceState)
      → Replays (source p) layout (first_world memory input (main_state p)) order world
      → (threads : ℕ → Option (Alive Running)) × Replays running layout (first_world memory input (at_main i)) order (with_threads world threads)
  runs_running = runs_lift (source p) running (main_state p) (at_main i) (same_events_turn running (source p) (at_main i) (main_state p) main_same) turned_kids
