-- The first thread of an image, with its image, has the events of its source, within the same bound as its code.
use Rattle.std.proofs.Common.{◌≡◌, ◌≤◌, ◌+◌, ◌*◌, refl, ap, sym, ◌∙◌, subst, List, []}
use Rattle.tx_events.specs.declared.Reply.{Reply}
use Rattle.tx_events.specs.Same.{Reaches, at_once, silently, answered, steps, SameEvents, StepsWithin}
use Rattle.tx_events.proofs.Composition.{same_events_compose}
use Rattle.tx_code.specs.Images.{ImageView}
use Rattle.tx_code.specs.Meaning.{State as CodeState, thread, starts}
use Rattle.tx_code.specs.Program.{names_of, first_state}
use Rattle.src_mean.specs.Linked.{Program}
use Rattle.src_mean.specs.Source.{source, main_state}
use Rattle.vm_thread.specs.Threads.{Running, running, at_main}
use Rattle.body_check.specs.Notes.{Bounds}
use Rattle.body_check.specs.Calls.{Book}
use Rattle.body_check.proofs.Program.{main_same as source_same, main_within as source_within}
use Rattle.turn_bounds.specs.Checked.{IsChecked}

abbrev in_image : ImageView → CodeState → Running
in_image i s = record { image = i; state = s }

-- a thread of an image is the thread of its names, step by step
record Stays (s q : Running) (replies : List Reply) (r : Reaches running s replies q) : Type 0 where
  state : CodeState
  is : q ≡ in_image s.image state
  reaches : Reaches (thread (names_of s.image)) s.state replies state
  count : steps (thread (names_of s.image)) reaches ≡ steps running r

stays : {s q : Running} {replies : List Reply} (r : Reaches running s replies q) → Stays s q replies r
stays {s} at_once = record { state = s.state; is = refl; reaches = at_once; count = refl }
stays (silently e r) = let h = stays r in record { state = h.state; is = h.is; reaches = silently e h.reaches; count = ap (λ z. z + 1) h.count }
stays (answered e f r) = let h = stays r in record { state = h.state; is = h.is; reaches = answered e f h.reaches; count = ap (λ z. z + 1) h.count }

module _ (i : ImageView) where
  carried : {s q : CodeState} {replies : List Reply} → Reaches (thread (names_of i)) s replies q → Reaches running (in_image i s) replies (in_image i q)
  carried at_once = at_once
  carried (silently e r) = silently e (carried r)
  carried (answered e f r) = answered e f (carried r)

  by_image : (s : CodeState) → SameEvents (thread (names_of i)) running s (in_image i s)
  by_image s = record {
    there = λ replies event loud f. record { at = in_image i f.at; reaches = carried f.reaches; is = f.is };
    back = λ replies event loud f. let h = stays f.reaches in record { at = h.state; reaches = h.reaches; is = ap running.next (sym h.is) ∙ f.is };
  }

module _ (p : Program) (i : ImageView) (b : Bounds) (book : Book) (is : IsChecked p i b book) where
  code_same : SameEvents (source p) (thread (names_of i)) (main_state p) (first_state i)
  code_same = subst (λ z. SameEvents (source p) (thread (names_of i)) (main_state p) (starts (names_of i) 0 z [])) (sym is.main_is)
      (source_same p (names_of i) b book is.links is.small is.begins)

  pub main_same : SameEvents (source p) running (main_state p) (at_main i)
  main_same = same_events_compose (source p) (thread (names_of i)) running (main_state p) (first_state i) (at_main i) code_same (by_image i (first_state i))

  code_within : StepsWithin (source p) (thread (names_of i)) (b.most + 1) b.most (main_state p) (first_state i)
  code_within = subst (λ z. StepsWithin (source p) (thread (names_of i)) (b.most + 1) b.most (main_state p) (starts (names_of i) 0 z [])) (sym is.main_is)
      (source_within p (names_of i) b book is.links is.small is.begins)

  pub main_within : StepsWithin (source p) running (b.most + 1) b.most (main_state p) (at_main i)
  main_within = λ replies event loud f g.
      let h = stays g.reaches in
      subst (λ z. z ≤ (b.most + 1) * steps (source p) f.reaches + b.most) h.count
      (code_within replies event loud f (record { at = h.state; reaches = h.reaches; is = ap running.next (sym h.is) ∙ g.is }))
