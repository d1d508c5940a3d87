-- Where a thread stands, by what its entry in the list shows.
use Rattle.std.proofs.Common.{ℕ, ◌≡◌, ◌<◌, ◌≤◌, Bool, true, false, Option, Some, None, List, length, get_or, refl, ap, sym, ◌∙◌, subst}
use Rattle.std.specs.Prelude.{◌&&◌}
use Rattle.std.proofs.lemmas.Option.{same_Some}
use Rattle.std.proofs.lemmas.Bool.{true≢false}
use Rattle.choosers.specs.declared.Clash.{Clash}
use Rattle.choosers.specs.declared.Choice.{Choice}
use Rattle.tx_events.specs.declared.BlockKind.{BlockKind}
use Rattle.tx_events.specs.declared.End.{End}
use Rattle.tx_events.specs.declared.Event.{Event}
use Rattle.tx_events.specs.declared.Event.TheVariants.{Silent, Load, Store, Out, Inp, Spawn, Join, BeginAtomic, EndAtomic, Raise, BeginSync, EndSync, Done}
use Rattle.tx_events.specs.declared.Event.TheVariants.{Stop}
use Rattle.tx_events.specs.declared.TurnKind.TheVariants.{Idle}
use Rattle.tx_events.specs.Memory.{MemoryLayout}
use Rattle.tx_events.specs.Thread.{Thread}
use Rattle.tx_serial.specs.Machine.{Machine, Local, Save, Tx, NoTx}
use Rattle.tx_serial.specs.Run.{is_access, is_open, accesses_in}
use Rattle.tx_serial.specs.Turn.{stays, in_does}
use Rattle.tx_runtime.specs.declared.engine.Engine.{Engine}
use Rattle.tx_runtime.specs.declared.thread.Stage.{Stage}
use Rattle.tx_runtime.specs.declared.thread.Stage.TheVariants.{Open, Undoing, Releasing}
use Rattle.tx_runtime.specs.declared.thread.ThreadSlot.{ThreadSlot}
use Rattle.tx_runtime.specs.declared.thread.Transaction.{Transaction}
use Rattle.tx_runtime.specs.Here.{IsOutside, GoesOutside, IsInside, GoesInside, GivesUp, Closes, IsStill}
use Rattle.tx_runtime.specs.Saves.{saves_of}
use Rattle.tx_runtime.specs.Threads.{local_of, stage_of, tx_by, tx_of}
use Rattle.tx_runtime.specs.View.{machine_in}
use Rattle.tx_runtime.proofs.ThreadTables.{thread_at, no_thread}

none_some : {X : Type 0} (x : X) → None ≡ Some x → ⊥
none_some x h = cc

bare_tx : {K S : Type 0} (saved : K → S) (o : Option (Transaction K)) (ss : List Save) → stage_of o ≡ None → tx_of saved o ss ≡ NoTx
bare_tx saved None ss h = refl
bare_tx saved (Some x) ss h = absurd (cc)

staged_tx : {K S : Type 0} (saved : K → S) (o : Option (Transaction K)) (ss : List Save) (g : Stage) → stage_of o ≡ Some g → (b : ℕ)
    × ((k : S) × (tx_of saved o ss ≡ tx_by g b k ss))
staged_tx saved None ss g h = absurd (cc)
staged_tx saved (Some x) ss g h = (x.birth, (saved x.kept, ap (λ z. tx_by z x.birth (saved x.kept) ss) (same_Some x.stage g h)))

module _ {A K S : Type 0} (state : A → S) (saved : K → S) (R : S → Type 0) (a : Thread S) (e : Engine A K) (t : ℕ) where
  pub still_past : length e.threads.items ≤ t → IsStill t (machine_in state saved e)
  still_past h l at = absurd (none_some l (sym (no_thread state saved e.holders e.threads.items t h) ∙ at))

  pub accesses_past : length e.threads.items ≤ t → false ≡ accesses_in a ((machine_in state saved e).threads t)
  accesses_past h = ap (accesses_in a) (sym (no_thread state saved e.holders e.threads.items t h))

  module _ (s : ThreadSlot A K) (here : t < length e.threads.items) (read : s ≡ get_or e.threads.items t s) where
    same : (l : Local S) → (machine_in state saved e).threads t ≡ Some l → local_of state saved e.holders t s ≡ l
    same l at = same_Some (local_of state saved e.holders t s) l (sym (thread_at state saved e.holders e.threads.items t s here read) ∙ at)

    pub still_ended : s.ended ≡ true → IsStill t (machine_in state saved e)
    still_ended h l at = ap (λ (v : Local S). v.ended) (sym (same l at)) ∙ h

    pub stands_outside : (event : Event) → e.end ≡ None → s.ended ≡ false → stage_of s.tx ≡ None → event ≡ a.next (state s.actor) → R (state s.actor)
        → GoesOutside R a t (machine_in state saved e) event
    stands_outside event going up stage next reached = record {
      going = going;
      started = here;
      at = λ l at. subst (λ (v : Local S). IsOutside R a v event) (same l at)
          (record { reached = reached; up = up; tx = bare_tx saved s.tx (saves_of s.log) stage; next = sym next });
    }

    pub stands_inside : (event : Event) → e.end ≡ None → s.ended ≡ false → stage_of s.tx ≡ Some Open → event ≡ a.next (state s.actor) → R (state s.actor)
        → GoesInside R a t (machine_in state saved e) event
    stands_inside event going up stage next reached =
        let tx = staged_tx saved s.tx (saves_of s.log) Open stage in
        record {
          going = going;
          started = here;
          at = λ l at. subst (λ (v : Local S). IsInside R a v event) (same l at)
              (record { reached = reached; up = up; birth = tx.0; kept = tx.1.0; saves = saves_of s.log; tx = tx.1.1; next = sym next });
        }

    pub stands_undoing : e.end ≡ None → s.ended ≡ false → stage_of s.tx ≡ Some Undoing → GivesUp t (machine_in state saved e)
    stands_undoing going up stage =
        let tx = staged_tx saved s.tx (saves_of s.log) Undoing stage in
        record {
          going = going;
          started = here;
          at = λ l at. (
            ap (λ (v : Local S). v.ended) (sym (same l at)) ∙ up,
            (tx.0, tx.1.0, saves_of s.log, ap (λ (v : Local S). v.tx) (sym (same l at)) ∙ tx.1.1),
          );
        }

    pub stands_releasing : e.end ≡ None → s.ended ≡ false → stage_of s.tx ≡ Some Releasing → Closes t (machine_in state saved e)
    stands_releasing going up stage =
        let tx = staged_tx saved s.tx (saves_of s.log) Releasing stage in
        record {
          going = going;
          started = here;
          at = λ l at. (ap (λ (v : Local S). v.ended) (sym (same l at)) ∙ up, (tx.0, ap (λ (v : Local S). v.tx) (sym (same l at)) ∙ tx.1.1));
        }

    accesses_by : (tx : Tx S) → tx_of saved s.tx (saves_of s.log) ≡ tx
        → (is_open tx && is_access (a.next (state s.actor))) ≡ accesses_in a ((machine_in state saved e).threads t)
    accesses_by tx h =
        ap (λ z. is_open z && is_access (a.next (state s.actor))) (sym h)
        ∙ ap (accesses_in a) (sym (thread_at state saved e.holders e.threads.items t s here read))

    pub accesses_open : (event : Event) → stage_of s.tx ≡ Some Open → event ≡ a.next (state s.actor)
        → is_access event ≡ accesses_in a ((machine_in state saved e).threads t)
    accesses_open event stage next =
        let tx = staged_tx saved s.tx (saves_of s.log) Open stage in
        ap is_access next ∙ accesses_by (tx_by Open tx.0 tx.1.0 (saves_of s.log)) tx.1.1

    pub accesses_undoing : stage_of s.tx ≡ Some Undoing → false ≡ accesses_in a ((machine_in state saved e).threads t)
    accesses_undoing stage =
        let tx = staged_tx saved s.tx (saves_of s.log) Undoing stage in
        accesses_by (tx_by Undoing tx.0 tx.1.0 (saves_of s.log)) tx.1.1

    pub accesses_releasing : stage_of s.tx ≡ Some Releasing → false ≡ accesses_in a ((machine_in state saved e).threads t)
    accesses_releasing stage =
        let tx = staged_tx saved s.tx (saves_of s.log) Releasing stage in
        accesses_by (tx_by Releasing tx.0 tx.1.0 (saves_of s.log)) tx.1.1

    pub accesses_bare : stage_of s.tx ≡ None → false ≡ accesses_in a ((machine_in state saved e).threads t)
    accesses_bare stage = accesses_by NoTx (bare_tx saved s.tx (saves_of s.log) stage)

-- an event that does not come where a block is open
pub stays_in : {S : Type 0} (a : Thread S) (p : MemoryLayout) (answer : Clash → Choice) (t : ℕ) (m : Machine S) (l : Local S) (b : ℕ) (k : S) (ss : List Save)
    (e : Event)
    → is_access e ≡ false → (e ≡ Silent → ⊥) → (e ≡ BeginSync → ⊥) → (e ≡ EndSync → ⊥) → ((x : BlockKind) → e ≡ BeginAtomic x → ⊥) → (e ≡ EndAtomic → ⊥)
    → ((x : BlockKind) (y : Bool) → e ≡ Raise x y → ⊥) → ((x : End) → e ≡ Stop x → ⊥)
    → stays Idle m ≡ in_does a p answer t m l b k ss e
stays_in a p answer t m l b k ss Silent h n1 n2 n3 n4 n5 n6 n7 = absurd (n1 refl)
stays_in a p answer t m l b k ss BeginSync h n1 n2 n3 n4 n5 n6 n7 = absurd (n2 refl)
stays_in a p answer t m l b k ss EndSync h n1 n2 n3 n4 n5 n6 n7 = absurd (n3 refl)
stays_in a p answer t m l b k ss (BeginAtomic kind) h n1 n2 n3 n4 n5 n6 n7 = absurd (n4 kind refl)
stays_in a p answer t m l b k ss EndAtomic h n1 n2 n3 n4 n5 n6 n7 = absurd (n5 refl)
stays_in a p answer t m l b k ss (Raise kind can) h n1 n2 n3 n4 n5 n6 n7 = absurd (n6 kind can refl)
stays_in a p answer t m l b k ss (Stop end) h n1 n2 n3 n4 n5 n6 n7 = absurd (n7 end refl)
stays_in a p answer t m l b k ss (Load addr size vol) h n1 n2 n3 n4 n5 n6 n7 = absurd (true≢false h)
stays_in a p answer t m l b k ss (Store addr size value vol) h n1 n2 n3 n4 n5 n6 n7 = absurd (true≢false h)
stays_in a p answer t m l b k ss (Out byte) h n1 n2 n3 n4 n5 n6 n7 = refl
stays_in a p answer t m l b k ss Inp h n1 n2 n3 n4 n5 n6 n7 = refl
stays_in a p answer t m l b k ss (Spawn f arg) h n1 n2 n3 n4 n5 n6 n7 = refl
stays_in a p answer t m l b k ss (Join id) h n1 n2 n3 n4 n5 n6 n7 = refl
stays_in a p answer t m l b k ss Done h n1 n2 n3 n4 n5 n6 n7 = refl

pub not_access : (e : Event) → ((x y : ℕ) (z : Bool) → e ≡ Load x y z → ⊥) → ((x y z : ℕ) (w : Bool) → e ≡ Store x y z w → ⊥) → is_access e ≡ false
not_access (Load addr size vol) n1 n2 = absurd (n1 addr size vol refl)
not_access (Store addr size value vol) n1 n2 = absurd (n2 addr size value vol refl)
not_access Silent n1 n2 = refl
not_access (Out byte) n1 n2 = refl
not_access Inp n1 n2 = refl
not_access (Spawn f arg) n1 n2 = refl
not_access (Join id) n1 n2 = refl
not_access (BeginAtomic kind) n1 n2 = refl
not_access EndAtomic n1 n2 = refl
not_access (Raise kind can) n1 n2 = refl
not_access BeginSync n1 n2 = refl
not_access EndSync n1 n2 = refl
not_access Done n1 n2 = refl
not_access (Stop end) n1 n2 = refl
