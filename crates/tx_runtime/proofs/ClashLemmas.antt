-- The clash that a policy is shown.
use Rattle.std.proofs.Common.{ℕ, ◌≡◌, Bool, length, get_or, ap, sym, ◌∙◌, subst}
use Rattle.std.proofs.lemmas.Option.{same_Some}
use Rattle.choosers.specs.declared.Clash.{Clash}
use Rattle.tx_events.specs.declared.Event.{Event}
use Rattle.tx_events.specs.Memory.{MemoryLayout}
use Rattle.tx_events.specs.Thread.{Thread}
use Rattle.tx_serial.specs.Machine.{Local, birth, birth_of, conflicts_with, greatest, count, waits_at}
use Rattle.tx_serial.specs.Kinds.{Accesses, Asked}
use Rattle.tx_runtime.specs.declared.engine.Engine.{Engine}
use Rattle.tx_runtime.specs.declared.access.Blockers.{Blockers}
use Rattle.tx_runtime.specs.declared.thread.ThreadSlot.{ThreadSlot}
use Rattle.tx_runtime.specs.Blocks.{SumsOf}
use Rattle.tx_runtime.specs.Here.{GoesInside}
use Rattle.tx_runtime.specs.Saves.{saves_of}
use Rattle.tx_runtime.specs.Threads.{local_of, waits_of, waits_by, birth_in}
use Rattle.tx_runtime.specs.View.{machine_in}
use Rattle.tx_runtime.proofs.PolicyAnswers.{clash_asked}
use Rattle.tx_runtime.proofs.ConflictingThreads.{birth_is}
use Rattle.tx_runtime.proofs.ThreadTables.{thread_at, started_thread, waits_at_slot}

abbrev clash : ℕ → ℕ → ℕ → ℕ → ℕ → Clash
clash mine least greatest count waits = record { mine = mine; least = least; greatest = greatest; count = count; waits = waits }

same_clash : (a b c d e z y x w v : ℕ) → a ≡ z → b ≡ y → c ≡ x → d ≡ w → e ≡ v → clash a b c d e ≡ clash z y x w v
same_clash a b c d e z y x w v f g h i j =
    ap (λ n. clash n b c d e) f ∙ (ap (λ n. clash z n c d e) g ∙ (ap (λ n. clash z y n d e) h ∙ (ap (λ n. clash z y x n e) i ∙ ap (λ n. clash z y x w n) j)))

module _ {A K S : Type 0} (state : A → S) (saved : K → S) (R : S → Type 0) (a : Thread S) (p : MemoryLayout) (e : Engine A K) (t : ℕ) (s : ThreadSlot A K)
    (b : Blockers) (mine waits word : ℕ) where
  -- the runtime asks at the clash at which the machine asks
  pub shown : (event : Event) (store : Bool) → GoesInside R a t (machine_in state saved e) event → Accesses p event store word
      → SumsOf (conflicts_with t store word (machine_in state saved e).threads) (λ u. birth_of ((machine_in state saved e).threads u))
      (length e.threads.items) b
      → s ≡ get_or e.threads.items t s → mine ≡ birth_in s.tx → waits ≡ waits_at (waits_of s.waits) word b.least
      → (c : Clash) → Asked a p t (machine_in state saved e) c
      → record { mine = mine; least = b.least; greatest = b.greatest; count = b.count; waits = waits } ≡ c
  shown event store here access sums read mine_is waits_is c asked =
      let m = machine_in state saved e in
      let there = started_thread state saved e t here.started in
      let i = here.at there.0 there.1 in
      let l : Local S = local_of state saved e.holders t s in
      let same : l ≡ there.0 = same_Some l there.0 (sym (thread_at state saved e.holders e.threads.items t s here.started read) ∙ there.1) in
      let born : mine ≡ i.birth = mine_is ∙ (sym (birth_is saved s.tx (saves_of s.log)) ∙ (ap (λ (v : Local S). birth v.tx) same ∙ ap birth i.tx)) in
      let waited : waits ≡ waits_at (m.waits t) word (birth_of (m.threads b.eldest)) =
      waits_is ∙ (ap (λ z. waits_at z word b.least) (sym (waits_at_slot e.threads.items t s here.started read)) ∙ ap
      (waits_at (waits_by e.threads.items t) word) sums.least) in
      same_clash mine b.least b.greatest b.count waits
      i.birth (birth_of (m.threads b.eldest)) (greatest (conflicts_with t store word m.threads) (λ v. birth_of (m.threads v)) m.started)
      (count (conflicts_with t store word m.threads) m.started) (waits_at (m.waits t) word (birth_of (m.threads b.eldest)))
      born sums.least sums.greatest sums.count waited
      ∙ sym (clash_asked a p t m there.0 event store word b.eldest i.birth i.kept i.saves there.1 i.next i.tx access sums.eldest c asked)

  -- what was answered there
  pub answered : (event : Event) (store : Bool) → GoesInside R a t (machine_in state saved e) event → Accesses p event store word
      → SumsOf (conflicts_with t store word (machine_in state saved e).threads) (λ u. birth_of ((machine_in state saved e).threads u))
      (length e.threads.items) b
      → s ≡ get_or e.threads.items t s → mine ≡ birth_in s.tx → waits ≡ waits_at (waits_of s.waits) word b.least
      → (P : Clash → Type 0) → P (record { mine = mine; least = b.least; greatest = b.greatest; count = b.count; waits = waits })
      → (c : Clash) → Asked a p t (machine_in state saved e) c → P c
  answered event store here access sums read mine_is waits_is P h c asked = subst P (shown event store here access sums read mine_is waits_is c asked) h
