-- A thread that is alone comes to its end.
use Rattle.std.proofs.Common.{ℕ, suc, ◌≡◌, ◌==◌, ◌≤◌, ◌+◌, true, false, cond, refl, ap, sym, ◌∙◌, subst, List, [], ◌∷◌, Option, Some, None, arith}
use Rattle.std.proofs.lemmas.Bool.{eqb-true, true≢false}
use Rattle.tx_events.specs.declared.TheConstants.{THREAD_LIMIT}
use Rattle.tx_events.specs.declared.End.{End}
use Rattle.tx_events.specs.declared.TurnKind.{TurnKind}
use Rattle.tx_events.specs.declared.TurnKind.TheVariants.{Ran, Idle, Undone, Released, Waited, Rolled, BlockWait, JoinWait}
use Rattle.choosers.specs.declared.Clash.{Clash}
use Rattle.choosers.specs.declared.Choice.{Choice}
use Rattle.tx_events.specs.Thread.{Thread, Lawful}
use Rattle.tx_events.specs.Memory.{MemoryLayout, word_bound}
use Rattle.tx_serial.specs.Machine.{Machine, Local, Tx, NoTx, OpenTx, GivingUp, Closing}
use Rattle.tx_serial.specs.Turn.{Slot, stays, turn_in, turn_of, turn_at, turn, turns}
use Rattle.tx_serial.specs.Sound.{Sound}
use Rattle.tx_serial.specs.Kinds.{KindBy, is_idle}
use Rattle.tx_serial.specs.Bound.{Tally, turns_for, is_waiting, is_spawn, tallied, zeros}
use Rattle.tx_events.specs.World.{World}
use Rattle.tx_serial.proofs.WorldAgreement.{Agreed}
use Rattle.tx_serial.proofs.WorldKept.{turn_kept}
use Rattle.tx_serial.proofs.PendingWork.{weight, spent, earned_by, is_giving, Lone}
use Rattle.tx_serial.proofs.SoundKept.{kind_of_turn, turn_sound}
use Rattle.tx_serial.proofs.ReleaseCounts.{turn_pays}
use Rattle.tx_serial.proofs.AloneThread.{lone_turn}
use Rattle.tx_serial.proofs.StateChanges.{ByKind, turn_moves}

module _ {S : Type 0} (R : S → Type 0) (a : Thread S) (laws : Lawful S R a) (p : MemoryLayout) (small : p.limit ≤ THREAD_LIMIT) where
  abbrev pub RC : S × Tally → Type 0
  RC s = R s.0

  abbrev pub C : Thread (S × Tally)
  C = tallied a

  pub counted_laws : Lawful (S × Tally) RC C
  counted_laws = record {
    goes_on = λ s r h f. laws.goes_on s.0 r h f;
    starts = λ s n f x h e. laws.starts s.0 n f x h e;
    starts_free = λ s n f x h e. laws.starts_free s.0 n f x h e;
    comes = λ s h. laws.comes s.0 h;
    blocks = λ s r h f. laws.blocks s.0 r h f;
  }

  -- z turns are paid
  pub record Paid (m : Machine (S × Tally)) (z : ℕ) : Type 0 where
    pub now : Local (S × Tally)
    pub at : m.threads 0 ≡ Some now
    pub calm : is_giving now.tx ≡ false
    pub lone : Lone m
    pub paid : now.ended ≡ false → weight (word_bound p) (Some now) + z ≤ turns_for now.state.1

  -- thread 0 is not about to spawn, where it has no transaction
  abbrev pub Calm : Machine (S × Tally) → Type 0
  Calm m = m.end ≡ None → (l : Local (S × Tally)) → m.threads 0 ≡ Some l → l.tx ≡ NoTx → is_spawn (a.next l.state.0) ≡ false

  end_before : (answer : Clash → Choice) (t : ℕ) (m : Machine (S × Tally)) → (turn C p answer t m).machine.end ≡ None → m.end ≡ None
  end_before answer t m h = by_end m.end refl h
    where
      by_end : (o : Option End) → m.end ≡ o → (turn_at C p answer t m o).machine.end ≡ None → m.end ≡ None
      by_end (Some e) i j = j
      by_end None i j = i

  awake : (answer : Clash → Choice) (m : Machine (S × Tally)) (l : Local (S × Tally)) (tx : Tx (S × Tally)) (kind : TurnKind) → KindBy C p answer 0 m l tx kind
      → is_idle kind ≡ false
  awake answer m l NoTx Ran k = refl
  awake answer m l NoTx (Waited x u) k = refl
  awake answer m l NoTx (BlockWait u) k = refl
  awake answer m l NoTx (JoinWait u) k = refl
  awake answer m l NoTx (Rolled x u) k = refl
  awake answer m l NoTx (Undone x) k = refl
  awake answer m l NoTx (Released x) k = refl
  awake answer m l NoTx Idle k = absurd k
  awake answer m l (OpenTx b s ss) Ran k = refl
  awake answer m l (OpenTx b s ss) (Waited x u) k = refl
  awake answer m l (OpenTx b s ss) (BlockWait u) k = refl
  awake answer m l (OpenTx b s ss) (JoinWait u) k = refl
  awake answer m l (OpenTx b s ss) (Rolled x u) k = refl
  awake answer m l (OpenTx b s ss) (Undone x) k = refl
  awake answer m l (OpenTx b s ss) (Released x) k = refl
  awake answer m l (OpenTx b s ss) Idle k = absurd k
  awake answer m l (GivingUp b s ss) Ran k = refl
  awake answer m l (GivingUp b s ss) (Waited x u) k = refl
  awake answer m l (GivingUp b s ss) (BlockWait u) k = refl
  awake answer m l (GivingUp b s ss) (JoinWait u) k = refl
  awake answer m l (GivingUp b s ss) (Rolled x u) k = refl
  awake answer m l (GivingUp b s ss) (Undone x) k = refl
  awake answer m l (GivingUp b s ss) (Released x) k = refl
  awake answer m l (GivingUp b s ss) Idle k = absurd k
  awake answer m l (Closing b) Ran k = refl
  awake answer m l (Closing b) (Waited x u) k = refl
  awake answer m l (Closing b) (BlockWait u) k = refl
  awake answer m l (Closing b) (JoinWait u) k = refl
  awake answer m l (Closing b) (Rolled x u) k = refl
  awake answer m l (Closing b) (Undone x) k = refl
  awake answer m l (Closing b) (Released x) k = refl
  awake answer m l (Closing b) Idle k = absurd k

  pays_on : (t : ℕ) (m : Machine (S × Tally)) (l : Local (S × Tally)) (is : m.threads t ≡ Some l) (calm : is_giving l.tx ≡ false) (z w : ℕ) (kind : TurnKind)
      (s : S × Tally)
      → ByKind C p t m l is calm kind s → is_idle kind ≡ false → is_waiting kind ≡ false
      → w + spent kind ≤ weight (word_bound p) (Some l) + earned_by kind (a.next l.state.0) → weight (word_bound p) (Some l) + z ≤ turns_for l.state.1
      → w + suc z ≤ turns_for s.1
  pays_on t m l is calm z w Ran s k i j h g = let e = ap (λ q. turns_for q.1) k.1 in omega (arith, e, h, g)
  pays_on t m l is calm z w (Undone x) s k i j h g = let e = ap (λ q. turns_for q.1) k in omega (arith, e, h, g)
  pays_on t m l is calm z w (Released x) s k i j h g = let e = ap (λ q. turns_for q.1) k in omega (arith, e, h, g)
  pays_on t m l is calm z w Idle s k i j h g = absurd (true≢false i)
  pays_on t m l is calm z w (Waited x u) s k i j h g = absurd (true≢false j)
  pays_on t m l is calm z w (Rolled x u) s k i j h g = absurd (true≢false j)
  pays_on t m l is calm z w (BlockWait u) s k i j h g = absurd (true≢false j)
  pays_on t m l is calm z w (JoinWait u) s k i j h g = absurd (true≢false j)

  one_turn : (answer : Clash → Choice) (m : Machine (S × Tally)) (z : ℕ) → Sound RC C p m → (m.end ≡ None → Paid m z) → Calm m
      → (turn C p answer 0 m).machine.end ≡ None → Paid (turn C p answer 0 m).machine (suc z)
  one_turn answer m z sound before calm h =
      let goes = end_before answer 0 m h in
      let f = before goes in
      let l = f.now in
      let mv = turn_moves C p 0 m l f.at f.calm answer h in
      let ln = lone_turn C p m l f.lone answer f.at (calm goes l f.at) in
      let py = turn_pays C p 0 m l f.at answer in
      let kind = (turn C p answer 0 m).kind in
      record {
        now = mv.now;
        at = mv.at;
        calm = mv.giving ln.1;
        lone = ln.0;
        paid = λ up. elim l.ended as (λ b. l.ended ≡ b → weight (word_bound p) (Some mv.now) + suc z ≤ turns_for mv.now.state.1) [
          | true ↦ λ e.
              let same : (turn C p answer 0 m).machine ≡ m =
              ap (λ o. (turn_at C p answer 0 m o).machine) goes
              ∙ (ap (λ o. (turn_of C p answer 0 m o).machine) f.at ∙ ap (λ b. (cond b (stays Idle m) (turn_in C p answer 0 m l l.tx)).machine) e) in
              let i : Some mv.now ≡ Some l = sym mv.at ∙ (ap (λ n. n.threads 0) same ∙ f.at) in
              let j : mv.now ≡ l = cc in
              absurd (true≢false (sym e ∙ (sym (ap (λ q. q.ended) j) ∙ up)))
          | false ↦ λ e.
              pays_on 0 m l f.at f.calm z (weight (word_bound p) (Some mv.now)) kind mv.now.state mv.state
              (awake answer m l l.tx kind (kind_of_turn RC C counted_laws p small answer 0 m l sound (record { going = goes; is = f.at; up = e }))) ln.1
              (subst (λ o. weight (word_bound p) o + spent kind ≤ weight (word_bound p) (Some l) + earned_by kind (a.next l.state.0)) mv.at py) (f.paid e)
        ] refl;
      }

  other_turn : (answer : Clash → Choice) (t : ℕ) (m : Machine (S × Tally)) (z : ℕ) → (m.end ≡ None → Paid m z) → (t == 0) ≡ false
      → (turn C p answer t m).machine ≡ m
  other_turn answer t m z before d = by_end m.end refl
    where
      by_end : (o : Option End) → m.end ≡ o → (turn_at C p answer t m o).machine ≡ m
      by_end (Some e) i = refl
      by_end None i = ap (λ o. (turn_of C p answer t m o).machine) ((before i).lone.fresh t d)

  module _ (start : World (S × Tally)) (quiet : (m : Machine (S × Tally)) → Agreed C p start m → Calm m) where
    pub all_turns : (qs : List Slot) (m : Machine (S × Tally)) (z : ℕ) → Sound RC C p m → Agreed C p start m → (m.end ≡ None → Paid m z)
        → (turns C p qs m).end ≡ None → Paid (turns C p qs m) (z + zeros qs)
    all_turns [] m z sound shown before h = subst (λ n. Paid m n) (omega arith) (before h)
    all_turns (q ∷ qs) m z sound shown before h =
        let next = turn_sound RC C counted_laws p small q.answer q.thread m sound in
        let also = turn_kept C p start q.answer q.thread m shown in
        elim (q.thread == 0) as
        (λ b. (q.thread == 0) ≡ b → Paid (turns C p qs (turn C p q.answer q.thread m).machine) (z + cond b (suc (zeros qs)) (zeros qs))) [
          | true ↦ λ e.
              let i = eqb-true q.thread 0 e in
              subst (λ n. Paid (turns C p qs (turn C p q.answer q.thread m).machine) n) (omega arith)
              (all_turns qs (turn C p q.answer q.thread m).machine (suc z) next also
              (subst (λ t. (turn C p q.answer t m).machine.end ≡ None → Paid (turn C p q.answer t m).machine (suc z)) (sym i)
              (one_turn q.answer m z sound before (quiet m shown))) h)
          | false ↦ λ d.
              let same = other_turn q.answer q.thread m z before d in
              all_turns qs (turn C p q.answer q.thread m).machine z next also (subst (λ n. n.end ≡ None → Paid n z) (sym same) before) h
        ] refl
