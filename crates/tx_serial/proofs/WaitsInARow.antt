-- The waits that the machine keeps are the Waited turns that a thread has taken in a row.
use Rattle.std.proofs.Common.{ℕ, ◌≡◌, ◌==◌, ◌≤◌, ◌+◌, Bool, true, false, cond, refl, ap, sym, ◌∙◌, subst, List, [], ◌∷◌, Option, Some, None, arith}
use Rattle.std.specs.Prelude.{min, ◌&&◌}
use Rattle.std.proofs.lemmas.Bool.{eqb-true, eqb-false, ne_eqb, eq-eqb, and_parts, true≢false}
use Rattle.std.proofs.lemmas.Option.{none-some}
use Rattle.choosers.specs.declared.Clash.{Clash}
use Rattle.choosers.specs.declared.Choice.{Choice}
use Rattle.tx_events.specs.declared.TheConstants.{THREAD_LIMIT}
use Rattle.tx_events.specs.declared.End.{End}
use Rattle.tx_events.specs.declared.Event.{Event}
use Rattle.tx_events.specs.declared.Event.TheVariants.{
  Silent,
  Load,
  Store,
  Out,
  Inp,
  Spawn,
  Join,
  BeginAtomic,
  EndAtomic,
  Raise,
  BeginSync,
  EndSync,
  Done,
  Stop,
}
use Rattle.tx_events.specs.declared.TurnKind.{TurnKind}
use Rattle.tx_events.specs.declared.TurnKind.TheVariants.{Ran, Waited, BlockWait, JoinWait, Rolled, Undone, Released, Idle}
use Rattle.tx_events.specs.Thread.{Thread, Lawful}
use Rattle.tx_events.specs.Memory.{MemoryLayout}
use Rattle.tx_serial.specs.Machine.{Machine, Local, Tx, NoTx, OpenTx, GivingUp, Closing, Waits, no_waits, waits_at, wait_more, most_waits, birth_of}
use Rattle.tx_serial.specs.Turn.{Slot, turn, turns}
use Rattle.tx_serial.specs.Kinds.{GoesOn, KindBy, Shut}
use Rattle.tx_serial.specs.Run.{is_access}
use Rattle.tx_serial.specs.Sound.{Sound}
use Rattle.tx_serial.specs.Steps.{waits_after}
use Rattle.tx_serial.specs.Laws.{Rests, RestsAt}
use Rattle.tx_serial.specs.Past.{Past, least_birth, past_after, row_after, waits_in_a_row}
use Rattle.tx_serial.proofs.IdleWaits.{turn_rests}
use Rattle.tx_serial.proofs.KindConditions.{idle_exact}
use Rattle.tx_serial.proofs.SoundKept.{turn_sound, kind_of_turn}
use Rattle.tx_serial.proofs.TurnSteps as steps

either_same : (c : Bool) (n : ℕ) → cond c n n ≡ n
either_same true n = refl
either_same false n = refl

no_waits_at : (x b : ℕ) → waits_at no_waits x b ≡ 0
no_waits_at x b = either_same ((0 == x) && (0 == b)) 0

-- one more is counted at that word against that birth, and elsewhere none
one_more : (ws : Waits) (y c x b : ℕ) (n : ℕ → ℕ → ℕ) → ((x b : ℕ) → waits_at ws x b ≡ min (n x b) most_waits)
    → waits_at (wait_more ws y c) x b ≡ min (cond ((y == x) && (c == b)) (n x b + 1) 0) most_waits
one_more ws y c x b n h = by_same ((y == x) && (c == b)) refl
  where
    by_same : (s : Bool) → ((y == x) && (c == b)) ≡ s → cond s (min (waits_at ws y c + 1) most_waits) 0 ≡ min (cond s (n x b + 1) 0) most_waits
    by_same false e = refl
    by_same true e =
        let both = and_parts (y == x) (c == b) e in
        let here : waits_at ws y c ≡ min (n x b) most_waits = h y c
        ∙ (ap (λ z. min (n z c) most_waits) (eqb-true y x both.0) ∙ ap (λ z. min (n x z) most_waits) (eqb-true c b both.1)) in
        omega (arith, here)

module _ {S : Type 0} (a : Thread S) (p : MemoryLayout) (answer : Clash → Choice) (t : ℕ) (m : Machine S) (l : Local S) where
  shut_is_none : (e : Event) (u : ℕ) → Shut t m e u → is_access e ≡ false
  shut_is_none (BeginAtomic kind) u h = refl
  shut_is_none BeginSync u h = refl
  shut_is_none (Load addr size vol) u h = absurd h
  shut_is_none (Store addr size value vol) u h = absurd h
  shut_is_none Silent u h = refl
  shut_is_none (Out byte) u h = refl
  shut_is_none Inp u h = refl
  shut_is_none (Spawn f x) u h = refl
  shut_is_none (Join id) u h = refl
  shut_is_none EndAtomic u h = refl
  shut_is_none (Raise kind can) u h = refl
  shut_is_none EndSync u h = refl
  shut_is_none Done u h = refl
  shut_is_none (Stop e) u h = refl

  block_is_none : (tx : Tx S) (u : ℕ) → KindBy a p answer t m l tx (BlockWait u) → is_access (a.next l.state) ≡ false
  block_is_none NoTx u h = shut_is_none (a.next l.state) u h
  block_is_none (OpenTx b k ss) u h = absurd h
  block_is_none (GivingUp b k ss) u h = absurd h
  block_is_none (Closing b) u h = absurd h

  join_is_none : (tx : Tx S) (n : ℕ) → KindBy a p answer t m l tx (JoinWait n) → is_access (a.next l.state) ≡ false
  join_is_none NoTx n h = ap is_access h.joins
  join_is_none (OpenTx b k ss) n h = absurd h
  join_is_none (GivingUp b k ss) n h = absurd h
  join_is_none (Closing b) n h = absurd h

  never_idle : (tx : Tx S) → KindBy a p answer t m l tx Idle → ⊥
  never_idle NoTx h = h
  never_idle (OpenTx b k ss) h = h
  never_idle (GivingUp b k ss) h = h
  never_idle (Closing b) h = h

  -- the waits of the thread itself
  own : (n : ℕ → ℕ → ℕ) → ((x b : ℕ) → waits_at (m.waits t) x b ≡ min (n x b) most_waits) → (is_access (a.next l.state) ≡ false → m.waits t ≡ no_waits)
      → (k : TurnKind) → KindBy a p answer t m l l.tx k → (x b : ℕ) → waits_at (waits_after m t k) x b
      ≡ min (row_after k (least_birth m k) x b (n x b)) most_waits
  own n h rest (Waited y u) by x b = one_more (m.waits t) y (birth_of (m.threads u)) x b n h
  own n h rest Ran by x b = no_waits_at x b
  own n h rest (Rolled y u) by x b = no_waits_at x b
  own n h rest (Undone y) by x b = no_waits_at x b
  own n h rest (Released y) by x b = no_waits_at x b
  own n h rest (BlockWait u) by x b = ap (λ w. waits_at w x b) (rest (block_is_none l.tx u by)) ∙ no_waits_at x b
  own n h rest (JoinWait id) by x b = ap (λ w. waits_at w x b) (rest (join_is_none l.tx id by)) ∙ no_waits_at x b
  own n h rest Idle by x b = absurd (never_idle l.tx by)

module _ {S : Type 0} (R : S → Type 0) (a : Thread S) (laws : Lawful S R a) (p : MemoryLayout) (small : p.limit ≤ THREAD_LIMIT) where
  abbrev Counted : Machine S → List Past → Type 0
  Counted m past = m.end ≡ None → (u x b : ℕ) → waits_at (m.waits u) x b ≡ min (waits_in_a_row u x b past) most_waits

  module _ (answer : Clash → Choice) (t : ℕ) (m : Machine S) (past : List Past) (sound : Sound R a p m) (rests : Rests a m) (h : Counted m past) where
    idle : ((l : Local S) → GoesOn t m l → ⊥) → Counted (turn a p answer t m).machine
        (record { thread = t; kind = (turn a p answer t m).kind; least = least_birth m (turn a p answer t m).kind } ∷ past)
    idle never =
        subst (λ r. Counted r.machine (record { thread = t; kind = r.kind; least = least_birth m r.kind } ∷ past)) (sym (idle_exact a p answer t m never))
        (λ going u x b. h going u x b ∙ ap (λ n. min n most_waits) (sym (either_same (t == u) (waits_in_a_row u x b past))))

    goes : (l : Local S) → GoesOn t m l → Counted (turn a p answer t m).machine
        (record { thread = t; kind = (turn a p answer t m).kind; least = least_birth m (turn a p answer t m).kind } ∷ past)
    goes l on still u x b = by_same (u == t) refl
      where
        by_same : (s : Bool) → (u == t) ≡ s → waits_at ((turn a p answer t m).machine.waits u) x b
            ≡ min (cond (t == u) (row_after (turn a p answer t m).kind (least_birth m (turn a p answer t m).kind) x b (waits_in_a_row u x b past))
            (waits_in_a_row u x b past)) most_waits
        by_same false e =
            ap (λ w. waits_at w x b) (steps.waits_stay a p answer t m l on u e)
            ∙ (h on.going u x b
            ∙ ap (λ c. min
            (cond c (row_after (turn a p answer t m).kind (least_birth m (turn a p answer t m).kind) x b (waits_in_a_row u x b past))
            (waits_in_a_row u x b past)) most_waits) (sym (ne_eqb t u (λ i. eqb-false u t e (sym i)))))
        by_same true e =
            let kind = (turn a p answer t m).kind in
            subst (λ v. waits_at ((turn a p answer t m).machine.waits v) x b ≡ min
            (cond (t == v) (row_after kind (least_birth m kind) x b (waits_in_a_row v x b past)) (waits_in_a_row v x b past)) most_waits)
            (sym (eqb-true u t e))
            (ap (λ w. waits_at w x b) (steps.waits_counted a p answer t m l on still)
            ∙ (own a p answer t m l (λ y c. waits_in_a_row t y c past) (λ y c. h on.going t y c) (subst (λ o. RestsAt a o (m.waits t)) on.is (rests t)) kind
            (kind_of_turn R a laws p small answer t m l sound on) x b
            ∙ ap (λ c. min (cond c (row_after kind (least_birth m kind) x b (waits_in_a_row t x b past)) (waits_in_a_row t x b past)) most_waits)
            (sym (eq-eqb t t refl))))

    counted : Counted (turn a p answer t m).machine
        (record { thread = t; kind = (turn a p answer t m).kind; least = least_birth m (turn a p answer t m).kind } ∷ past)
    counted = by_end m.end refl
      where
        by_up : (l : Local S) (c : Bool) → m.end ≡ None → m.threads t ≡ Some l → l.ended ≡ c
            → Counted (turn a p answer t m).machine
            (record { thread = t; kind = (turn a p answer t m).kind; least = least_birth m (turn a p answer t m).kind } ∷ past)
        by_up l false none at up = goes l (record { going = none; is = at; up = up })
        by_up l true none at down = idle (λ n g. true≢false (sym down ∙ (ap (λ v. v.ended) (some_same l n (sym at ∙ g.is)) ∙ g.up)))
          where
            some_same : (v w : Local S) → Some v ≡ Some w → v ≡ w
            some_same v w e = cc

        by_thread : (o : Option (Local S)) → m.end ≡ None → m.threads t ≡ o
            → Counted (turn a p answer t m).machine
            (record { thread = t; kind = (turn a p answer t m).kind; least = least_birth m (turn a p answer t m).kind } ∷ past)
        by_thread None none at = idle (λ n g. none-some n (sym at ∙ g.is))
        by_thread (Some l) none at = by_up l l.ended none at refl

        by_end : (o : Option End) → m.end ≡ o → Counted (turn a p answer t m).machine
            (record { thread = t; kind = (turn a p answer t m).kind; least = least_birth m (turn a p answer t m).kind } ∷ past)
        by_end (Some e) some = idle (λ n g. none-some e (sym g.going ∙ some))
        by_end None none = by_thread (m.threads t) none refl

  pub waits_counted : (qs : List Slot) (m : Machine S) (past : List Past) → Sound R a p m → Rests a m → Counted m past
      → Counted (turns a p qs m) (past_after a p qs m past)
  waits_counted [] m past sound rests h = h
  waits_counted (q ∷ qs) m past sound rests h =
      let done = turn a p q.answer q.thread m in
      waits_counted qs done.machine (record { thread = q.thread; kind = done.kind; least = least_birth m done.kind } ∷ past)
      (turn_sound R a laws p small q.answer q.thread m sound) (turn_rests R a laws p small q.answer q.thread m sound rests)
      (counted q.answer q.thread m past sound rests h)

  pub none_counted : (m : Machine S) → m.waits ≡ (λ _. no_waits) → Counted m []
  none_counted m e going u x b = ap (λ w. waits_at (w u) x b) e ∙ no_waits_at x b
