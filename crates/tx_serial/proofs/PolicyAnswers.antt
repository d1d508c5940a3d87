-- The turn depends on the policy's answer at the clash of which it is asked, and on no other.
use Rattle.std.proofs.Common.{ℕ, ◌≡◌, Bool, true, false, cond, refl, ap, sym, subst, List, Option, Some, None}
use Rattle.choosers.specs.declared.Clash.{Clash}
use Rattle.choosers.specs.declared.Choice.{Choice}
use Rattle.tx_events.specs.declared.End.{End}
use Rattle.tx_events.specs.declared.End.TheVariants.{Trapped}
use Rattle.tx_events.specs.declared.Trap.TheVariants.{BadAddress}
use Rattle.tx_events.specs.declared.Event.{Event}
use Rattle.tx_events.specs.declared.Event.TheVariants.{
  Silent,
  Load,
  Store,
  Out,
  Inp,
  Spawn,
  Join,
  BeginAtomic,
  EndAtomic,
  Raise,
  BeginSync,
  EndSync,
  Done,
  Stop,
}
use Rattle.tx_events.specs.Thread.{Thread}
use Rattle.tx_events.specs.Memory.{MemoryLayout, can_access, word_of}
use Rattle.tx_serial.specs.Machine.{Machine, Local, Tx, NoTx, OpenTx, GivingUp, Closing, Save, blocker, clash_of}
use Rattle.tx_serial.specs.Turn.{Turned, stays, halts, load_in, store_in, clashes, in_does, turn_in, turn_of, turn_at, turn}
use Rattle.tx_serial.specs.Kinds.{Accesses, GoesOn, Asked}
use Rattle.tx_events.specs.declared.TurnKind.TheVariants.{Idle}

module _ {S : Type 0} (a : Thread S) (p : MemoryLayout) (answer other : Clash → Choice) (t : ℕ) (m : Machine S)
    (same : (c : Clash) → Asked a p t m c → answer c ≡ other c) where
  either : (b : Bool) (x y z : Turned S) → (b ≡ true → x ≡ y) → cond b x z ≡ cond b y z
  either true x y z f = f refl
  either false x y z f = refl

  module _ (l : Local S) (goes : GoesOn t m l) (b : ℕ) (k : S) (ss : List Save) (tx : l.tx ≡ OpenTx b k ss) where
    said : (e : Event) (store : Bool) (x u : ℕ) → a.next l.state ≡ e → Accesses p e store x → blocker t store x m ≡ Some u
        → answer (clash_of t store x m b u) ≡ other (clash_of t store x m b u)
    said e store x u i g found = same (clash_of t store x m b u)
        (record {
          local = l;
          goes = goes;
          birth = b;
          kept = k;
          saves = ss;
          tx = tx;
          store = store;
          word = x;
          holder = u;
          blocked = (subst (λ z. Accesses p z store x) (sym i) g, found);
          is = refl;
        })

    load_same : (addr size : ℕ) (vol : Bool) → a.next l.state ≡ Load addr size vol → can_access p addr size ≡ true → (o : Option ℕ)
        → blocker t false (word_of addr) m ≡ o → load_in a p answer t m l b k ss addr size o ≡ load_in a p other t m l b k ss addr size o
    load_same addr size vol i ok None found = refl
    load_same addr size vol i ok (Some u) found = ap (λ c. clashes p c t m l b k ss (word_of addr) u)
        (said (Load addr size vol) false (word_of addr) u i (ok, refl, refl) found)

    store_same : (addr size value : ℕ) (vol : Bool) → a.next l.state ≡ Store addr size value vol → can_access p addr size ≡ true → (o : Option ℕ)
        → blocker t true (word_of addr) m ≡ o → store_in a p answer t m l b k ss addr size value o ≡ store_in a p other t m l b k ss addr size value o
    store_same addr size value vol i ok None found = refl
    store_same addr size value vol i ok (Some u) found = ap (λ c. clashes p c t m l b k ss (word_of addr) u)
        (said (Store addr size value vol) true (word_of addr) u i (ok, refl, refl) found)

    in_same : (e : Event) → a.next l.state ≡ e → in_does a p answer t m l b k ss e ≡ in_does a p other t m l b k ss e
    in_same (Load addr size vol) i = either (can_access p addr size) _ _ (halts t m (Trapped BadAddress))
        (λ ok. load_same addr size vol i ok (blocker t false (word_of addr) m) refl)
    in_same (Store addr size value vol) i = either (can_access p addr size) _ _ (halts t m (Trapped BadAddress))
        (λ ok. store_same addr size value vol i ok (blocker t true (word_of addr) m) refl)
    in_same Silent i = refl
    in_same (Out c) i = refl
    in_same Inp i = refl
    in_same (Spawn f x) i = refl
    in_same (Join id) i = refl
    in_same (BeginAtomic kind) i = refl
    in_same EndAtomic i = refl
    in_same (Raise kind can) i = refl
    in_same BeginSync i = refl
    in_same EndSync i = refl
    in_same Done i = refl
    in_same (Stop e) i = refl

  tx_same : (l : Local S) → GoesOn t m l → (tx : Tx S) → l.tx ≡ tx → turn_in a p answer t m l tx ≡ turn_in a p other t m l tx
  tx_same l goes NoTx e = refl
  tx_same l goes (OpenTx b k ss) e = in_same l goes b k ss e (a.next l.state) refl
  tx_same l goes (GivingUp b k ss) e = refl
  tx_same l goes (Closing b) e = refl

  pub turn_same : turn a p answer t m ≡ turn a p other t m
  turn_same = by_end m.end refl
    where
      by_up : (l : Local S) → m.end ≡ None → m.threads t ≡ Some l → (up : Bool) → l.ended ≡ up
          → cond up (stays Idle m) (turn_in a p answer t m l l.tx) ≡ cond up (stays Idle m) (turn_in a p other t m l l.tx)
      by_up l e i true j = refl
      by_up l e i false j = tx_same l (record { going = e; is = i; up = j }) l.tx refl

      by_thread : m.end ≡ None → (o : Option (Local S)) → m.threads t ≡ o → turn_of a p answer t m o ≡ turn_of a p other t m o
      by_thread e None i = refl
      by_thread e (Some l) i = by_up l e i l.ended refl

      by_end : (o : Option End) → m.end ≡ o → turn_at a p answer t m o ≡ turn_at a p other t m o
      by_end (Some x) i = refl
      by_end None i = by_thread i (m.threads t) refl
