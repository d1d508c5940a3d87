-- Where the condition of a kind holds, the turn is of that kind; and the turn depends on the answer at one clash alone.
use Rattle.std.proofs.Common.{ℕ, ◌≡◌, inl, inr, Bool, true, false, cond, refl, ap, sym, ◌∙◌, subst, List, [], ◌∷◌, Option, Some, None}
use Rattle.std.proofs.lemmas.Bool.{true≢false}
use Rattle.choosers.specs.declared.Clash.{Clash}
use Rattle.choosers.specs.declared.Choice.{Choice}
use Rattle.choosers.specs.declared.Choice.TheVariants.{Wait, Yield}
use Rattle.tx_events.specs.declared.Trap.TheVariants.{BadAddress}
use Rattle.tx_events.specs.declared.End.{End}
use Rattle.tx_events.specs.declared.End.TheVariants.{Trapped}
use Rattle.tx_events.specs.declared.Event.{Event}
use Rattle.tx_events.specs.declared.Event.TheVariants.{
  Silent,
  Load,
  Store,
  Out,
  Inp,
  Spawn,
  Join,
  BeginAtomic,
  EndAtomic,
  Raise,
  BeginSync,
  EndSync,
  Done,
  Stop,
}
use Rattle.tx_events.specs.declared.Reply.TheVariants.{Nothing}
use Rattle.tx_events.specs.declared.TurnKind.{TurnKind}
use Rattle.tx_events.specs.declared.TurnKind.TheVariants.{Ran, Waited, BlockWait, JoinWait, Rolled, Undone, Released, Idle}
use Rattle.tx_events.specs.Thread.{Thread}
use Rattle.tx_events.specs.Memory.{MemoryLayout, can_access, word_of, word_bound}
use Rattle.tx_serial.specs.Machine.{Machine, Local, Tx, NoTx, OpenTx, GivingUp, Closing, Save, least, blocker, clash_of}
use Rattle.tx_serial.specs.Turn.{
  ran,
  order_gains,
  steps,
  number_of,
  Turned,
  stays,
  halts,
  load_in,
  store_in,
  load_out,
  store_out,
  begins,
  sync_in,
  sync_idle,
  joins,
  clashes,
  cancels,
  cancels_by,
  in_does,
  out_does,
  lets_go,
  gives_back,
  turn_in,
  turn_of,
  turn_at,
  turn,
}
use Rattle.tx_serial.specs.Kinds.{Accesses, Shut, Unended, NewestNotes, KindOut, KindIn, KindGiving, KindClosing, KindBy, GoesOn, is_ran}

module _ {S : Type 0} (a : Thread S) (p : MemoryLayout) (answer : Clash → Choice) (t : ℕ) (m : Machine S) (l : Local S) where
  given : (b : Bool) (x y : Turned S) (k : TurnKind) → b ≡ true → x.kind ≡ k → (cond b x y).kind ≡ k
  given b x y k e h = ap (λ c. (cond c x y).kind) e ∙ h

  -- outside a transaction

  out_access : (e : Event) (store : Bool) (x u : ℕ) → Accesses p e store x → blocker t store x m ≡ Some u → (out_does a p t m l e).kind ≡ Waited x u
  out_access (Load addr size vol) store x u g found =
      given (can_access p addr size) (load_out a t m l addr size (blocker t false (word_of addr) m)) (halts t m (Trapped BadAddress)) (Waited x u) g.0
      (subst (λ o. (load_out a t m l addr size o).kind ≡ Waited x u)
      (sym (ap (λ z. blocker t false z m) (sym g.2) ∙ (ap (λ z. blocker t z x m) (sym g.1) ∙ found))) (ap (λ z. Waited z u) (sym g.2)))
  out_access (Store addr size value vol) store x u g found =
      given (can_access p addr size) (store_out a t m l addr size value (blocker t true (word_of addr) m)) (halts t m (Trapped BadAddress)) (Waited x u) g.0
      (subst (λ o. (store_out a t m l addr size value o).kind ≡ Waited x u)
      (sym (ap (λ z. blocker t true z m) (sym g.2) ∙ (ap (λ z. blocker t z x m) (sym g.1) ∙ found))) (ap (λ z. Waited z u) (sym g.2)))
  out_access Silent store x u g found = absurd g
  out_access (Out c) store x u g found = absurd g
  out_access Inp store x u g found = absurd g
  out_access (Spawn h arg) store x u g found = absurd g
  out_access (Join id) store x u g found = absurd g
  out_access (BeginAtomic kind) store x u g found = absurd g
  out_access EndAtomic store x u g found = absurd g
  out_access (Raise kind can) store x u g found = absurd g
  out_access BeginSync store x u g found = absurd g
  out_access EndSync store x u g found = absurd g
  out_access Done store x u g found = absurd g
  out_access (Stop e) store x u g found = absurd g

  out_shut : (e : Event) (u : ℕ) → Shut t m e u → (out_does a p t m l e).kind ≡ BlockWait u
  out_shut (BeginAtomic kind) u g = ap (λ o. (begins t m l (a.after l.state Nothing) o).kind) g
  out_shut BeginSync u g = elim g as (λ z. (out_does a p t m l BeginSync).kind ≡ BlockWait u) [
    | inl i ↦ ap (λ o. (sync_in t m (record l { state = a.after l.state Nothing }) o).kind) i
    | inr i ↦ ap (λ o. (sync_in t m (record l { state = a.after l.state Nothing }) o).kind) i.0
        ∙ ap (λ o. (sync_idle t m (record l { state = a.after l.state Nothing }) o).kind) i.1
  ]
  out_shut (Load addr size vol) u g = absurd g
  out_shut (Store addr size value vol) u g = absurd g
  out_shut Silent u g = absurd g
  out_shut (Out c) u g = absurd g
  out_shut Inp u g = absurd g
  out_shut (Spawn h arg) u g = absurd g
  out_shut (Join id) u g = absurd g
  out_shut EndAtomic u g = absurd g
  out_shut (Raise kind can) u g = absurd g
  out_shut EndSync u g = absurd g
  out_shut Done u g = absurd g
  out_shut (Stop e) u g = absurd g

  out_join : (n : ℕ) → Unended t m (a.next l.state) n → (out_does a p t m l (a.next l.state)).kind ≡ JoinWait n
  out_join n g =
      ap (λ z. (out_does a p t m l z).kind) g.joins
      ∙ (ap (λ o. (joins t g.id m (record l { state = a.after l.state Nothing }) o).kind) g.there
      ∙ (ap (λ b. (cond b (ran (order_gains t (steps t m (record l { state = a.after l.state Nothing })))) (stays (JoinWait (number_of g.id)) m)).kind) g.runs
      ∙ ap JoinWait (sym g.number)))

  out_exact : (k : TurnKind) → KindOut a p t m l k → is_ran k ≡ false → (out_does a p t m l (a.next l.state)).kind ≡ k
  out_exact Ran g r = absurd (true≢false r)
  out_exact (Waited x u) g r = out_access (a.next l.state) g.0 x u g.1.0 g.1.1
  out_exact (BlockWait u) g r = out_shut (a.next l.state) u g
  out_exact (JoinWait n) g r = out_join n g
  out_exact (Rolled x u) g r = absurd g
  out_exact (Undone x) g r = absurd g
  out_exact (Released x) g r = absurd g
  out_exact Idle g r = absurd g

  -- in an open transaction
  module _ (b : ℕ) (kk : S) (ss : List Save) where
    in_access : (c : Choice) (k : TurnKind) (e : Event) (store : Bool) (x u : ℕ) → Accesses p e store x → blocker t store x m ≡ Some u
        → answer (clash_of t store x m b u) ≡ c → (clashes p c t m l b kk ss x u).kind ≡ k → (in_does a p answer t m l b kk ss e).kind ≡ k
    in_access c k (Load addr size vol) store x u g found said h =
        given (can_access p addr size) (load_in a p answer t m l b kk ss addr size (blocker t false (word_of addr) m)) (halts t m (Trapped BadAddress)) k g.0
        (subst (λ o. (load_in a p answer t m l b kk ss addr size o).kind ≡ k)
        (sym (ap (λ z. blocker t false z m) (sym g.2) ∙ (ap (λ z. blocker t z x m) (sym g.1) ∙ found)))
        (subst (λ z. (clashes p (answer (clash_of t false z m b u)) t m l b kk ss z u).kind ≡ k) g.2
        (subst (λ z. (clashes p (answer (clash_of t z x m b u)) t m l b kk ss x u).kind ≡ k) g.1
        (subst (λ z. (clashes p z t m l b kk ss x u).kind ≡ k) (sym said) h))))
    in_access c k (Store addr size value vol) store x u g found said h =
        given (can_access p addr size) (store_in a p answer t m l b kk ss addr size value (blocker t true (word_of addr) m))
        (halts t m (Trapped BadAddress)) k g.0
        (subst (λ o. (store_in a p answer t m l b kk ss addr size value o).kind ≡ k)
        (sym (ap (λ z. blocker t true z m) (sym g.2) ∙ (ap (λ z. blocker t z x m) (sym g.1) ∙ found)))
        (subst (λ z. (clashes p (answer (clash_of t true z m b u)) t m l b kk ss z u).kind ≡ k) g.2
        (subst (λ z. (clashes p (answer (clash_of t z x m b u)) t m l b kk ss x u).kind ≡ k) g.1
        (subst (λ z. (clashes p z t m l b kk ss x u).kind ≡ k) (sym said) h))))
    in_access c k Silent store x u g found said h = absurd g
    in_access c k (Out d) store x u g found said h = absurd g
    in_access c k Inp store x u g found said h = absurd g
    in_access c k (Spawn f arg) store x u g found said h = absurd g
    in_access c k (Join id) store x u g found said h = absurd g
    in_access c k (BeginAtomic kind) store x u g found said h = absurd g
    in_access c k EndAtomic store x u g found said h = absurd g
    in_access c k (Raise kind can) store x u g found said h = absurd g
    in_access c k BeginSync store x u g found said h = absurd g
    in_access c k EndSync store x u g found said h = absurd g
    in_access c k Done store x u g found said h = absurd g
    in_access c k (Stop e) store x u g found said h = absurd g

    undoes_first : (ts : List Save) (x : ℕ) → NewestNotes p ts x → (cancels p t m l (a.after l.state Nothing) b kk ts).kind ≡ Undone x
    undoes_first [] x g = absurd g
    undoes_first (n ∷ ts) x g = ap (λ o. (cancels_by p t m l (a.after l.state Nothing) b kk n ts o).kind) g

    in_exact : (k : TurnKind) → KindIn a p answer t m l b ss k → is_ran k ≡ false → (in_does a p answer t m l b kk ss (a.next l.state)).kind ≡ k
    in_exact Ran g r = absurd (true≢false r)
    in_exact (Waited x u) g r = in_access Wait (Waited x u) (a.next l.state) g.0 x u g.1.0 g.1.1 g.2 refl
    in_exact (Rolled x u) g r = in_access Yield (Rolled x u) (a.next l.state) g.0 x u g.1.0 g.1.1 g.2 refl
    in_exact (Undone x) g r = ap (λ z. (in_does a p answer t m l b kk ss z).kind) g.0 ∙ undoes_first ss x g.1
    in_exact (BlockWait u) g r = absurd g
    in_exact (JoinWait n) g r = absurd g
    in_exact (Released x) g r = absurd g
    in_exact Idle g r = absurd g

  giving_exact : (b : ℕ) (kk : S) (ss : List Save) (k : TurnKind) → KindGiving p l k → (gives_back p t m l b kk ss (least l.held (word_bound p))).kind ≡ k
  giving_exact b kk ss (Undone x) g = ap (λ o. (gives_back p t m l b kk ss o).kind) g
  giving_exact b kk ss Ran g = absurd g
  giving_exact b kk ss (Waited x u) g = absurd g
  giving_exact b kk ss (BlockWait u) g = absurd g
  giving_exact b kk ss (JoinWait n) g = absurd g
  giving_exact b kk ss (Rolled x u) g = absurd g
  giving_exact b kk ss (Released x) g = absurd g
  giving_exact b kk ss Idle g = absurd g

  closing_exact : (b : ℕ) (k : TurnKind) → KindClosing p l k → (lets_go p t m l b (least l.held (word_bound p))).kind ≡ k
  closing_exact b (Released x) g = ap (λ o. (lets_go p t m l b o).kind) g
  closing_exact b Ran g = absurd g
  closing_exact b (Waited x u) g = absurd g
  closing_exact b (BlockWait u) g = absurd g
  closing_exact b (JoinWait n) g = absurd g
  closing_exact b (Rolled x u) g = absurd g
  closing_exact b (Undone x) g = absurd g
  closing_exact b Idle g = absurd g

  tx_exact : (tx : Tx S) (k : TurnKind) → KindBy a p answer t m l tx k → is_ran k ≡ false → (turn_in a p answer t m l tx).kind ≡ k
  tx_exact NoTx k g r = out_exact k g r
  tx_exact (OpenTx b kk ss) k g r = in_exact b kk ss k g r
  tx_exact (GivingUp b kk ss) k g r = giving_exact b kk ss k g
  tx_exact (Closing b) k g r = closing_exact b k g

  pub turn_is : GoesOn t m l → turn a p answer t m ≡ turn_in a p answer t m l l.tx
  turn_is g = ap (λ o. turn_at a p answer t m o) g.going
      ∙ (ap (λ o. turn_of a p answer t m o) g.is ∙ ap (λ c. cond c (stays Idle m) (turn_in a p answer t m l l.tx)) g.up)

  pub kind_exact : (k : TurnKind) → GoesOn t m l → KindBy a p answer t m l l.tx k → is_ran k ≡ false → (turn a p answer t m).kind ≡ k
  kind_exact k g h r = ap (λ z. z.kind) (turn_is g) ∙ tx_exact l.tx k h r

-- a thread that does not go on is idle, and nothing changes
module _ {S : Type 0} (a : Thread S) (p : MemoryLayout) (answer : Clash → Choice) (t : ℕ) (m : Machine S) where
  pub idle_exact : ((l : Local S) → GoesOn t m l → ⊥) → turn a p answer t m ≡ stays Idle m
  idle_exact h = by_end m.end refl
    where
      by_up : (l : Local S) → m.end ≡ None → m.threads t ≡ Some l → (up : Bool) → l.ended ≡ up
          → cond up (stays Idle m) (turn_in a p answer t m l l.tx) ≡ stays Idle m
      by_up l e i true j = refl
      by_up l e i false j = absurd (h l (record { going = e; is = i; up = j }))

      by_thread : m.end ≡ None → (o : Option (Local S)) → m.threads t ≡ o → turn_of a p answer t m o ≡ stays Idle m
      by_thread e None i = refl
      by_thread e (Some l) i = by_up l e i l.ended refl

      by_end : (o : Option End) → m.end ≡ o → turn_at a p answer t m o ≡ stays Idle m
      by_end (Some x) i = refl
      by_end None i = by_thread i (m.threads t) refl
