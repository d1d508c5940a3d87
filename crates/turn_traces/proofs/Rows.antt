-- What a turn does to the notes of its thread and to what is kept of it, row by row.
use Rattle.std.proofs.Common.{
  ℕ,
  ℤ,
  pos,
  suc,
  ◌≡◌,
  ◌==◌,
  ◌+◌,
  ◌⊎◌,
  inl,
  inr,
  Bool,
  true,
  false,
  cond,
  refl,
  ap,
  sym,
  ◌∙◌,
  subst,
  length,
  List,
  [],
  ◌∷◌,
  ◌++◌,
  append_assoc,
  append-nil,
  Option,
  Some,
  None,
  arith,
}
use Rattle.std.specs.Prelude.{nat_lt}
use Rattle.std.proofs.lemmas.Bool.{eq-eqb, eqb-true}
use Rattle.std.proofs.lemmas.Option.{none-some}
use Rattle.choosers.specs.declared.Clash.{Clash}
use Rattle.choosers.specs.declared.Choice.{Choice}
use Rattle.choosers.specs.declared.Choice.TheVariants.{Wait, Yield}
use Rattle.tx_events.specs.declared.BlockKind.{BlockKind}
use Rattle.tx_events.specs.declared.BlockKind.TheVariants.{NoExcept, Commit, Cancel}
use Rattle.tx_events.specs.declared.End.{End}
use Rattle.tx_events.specs.declared.End.TheVariants.{Abort, Trapped}
use Rattle.tx_events.specs.declared.Trap.TheVariants.{BadAddress, TooManyThreads, BadJoin}
use Rattle.tx_events.specs.declared.Event.{Event}
use Rattle.tx_events.specs.declared.Event.TheVariants.{
  Silent,
  Load,
  Store,
  Out,
  Inp,
  Spawn,
  Join,
  BeginAtomic,
  EndAtomic,
  Raise,
  BeginSync,
  EndSync,
  Done,
  Stop,
}
use Rattle.tx_events.specs.declared.Reply.{Reply}
use Rattle.tx_events.specs.declared.Reply.TheVariants.{Nothing, Loaded, Byte, Id}
use Rattle.tx_events.specs.declared.TurnKind.{TurnKind}
use Rattle.tx_events.specs.declared.TurnKind.TheVariants.{Ran, Waited, BlockWait, JoinWait, Rolled, Undone, Released, Idle}
use Rattle.tx_events.specs.Memory.{update, MemoryLayout, can_access, word_of, word_bound, load}
use Rattle.tx_events.specs.Thread.{Thread, atomics, blocks_after, may_come}
use Rattle.tx_events.specs.World.{target, byte_of}
use Rattle.tx_events.proofs.BlockRuns.{update_same, update_elsewhere}
use Rattle.tx_serial.specs.Machine.{
  Machine,
  Local,
  Tx,
  NoTx,
  OpenTx,
  GivingUp,
  Closing,
  Save,
  no_save,
  least,
  blocker,
  lock_owner,
  busy,
  clash_of,
  hand,
  note,
  forget,
  is_noted,
}
use Rattle.tx_serial.specs.Turn.{Turned, ran, bare, number_of, waited, load_out, store_out, joins, begins, sync_in, sync_idle, spawns, halts, clashes, gives_up}
use Rattle.tx_serial.specs.Turn.{closes, without, load_in, store_in, outermost, commits, cancels_by, cancels, raises, in_does, out_does, lets_go, given_back}
use Rattle.tx_serial.specs.Turn.{gives_back, turn_in}
use Rattle.tx_serial.proofs.HistoryErased.{erase, erase_tx, erase_local, erase_opt}
use Rattle.turn_traces.specs.Keeping.{Kept, with_atomic, kept_after, kept_told, started_after, started_told, given_up}
use Rattle.turn_traces.proofs.Notes.{Note, no_note, note_in, whats_of, noted, Counts, counts_after}
use Rattle.turn_traces.proofs.Searches.{blocker_same, busy_same, clash_same, target_same}

-- In an open transaction that began with the notes k: where it was entered, and the accesses since.
pub record InTx (n k : Note) (x : Kept) : Type 0 where
  pub entry : x.at_entry ≡ length k.blocks
  pub whats : n.whats ≡ k.whats ++ x.accesses

-- One that gives up goes back there.
pub record Back (k : Note) (x : Kept) : Type 0 where
  pub all : x.open_blocks ≡ length k.blocks
  pub atomic : x.atomic_blocks ≡ 1
  pub entry : x.at_entry ≡ length k.blocks
  pub accesses : x.accesses ≡ []

abbrev pub KeptTx : {S : Type 0} → Note → Tx (S × Note) → Kept → Type 0
KeptTx n NoTx x = Counts n.blocks x
KeptTx n (Closing b) x = Counts n.blocks x
KeptTx n (OpenTx b k ss) x = Counts n.blocks x × InTx n k.1 x
KeptTx n (GivingUp b k ss) x = Back k.1 x

abbrev pub KeptBy : {S : Type 0} → Option (Local (S × Note)) → Kept → Type 0
KeptBy None x = Counts [] x
KeptBy (Some l) x = KeptTx l.state.1 l.tx x

pub in_after : (e : Event) (n k : Note) (x : Kept) → (x.atomic_blocks == 0) ≡ false → InTx n k x → InTx (note_in e n) k (kept_after e x)
in_after (Load addr size vol) n k x h i = record {
  entry = i.entry;
  whats = ap (λ ws. ws ++ whats_of (Load addr size vol)) i.whats
      ∙ (append_assoc k.whats x.accesses (whats_of (Load addr size vol))
      ∙ ap (λ b. k.whats ++ cond b x.accesses (x.accesses ++ whats_of (Load addr size vol))) (sym h));
}
in_after (Store addr size value vol) n k x h i = record {
  entry = i.entry;
  whats = ap (λ ws. ws ++ whats_of (Store addr size value vol)) i.whats
      ∙ (append_assoc k.whats x.accesses (whats_of (Store addr size value vol))
      ∙ ap (λ b. k.whats ++ cond b x.accesses (x.accesses ++ whats_of (Store addr size value vol))) (sym h));
}
in_after (BeginAtomic kind) n k x h i = record {
  entry = ap (λ b. cond b (x.open_blocks + 1) x.at_entry) h ∙ i.entry;
  whats = append-nil n.whats ∙ (i.whats ∙ ap (λ b. k.whats ++ cond b [] x.accesses) (sym h));
}
in_after EndAtomic n k x h i = record { entry = i.entry; whats = append-nil n.whats ∙ i.whats }
in_after (Raise kind can) n k x h i = record { entry = i.entry; whats = append-nil n.whats ∙ i.whats }
in_after BeginSync n k x h i = record { entry = i.entry; whats = append-nil n.whats ∙ i.whats }
in_after EndSync n k x h i = record { entry = i.entry; whats = append-nil n.whats ∙ i.whats }
in_after Silent n k x h i = record { entry = i.entry; whats = append-nil n.whats ∙ i.whats }
in_after (Out byte) n k x h i = record { entry = i.entry; whats = append-nil n.whats ∙ i.whats }
in_after Inp n k x h i = record { entry = i.entry; whats = append-nil n.whats ∙ i.whats }
in_after (Spawn f y) n k x h i = record { entry = i.entry; whats = append-nil n.whats ∙ i.whats }
in_after (Join id) n k x h i = record { entry = i.entry; whats = append-nil n.whats ∙ i.whats }
in_after Done n k x h i = record { entry = i.entry; whats = append-nil n.whats ∙ i.whats }
in_after (Stop e) n k x h i = record { entry = i.entry; whats = append-nil n.whats ∙ i.whats }

-- an outermost block is entered
pub begun : (n : Note) (k : Note) (x : Kept) → x.atomic_blocks ≡ 0 → Counts n.blocks x → length k.blocks ≡ suc (length n.blocks) → InTx k k (with_atomic x)
begun n k x none c longer = record {
  entry = ap (λ b. cond b (x.open_blocks + 1) x.at_entry) (eq-eqb x.atomic_blocks 0 none) ∙ (let all = c.all in omega (arith, all, longer));
  whats = sym (ap (λ b. k.whats ++ cond b [] x.accesses) (eq-eqb x.atomic_blocks 0 none) ∙ append-nil k.whats);
}

-- what is known of the transaction besides
abbrev pub Deep : {S : Type 0} → Note → Kept → Tx (S × Note) → Type 0
Deep n x NoTx = atomics n.blocks ≡ 0
Deep n x (OpenTx b k ss) = ((x.atomic_blocks == 0) ≡ false) × (atomics k.1.blocks ≡ 1)
Deep n x (GivingUp b k ss) = atomics k.1.blocks ≡ 1
Deep n x (Closing b) = atomics n.blocks ≡ 0

module _ {S : Type 0} (a : Thread S) (p : MemoryLayout) (t : ℕ) (m : Machine (S × Note)) (l : Local (S × Note)) (goes : m.end ≡ None) (x : Kept)
    (is : m.threads t ≡ Some l) (here : KeptBy (m.threads t) x) (may : may_come (a.next l.state.0) l.state.1.blocks ≡ true) where
  abbrev C : Thread (S × Note)
  C = noted a

  -- a thread that was just started
  pub record Fresh (u : ℕ) (o : Option (Local (S × Note))) : Type 0 where
    pub next : u ≡ m.started
    pub state : S × Note
    pub is_bare : o ≡ Some (bare state)
    pub no_notes : state.1 ≡ no_note

  -- a row of the turn at this event, beside the same row without notes
  pub record Row (event : Event) (r : Turned (S × Note)) (q : Turned S) : Type 0 where
    pub kind : r.kind ≡ q.kind
    pub own : r.machine.end ≡ None → KeptBy (r.machine.threads t) (kept_told event r.kind None x)
    pub others : (u : ℕ) → (u == t) ≡ false → (r.machine.threads u ≡ m.threads u) ⊎ Fresh u (r.machine.threads u)
    pub started : r.machine.end ≡ None → r.machine.started ≡ started_told event r.kind None m.started

  halt : (e : End) (event : Event) → Row event (halts t m e) (halts t (erase m) e)
  halt e event = record {
    kind = refl;
    own = λ h. absurd (none-some e (sym h));
    others = λ u n. inl refl;
    started = λ h. absurd (none-some e (sym h));
  }

  -- nothing of the threads changes
  still : (kind : TurnKind) (event : Event) (r : Machine (S × Note)) (q : Machine S) → kept_told event kind None x ≡ x
      → started_told event kind None m.started ≡ m.started → r.threads ≡ m.threads → r.started ≡ m.started
      → Row event (record { machine = r; kind = kind }) (record { machine = q; kind = kind })
  still kind event r q k n ts s = record {
    kind = refl;
    own = λ h. subst (λ z. KeptBy z (kept_told event kind None x)) (sym (ap (λ f. f t) ts)) (subst (λ y. KeptBy (m.threads t) y) (sym k) here);
    others = λ u d. inl (ap (λ f. f u) ts);
    started = λ h. s ∙ sym n;
  }

  either : (event : Event) (b : Bool) (r v : Turned (S × Note)) (q w : Turned S) → Row event r q → Row event v w → Row event (cond b r v) (cond b q w)
  either event true r v q w f g = f
  either event false r v q w f g = g

  -- the thread changes, and no other
  change : (kind : TurnKind) (event : Event) (l' : Local (S × Note)) (r : Machine (S × Note)) (q : Machine S)
      → r.threads ≡ update m.threads t (Some l') → r.started ≡ started_told event kind None m.started
      → KeptTx l'.state.1 l'.tx (kept_told event kind None x) → Row event (record { machine = r; kind = kind }) (record { machine = q; kind = kind })
  change kind event l' r q ts s k = record {
    kind = refl;
    own = λ h. subst (λ z. KeptBy z (kept_told event kind None x)) (sym (ap (λ f. f t) ts ∙ update_same m.threads t (Some l'))) k;
    others = λ u d. inl (ap (λ f. f u) ts ∙ update_elsewhere m.threads t (Some l') u d);
    started = λ h. s;
  }

  waits_row : (event : Event) (y u v : ℕ) → Row event (waited t m y u) (waited t (erase m) y u)
  waits_row event y u v = still (Waited y u) event _ _ refl refl refl refl

  -- the open blocks after the event
  after_counts : (e : Event) → a.next l.state.0 ≡ e → Counts l.state.1.blocks x → Counts (blocks_after (a.next l.state.0) l.state.1.blocks) (kept_after e x)
  after_counts e at c = subst (λ z. Counts (blocks_after z l.state.1.blocks) (kept_after e x)) (sym at)
      (counts_after e l.state.1.blocks x (ap (λ z. may_come z l.state.1.blocks) (sym at) ∙ may) c)

  module _ (none : l.tx ≡ NoTx) (counts : Counts l.state.1.blocks x) (flat : atomics l.state.1.blocks ≡ 0) where
    -- the thread's step
    step : (e : Event) → a.next l.state.0 ≡ e → (reply : Reply) (ended : Bool) (r : Machine (S × Note)) (q : Machine S)
        → r.threads ≡ update m.threads t (Some (record l { state = C.after l.state reply; ended = ended })) → r.started ≡ started_after e m.started
        → Row e (ran r) (ran q)
    step e at reply ended r q ts s = change Ran e (record l { state = C.after l.state reply; ended = ended }) r q ts s
        (subst (λ z. KeptTx (C.after l.state reply).1 z (kept_after e x)) (sym none) (after_counts e at counts))

    load_out_row : (addr size : ℕ) (vol : Bool) → a.next l.state.0 ≡ Load addr size vol → (o : Option ℕ)
        → Row (Load addr size vol) (load_out C t m l addr size o) (load_out a t (erase m) (erase_local l) addr size o)
    load_out_row addr size vol at (Some u) = waits_row (Load addr size vol) (word_of addr) u 0
    load_out_row addr size vol at None = step (Load addr size vol) at (Loaded (load m.memory addr size)) l.ended _ _ refl refl

    store_out_row : (addr size value : ℕ) (vol : Bool) → a.next l.state.0 ≡ Store addr size value vol → (o : Option ℕ)
        → Row (Store addr size value vol) (store_out C t m l addr size value o) (store_out a t (erase m) (erase_local l) addr size value o)
    store_out_row addr size value vol at (Some u) = waits_row (Store addr size value vol) (word_of addr) u 0
    store_out_row addr size value vol at None = step (Store addr size value vol) at Nothing l.ended _ _ refl refl

    join_row : (id : ℤ) → a.next l.state.0 ≡ Join id → (o : Option (Local (S × Note)))
        → Row (Join id) (joins t id m (record l { state = C.after l.state Nothing }) o)
        (joins t id (erase m) (erase_local (record l { state = C.after l.state Nothing })) (erase_opt o))
    join_row id at None = halt (Trapped BadJoin) (Join id)
    join_row id at (Some u) = either (Join id) u.ended _ _ _ _ (step (Join id) at Nothing l.ended _ _ refl refl)
        (still (JoinWait (number_of id)) (Join id) _ _ refl refl refl refl)

    idle_row : a.next l.state.0 ≡ BeginSync → (o : Option ℕ) → Row BeginSync (sync_idle t m (record l { state = C.after l.state Nothing }) o)
        (sync_idle t (erase m) (erase_local (record l { state = C.after l.state Nothing })) o)
    idle_row at (Some u) = still (BlockWait u) BeginSync _ _ refl refl refl refl
    idle_row at None = step BeginSync at Nothing l.ended _ _ refl refl

    sync_row : a.next l.state.0 ≡ BeginSync → (o : Option ℕ) → Row BeginSync (sync_in t m (record l { state = C.after l.state Nothing }) o)
        (sync_in t (erase m) (erase_local (record l { state = C.after l.state Nothing })) o)
    sync_row at (Some u) = still (BlockWait u) BeginSync _ _ refl refl refl refl
    sync_row at None = subst
        (λ o. Row BeginSync (sync_idle t m (record l { state = C.after l.state Nothing }) (busy t m))
        (sync_idle t (erase m) (erase_local (record l { state = C.after l.state Nothing })) o)) (sym (busy_same t m)) (idle_row at (busy t m))

    begin_row : (kind : BlockKind) → a.next l.state.0 ≡ BeginAtomic kind → (o : Option ℕ)
        → Row (BeginAtomic kind) (begins t m l (C.after l.state Nothing) o) (begins t (erase m) (erase_local l) (a.after l.state.0 Nothing) o)
    begin_row kind at (Some u) = still (BlockWait u) (BeginAtomic kind) _ _ refl refl refl refl
    begin_row kind at None = change Ran (BeginAtomic kind)
        (record l { state = C.after l.state Nothing; tx = OpenTx m.births (C.after l.state Nothing) (no_save ∷ []) }) _ _ refl refl (
          after_counts (BeginAtomic kind) at counts,
          begun l.state.1 (C.after l.state Nothing).1 x (counts.atomic ∙ flat) counts (ap (λ z. length (blocks_after z l.state.1.blocks)) at),
        )

    spawn_row : (f : ℕ) (y : ℤ) → a.next l.state.0 ≡ Spawn f y
        → Row (Spawn f y) (ran (spawns t m (record l { state = C.after l.state (Id (pos m.started)) }) (C.child l.state m.started f y)))
        (ran (spawns t (erase m) (record (erase_local l) { state = a.after l.state.0 (Id (pos m.started)) }) (a.child l.state.0 m.started f y)))
    spawn_row f y at =
        let l' : Local (S × Note) = record l { state = C.after l.state (Id (pos m.started)) } in
        let child = C.child l.state m.started f y in
        let more = update m.threads m.started (Some (bare child)) in
        record {
          kind = refl;
          own = λ h. subst (λ z. KeptBy z (kept_after (Spawn f y) x)) (sym (update_same more t (Some l')))
              (subst (λ z. KeptTx l'.state.1 z (kept_after (Spawn f y) x)) (sym none) (after_counts (Spawn f y) at counts));
          others = λ u d. elim (u == m.started) as (λ b. (u == m.started) ≡ b
              → (update more t (Some l') u ≡ m.threads u) ⊎ Fresh u (update more t (Some l') u)) [
                | true ↦ λ e. inr (record {
                  next = eqb-true u m.started e;
                  state = child;
                  is_bare = update_elsewhere more t (Some l') u d ∙ ap (λ b. cond b (Some (bare child)) (m.threads u)) e;
                  no_notes = refl;
                })
                | false ↦ λ e. inl (update_elsewhere more t (Some l') u d ∙ update_elsewhere m.threads m.started (Some (bare child)) u e)
              ] refl;
          started = λ h. refl;
        }

    out_row : (e : Event) → a.next l.state.0 ≡ e → Row e (out_does C p t m l e) (out_does a p t (erase m) (erase_local l) e)
    out_row Silent at = step Silent at Nothing l.ended _ _ refl refl
    out_row (Load addr size vol) at = either (Load addr size vol) (can_access p addr size) _ _ _ _
        (subst (λ o. Row (Load addr size vol) (load_out C t m l addr size (blocker t false (word_of addr) m))
        (load_out a t (erase m) (erase_local l) addr size o)) (sym (blocker_same t false (word_of addr) m))
        (load_out_row addr size vol at (blocker t false (word_of addr) m)))
        (halt (Trapped BadAddress) (Load addr size vol))
    out_row (Store addr size value vol) at = either (Store addr size value vol) (can_access p addr size) _ _ _ _
        (subst (λ o. Row (Store addr size value vol) (store_out C t m l addr size value (blocker t true (word_of addr) m))
        (store_out a t (erase m) (erase_local l) addr size value o)) (sym (blocker_same t true (word_of addr) m))
        (store_out_row addr size value vol at (blocker t true (word_of addr) m)))
        (halt (Trapped BadAddress) (Store addr size value vol))
    out_row (BeginAtomic kind) at = begin_row kind at (lock_owner t m.lock.holder)
    out_row EndAtomic at = still Idle EndAtomic _ _ refl refl refl refl
    out_row (Raise kind can) at = still Idle (Raise kind can) _ _ refl refl refl refl
    out_row BeginSync at = sync_row at (lock_owner t m.lock.holder)
    out_row EndSync at = step EndSync at Nothing l.ended _ _ refl refl
    out_row (Spawn f y) at = either (Spawn f y) (nat_lt m.started p.limit) _ _ _ _ (spawn_row f y at) (halt (Trapped TooManyThreads) (Spawn f y))
    out_row (Join id) at = subst
        (λ o. Row (Join id) (joins t id m (record l { state = C.after l.state Nothing }) (target t id m.threads))
        (joins t id (erase m) (erase_local (record l { state = C.after l.state Nothing })) o)) (sym (target_same t id m.threads))
        (join_row id at (target t id m.threads))
    out_row (Out byte) at = step (Out byte) at Nothing l.ended _ _ refl refl
    out_row Inp at = step Inp at (Byte (byte_of m.input)) l.ended _ _ refl refl
    out_row Done at = step Done at Nothing true _ _ refl refl
    out_row (Stop e) at = halt e (Stop e)

  -- the thread stands again just after its outermost BeginAtomic
  pub stands_again : (k : Note) → atomics k.blocks ≡ 1 → (y : Kept) → Back k y → Counts k.blocks y × InTx k k y
  stands_again k one y back = (
    record { all = back.all; atomic = back.atomic ∙ sym one },
    record { entry = back.entry; whats = sym (ap (λ ws. k.whats ++ ws) back.accesses ∙ append-nil k.whats) },
  )

  module _ (b : ℕ) (k : S × Note) (ss : List Save) (counts : Counts l.state.1.blocks x) (inside : InTx l.state.1 k.1 x)
      (deep : (x.atomic_blocks == 0) ≡ false) (one : atomics k.1.blocks ≡ 1) where
    gives_kept : (o : Option ℕ) → KeptTx (gives_up l b k ss o).state.1 (gives_up l b k ss o).tx (given_up x)
    gives_kept None = stands_again k.1 one (given_up x) (record { all = inside.entry; atomic = refl; entry = inside.entry; accesses = refl })
    gives_kept (Some y) = record { all = inside.entry; atomic = refl; entry = inside.entry; accesses = refl }

    clash_row : (event : Event) (choice : Choice) (y u : ℕ) → Row event (clashes p choice t m l b k ss y u)
        (clashes p choice t (erase m) (erase_local l) b k.0 ss y u)
    clash_row event Wait y u = waits_row event y u 0
    clash_row event Yield y u = change (Rolled y u) event (gives_up l b k ss (least l.held (word_bound p))) _ _ refl refl
        (gives_kept (least l.held (word_bound p)))

    asked_row : (event : Event) (answer : Clash → Choice) (store : Bool) (y u : ℕ) → Row event (clashes p (answer (clash_of t store y m b u)) t m l b k ss y u)
        (clashes p (answer (clash_of t store y (erase m) b u)) t (erase m) (erase_local l) b k.0 ss y u)
    asked_row event answer store y u =
        subst (λ c. Row event (clashes p (answer (clash_of t store y m b u)) t m l b k ss y u) (clashes p (answer c) t (erase m) (erase_local l) b k.0 ss y u))
        (sym (clash_same t store y b u m)) (clash_row event (answer (clash_of t store y m b u)) y u)

    -- a step inside the block, with these savepoints and holds
    inner : (e : Event) → a.next l.state.0 ≡ e → (reply : Reply) (ts : List Save) (l' : Local (S × Note)) (r : Machine (S × Note)) (q : Machine S)
        → l'.state ≡ C.after l.state reply → l'.tx ≡ OpenTx b k ts → r.threads ≡ update m.threads t (Some l')
        → r.started ≡ started_after e m.started → Row e (ran r) (ran q)
    inner e at reply ts l' r q s z us n = change Ran e l' r q us n (subst (λ y. KeptTx l'.state.1 y (kept_after e x)) (sym z)
        (subst (λ (y : S × Note). Counts y.1.blocks (kept_after e x) × InTx y.1 k.1 (kept_after e x)) (sym s) (
          after_counts e at counts,
          subst (λ z. InTx (note_in z l.state.1) k.1 (kept_after e x)) (sym at) (in_after e l.state.1 k.1 x deep inside),
        )))

    load_in_row : (answer : Clash → Choice) (addr size : ℕ) (vol : Bool) → a.next l.state.0 ≡ Load addr size vol → (o : Option ℕ)
        → Row (Load addr size vol) (load_in C p answer t m l b k ss addr size o) (load_in a p answer t (erase m) (erase_local l) b k.0 ss addr size o)
    load_in_row answer addr size vol at (Some u) = asked_row (Load addr size vol) answer false (word_of addr) u
    load_in_row answer addr size vol at None = inner (Load addr size vol) at (Loaded (load m.memory addr size)) ss
        (record l {
          state = C.after l.state (Loaded (load m.memory addr size));
          held = update l.held (word_of addr) true;
          tx = OpenTx b k ss;
        }) _ _ refl refl refl refl

    store_in_row : (answer : Clash → Choice) (addr size value : ℕ) (vol : Bool) → a.next l.state.0 ≡ Store addr size value vol → (o : Option ℕ)
        → Row (Store addr size value vol) (store_in C p answer t m l b k ss addr size value o)
        (store_in a p answer t (erase m) (erase_local l) b k.0 ss addr size value o)
    store_in_row answer addr size value vol at (Some u) = asked_row (Store addr size value vol) answer true (word_of addr) u
    store_in_row answer addr size value vol at None = inner (Store addr size value vol) at Nothing (note ss (word_of addr) (m.memory (word_of addr)))
        (record l {
          state = C.after l.state Nothing;
          held = update l.held (word_of addr) true;
          wrote = update l.wrote (word_of addr) true;
          tx = OpenTx b k (note ss (word_of addr) (m.memory (word_of addr)));
        }) _ _ refl refl refl refl

    module _ (e : Event) (at : a.next l.state.0 ≡ e) (alone : started_after e m.started ≡ m.started) where
      closed : (o : Option ℕ) → KeptTx {S = S} (C.after l.state Nothing).1 (closes b o) (kept_after e x)
      closed None = after_counts e at counts
      closed (Some y) = after_counts e at counts

      outermost_row : Row e (outermost p t m l (C.after l.state Nothing) b) (outermost p t (erase m) (erase_local l) (a.after l.state.0 Nothing) b)
      outermost_row = change Ran e (record l { state = C.after l.state Nothing; tx = closes b (least l.held (word_bound p)) }) _ _ refl (sym alone)
          (closed (least l.held (word_bound p)))

      commits_row : (ts : List Save) → Row e (commits p t m l (C.after l.state Nothing) b k ts)
          (commits p t (erase m) (erase_local l) (a.after l.state.0 Nothing) b k.0 ts)
      commits_row [] = still Idle e _ _ refl refl refl refl
      commits_row (n ∷ []) = outermost_row
      commits_row (n ∷ o ∷ ts) = inner e at Nothing (hand n o ∷ ts) (record l { state = C.after l.state Nothing; tx = OpenTx b k (hand n o ∷ ts) }) _ _
          refl refl refl (sym alone)

      cancels_row : (n : Save) (ts : List Save) (o : Option ℕ) → l.tx ≡ OpenTx b k (n ∷ ts) → Row e (cancels_by p t m l (C.after l.state Nothing) b k n ts o)
          (cancels_by p t (erase m) (erase_local l) (a.after l.state.0 Nothing) b k.0 n ts o)
      cancels_row n ts (Some y) z = change (Undone y) e (record l { tx = OpenTx b k (forget n y ∷ ts) }) _ _ refl refl (counts, inside)
      cancels_row n [] None z = outermost_row
      cancels_row n (o ∷ ts) None z = inner e at Nothing (o ∷ ts) (record l { state = C.after l.state Nothing; tx = OpenTx b k (o ∷ ts) }) _ _
          refl refl refl (sym alone)

      saves_row : (ts : List Save) → l.tx ≡ OpenTx b k ts → Row e (cancels p t m l (C.after l.state Nothing) b k ts)
          (cancels p t (erase m) (erase_local l) (a.after l.state.0 Nothing) b k.0 ts)
      saves_row [] z = still Idle e _ _ refl refl refl refl
      saves_row (n ∷ ts) z = cancels_row n ts (least (is_noted n) (word_bound p)) z

      raises_row : (kind : BlockKind) (can : Bool) → l.tx ≡ OpenTx b k ss → Row e (raises p t m l (C.after l.state Nothing) b k ss kind can)
          (raises p t (erase m) (erase_local l) (a.after l.state.0 Nothing) b k.0 ss kind can)
      raises_row NoExcept can z = halt Abort e
      raises_row Commit can z = commits_row ss
      raises_row Cancel true z = saves_row ss z
      raises_row Cancel false z = halt Abort e

    in_row : (answer : Clash → Choice) (e : Event) → a.next l.state.0 ≡ e → l.tx ≡ OpenTx b k ss
        → Row e (in_does C p answer t m l b k ss e) (in_does a p answer t (erase m) (erase_local l) b k.0 ss e)
    in_row answer Silent at z = inner Silent at Nothing ss (record l { state = C.after l.state Nothing; tx = OpenTx b k ss }) _ _ refl refl refl refl
    in_row answer (Load addr size vol) at z = either (Load addr size vol) (can_access p addr size) _ _ _ _
        (subst (λ o. Row (Load addr size vol) (load_in C p answer t m l b k ss addr size (blocker t false (word_of addr) m))
        (load_in a p answer t (erase m) (erase_local l) b k.0 ss addr size o)) (sym (blocker_same t false (word_of addr) m))
        (load_in_row answer addr size vol at (blocker t false (word_of addr) m))) (halt (Trapped BadAddress) (Load addr size vol))
    in_row answer (Store addr size value vol) at z = either (Store addr size value vol) (can_access p addr size) _ _ _ _
        (subst (λ o. Row (Store addr size value vol) (store_in C p answer t m l b k ss addr size value (blocker t true (word_of addr) m))
        (store_in a p answer t (erase m) (erase_local l) b k.0 ss addr size value o)) (sym (blocker_same t true (word_of addr) m))
        (store_in_row answer addr size value vol at (blocker t true (word_of addr) m))) (halt (Trapped BadAddress) (Store addr size value vol))
    in_row answer (BeginAtomic kind) at z = inner (BeginAtomic kind) at Nothing (no_save ∷ ss)
        (record l { state = C.after l.state Nothing; tx = OpenTx b k (no_save ∷ ss) }) _ _ refl refl refl refl
    in_row answer EndAtomic at z = commits_row EndAtomic at refl ss
    in_row answer (Raise kind can) at z = raises_row (Raise kind can) at refl kind can z
    in_row answer BeginSync at z = inner BeginSync at Nothing ss (record l { state = C.after l.state Nothing; tx = OpenTx b k ss }) _ _ refl refl refl refl
    in_row answer EndSync at z = inner EndSync at Nothing ss (record l { state = C.after l.state Nothing; tx = OpenTx b k ss }) _ _ refl refl refl refl
    in_row answer (Stop e) at z = halt e (Stop e)
    in_row answer (Spawn f y) at z = still Idle (Spawn f y) _ _ refl refl refl refl
    in_row answer (Join id) at z = still Idle (Join id) _ _ refl refl refl refl
    in_row answer (Out byte) at z = still Idle (Out byte) _ _ refl refl refl refl
    in_row answer Inp at z = still Idle Inp _ _ refl refl refl refl
    in_row answer Done at z = still Idle Done _ _ refl refl refl refl

  -- while it gives up, and while it closes
  module _ (e : Event) (b : ℕ) (k : S × Note) (ss : List Save) (back : Back k.1 x) (one : atomics k.1.blocks ≡ 1) where
    back_kept : (y : ℕ) (o : Option ℕ) → KeptTx (given_back l b k ss y o).state.1 (given_back l b k ss y o).tx x
    back_kept y None = stands_again k.1 one x back
    back_kept y (Some z) = back

    back_row : (o : Option ℕ) → Row e (gives_back p t m l b k ss o) (gives_back p t (erase m) (erase_local l) b k.0 ss o)
    back_row None = still Idle e _ _ refl refl refl refl
    back_row (Some y) = change (Undone y) e (given_back l b k ss y (least (without l.held y) (word_bound p))) _ _ refl refl
        (back_kept y (least (without l.held y) (word_bound p)))

  closing_kept : (b : ℕ) (o : Option ℕ) → Counts l.state.1.blocks x → KeptTx {S = S} l.state.1 (closes b o) x
  closing_kept b None c = c
  closing_kept b (Some y) c = c

  go_row : (e : Event) (b : ℕ) → Counts l.state.1.blocks x → (o : Option ℕ) → Row e (lets_go p t m l b o) (lets_go p t (erase m) (erase_local l) b o)
  go_row e b c None = still Idle e _ _ refl refl refl refl
  go_row e b c (Some y) = change (Released y) e
      (record l { held = without l.held y; wrote = without l.wrote y; tx = closes b (least (without l.held y) (word_bound p)) }) _ _ refl refl
      (closing_kept b (least (without l.held y) (word_bound p)) c)

  pub tx_row : (answer : Clash → Choice) (tx : Tx (S × Note)) → l.tx ≡ tx → KeptTx l.state.1 tx x → Deep l.state.1 x tx
      → Row (a.next l.state.0) (turn_in C p answer t m l tx) (turn_in a p answer t (erase m) (erase_local l) (erase_tx tx))
  tx_row answer NoTx z c d = out_row z c d (a.next l.state.0) refl
  tx_row answer (OpenTx b k ss) z c d = in_row b k ss c.0 c.1 d.0 d.1 answer (a.next l.state.0) refl z
  tx_row answer (GivingUp b k ss) z c d = back_row (a.next l.state.0) b k ss c d (least l.held (word_bound p))
  tx_row answer (Closing b) z c d = go_row (a.next l.state.0) b c (least l.held (word_bound p))
