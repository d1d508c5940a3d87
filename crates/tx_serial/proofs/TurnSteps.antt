-- What a turn executes, which births it draws, and that it leaves other threads as they are.
use Rattle.std.proofs.Common.{
  ℕ,
  ℤ,
  pos,
  ◌≡◌,
  ◌==◌,
  ◌<◌,
  ◌+◌,
  inl,
  inr,
  Bool,
  true,
  false,
  cond,
  refl,
  ap,
  sym,
  subst,
  ◌∙◌,
  List,
  [],
  ◌∷◌,
  Option,
  Some,
  None,
  arith,
}
use Rattle.std.specs.Prelude.{nat_lt, ◌&&◌, ◌⊎◌}
use Rattle.std.proofs.lemmas.Bool.{false≢true, ne_eqb, and_parts}
use Rattle.std.proofs.lemmas.Option.{none-some, same_Some}
use Rattle.tx_events.specs.declared.End.{End}
use Rattle.tx_events.specs.declared.End.TheVariants.{Abort, Trapped}
use Rattle.tx_events.specs.declared.Trap.TheVariants.{BadAddress, TooManyThreads, BadJoin}
use Rattle.tx_events.specs.declared.BlockKind.{BlockKind}
use Rattle.tx_events.specs.declared.BlockKind.TheVariants.{NoExcept, Commit, Cancel}
use Rattle.tx_events.specs.declared.Event.{Event}
use Rattle.tx_events.specs.declared.Event.TheVariants.{
  Silent,
  Load,
  Store,
  Out,
  Inp,
  Spawn,
  Join,
  BeginAtomic,
  EndAtomic,
  Raise,
  BeginSync,
  EndSync,
  Done,
  Stop,
}
use Rattle.tx_events.specs.declared.Reply.{Reply}
use Rattle.tx_events.specs.declared.Reply.TheVariants.{Nothing, Loaded, Byte, Id}
use Rattle.tx_events.specs.declared.TurnKind.{TurnKind}
use Rattle.tx_events.specs.declared.TurnKind.TheVariants.{Ran, Idle, Undone, Released, Waited, Rolled, BlockWait, JoinWait}
use Rattle.choosers.specs.declared.Clash.{Clash}
use Rattle.choosers.specs.declared.Choice.{Choice}
use Rattle.choosers.specs.declared.Choice.TheVariants.{Wait, Yield}
use Rattle.tx_events.specs.Thread.{Thread, is_own_end}
use Rattle.tx_events.specs.Memory.{update, MemoryLayout, can_access, word_of, word_bound, load}
use Rattle.tx_events.specs.World.{target, byte_of}
use Rattle.tx_serial.specs.Machine.{
  Machine,
  Local,
  Tx,
  NoTx,
  OpenTx,
  GivingUp,
  Closing,
  Save,
  no_save,
  lock_owner,
  clash_of,
  hand,
  note,
  forget,
  forget_all,
  blocker,
  busy,
  least,
  is_noted,
  birth_of,
  no_waits,
  wait_more,
}
use Rattle.tx_serial.specs.Turn.{
  Turned,
  ran,
  steps,
  stays,
  waited,
  order_gains,
  number_of,
  bare,
  clashes,
  gives_up,
  given_back,
  closes,
  without,
  halts,
  load_in,
  store_in,
  load_out,
  store_out,
  joins,
  begins,
  sync_in,
  sync_idle,
  spawns,
  outermost,
  commits,
  cancels_by,
  cancels,
  raises,
  in_does,
  out_does,
  lets_go,
  gives_back,
  turn_in,
  turn,
}
use Rattle.tx_serial.specs.Kinds.{is_ran, GoesOn}
use Rattle.tx_serial.specs.Steps.{reply_of, is_begin, draws, births_after, waits_after, Executes}
use Rattle.tx_serial.proofs.KindConditions.{turn_is}
use Rattle.tx_events.proofs.BlockRuns.{update_same, update_elsewhere}

module _ {S : Type 0} (a : Thread S) (p : MemoryLayout) (t : ℕ) (m : Machine S) (l : Local S) (goes : m.end ≡ None) where
  -- a row of a turn at this event: the births, the other threads, the step that was executed, and the end
  pub record Row (drawn : Bool) (event : Event) (r : Turned S) : Type 0 where
    pub births : r.machine.births ≡ births_after (is_ran r.kind && drawn) m.births
    pub others : (u : ℕ) → (u == t) ≡ false → u < m.started → r.machine.threads u ≡ m.threads u
    pub executes : is_ran r.kind ≡ true → r.machine.end ≡ None → (n : Local S) × (r.machine.threads t ≡ Some n)
        × (n.state ≡ a.after l.state (reply_of m event))
    pub own : (e : End) → r.machine.end ≡ Some e → (is_own_end e ≡ true) ⊎ (event ≡ Stop e)
    pub stands : (e : End) → r.machine.end ≡ Some e → r.machine.threads ≡ m.threads
    pub waits : r.machine.end ≡ None → r.machine.waits t ≡ waits_after m t r.kind
    pub waits_else : (u : ℕ) → (u == t) ≡ false → r.machine.waits u ≡ m.waits u

  no_end : {X : Type 0} (e : End) → m.end ≡ Some e → X
  no_end e h = absurd (none-some e (sym goes ∙ h))

  -- nothing of the threads changes
  still : (kind : TurnKind) (drawn : Bool) (event : Event) (q : Machine S) → is_ran kind ≡ false → q.births ≡ m.births → q.threads ≡ m.threads → q.end ≡ m.end
      → q.waits t ≡ waits_after m t kind → ((u : ℕ) → (u == t) ≡ false → q.waits u ≡ m.waits u) → Row drawn event (record { machine = q; kind = kind })
  still kind drawn event q k b ts e w v = record {
    births = b ∙ sym (ap (λ c. births_after (c && drawn) m.births) k);
    others = λ u n h. ap (λ f. f u) ts;
    executes = λ h i. absurd (false≢true (sym k ∙ h));
    own = λ f h. no_end f (sym e ∙ h);
    stands = λ f h. no_end f (sym e ∙ h);
    waits = λ h. w;
    waits_else = v;
  }

  halt : (e : End) (event : Event) → (is_own_end e ≡ true) ⊎ (event ≡ Stop e) → Row false event (halts t m e)
  halt e event own = record {
    births = refl;
    others = λ u n h. refl;
    executes = λ h q. absurd (none-some e (sym q));
    own = λ f h. subst (λ z. (is_own_end z ≡ true) ⊎ (event ≡ Stop z)) (same_Some e f h) own;
    stands = λ f h. refl;
    waits = λ h. absurd (none-some e (sym h));
    waits_else = λ u n. refl;
  }

  either : (drawn : Bool) (event : Event) (b : Bool) (x y : Turned S) → Row drawn event x → Row drawn event y → Row drawn event (cond b x y)
  either drawn event true x y f g = f
  either drawn event false x y f g = g

  -- the thread's step, whatever else of the machine changes
  step : (event : Event) (l' : Local S) (q : Machine S) → q.births ≡ m.births → q.threads ≡ update m.threads t (Some l') → q.end ≡ m.end
      → q.waits ≡ update m.waits t no_waits → l'.state ≡ a.after l.state (reply_of m event) → Row false event (ran q)
  step event l' q b ts e w s = record {
    births = b;
    others = λ u n h. ap (λ f. f u) ts ∙ update_elsewhere m.threads t (Some l') u n;
    executes = λ h i. (l', ap (λ f. f t) ts ∙ update_same m.threads t (Some l'), s);
    own = λ f h. no_end f (sym e ∙ h);
    stands = λ f h. no_end f (sym e ∙ h);
    waits = λ h. ap (λ f. f t) w ∙ update_same m.waits t no_waits;
    waits_else = λ u n. ap (λ f. f u) w ∙ update_elsewhere m.waits t no_waits u n;
  }

  -- a change of the thread that is no step
  change : (kind : TurnKind) (event : Event) (l' : Local S) (q : Machine S) → is_ran kind ≡ false → q.births ≡ m.births
      → q.threads ≡ update m.threads t (Some l') → q.end ≡ m.end → q.waits ≡ update m.waits t no_waits → waits_after m t kind ≡ no_waits
      → Row false event (record { machine = q; kind = kind })
  change kind event l' q k b ts e w v = record {
    births = b ∙ sym (ap (λ c. births_after (c && false) m.births) k);
    others = λ u n h. ap (λ f. f u) ts ∙ update_elsewhere m.threads t (Some l') u n;
    executes = λ h i. absurd (false≢true (sym k ∙ h));
    own = λ f h. no_end f (sym e ∙ h);
    stands = λ f h. no_end f (sym e ∙ h);
    waits = λ h. ap (λ f. f t) w ∙ (update_same m.waits t no_waits ∙ sym v);
    waits_else = λ u n. ap (λ f. f u) w ∙ update_elsewhere m.waits t no_waits u n;
  }

  -- thread t waits one turn more
  waits_row : (event : Event) (x u : ℕ) → Row false event (waited t m x u)
  waits_row event x u =
      let more = wait_more (m.waits t) x (birth_of (m.threads u)) in
      still (Waited x u) false event _ refl refl refl refl (update_same m.waits t more) (λ v n. update_elsewhere m.waits t more v n)

  load_out_row : (addr size : ℕ) (vol : Bool) (o : Option ℕ) → Row false (Load addr size vol) (load_out a t m l addr size o)
  load_out_row addr size vol (Some u) = waits_row (Load addr size vol) (word_of addr) u
  load_out_row addr size vol None = step (Load addr size vol)
      (record l { state = a.after l.state (Loaded (load m.memory addr size)) }) _ refl refl refl refl refl

  store_out_row : (addr size value : ℕ) (vol : Bool) (o : Option ℕ) → Row false (Store addr size value vol) (store_out a t m l addr size value o)
  store_out_row addr size value vol (Some u) = waits_row (Store addr size value vol) (word_of addr) u
  store_out_row addr size value vol None = step (Store addr size value vol) (record l { state = a.after l.state Nothing }) _ refl refl refl refl refl

  join_row : (id : ℤ) (o : Option (Local S)) → Row false (Join id) (joins t id m (record l { state = a.after l.state Nothing }) o)
  join_row id None = halt (Trapped BadJoin) (Join id) (inl refl)
  join_row id (Some u) = either false (Join id) u.ended _ _ (step (Join id) (record l { state = a.after l.state Nothing }) _ refl refl refl refl refl)
      (still (JoinWait (number_of id)) false (Join id) _ refl refl refl refl refl (λ v n. refl))

  idle_row : (o : Option ℕ) → Row false BeginSync (sync_idle t m (record l { state = a.after l.state Nothing }) o)
  idle_row (Some u) = still (BlockWait u) false BeginSync _ refl refl refl refl refl (λ v n. refl)
  idle_row None = step BeginSync (record l { state = a.after l.state Nothing }) _ refl refl refl refl refl

  sync_row : (o : Option ℕ) → Row false BeginSync (sync_in t m (record l { state = a.after l.state Nothing }) o)
  sync_row (Some u) = still (BlockWait u) false BeginSync _ refl refl refl refl refl (λ v n. refl)
  sync_row None = idle_row (busy t m)

  begin_row : (kind : BlockKind) (o : Option ℕ) → Row true (BeginAtomic kind) (begins t m l (a.after l.state Nothing) o)
  begin_row kind (Some u) = still (BlockWait u) true (BeginAtomic kind) _ refl refl refl refl refl (λ v n. refl)
  begin_row kind None =
      let l' : Local S = record l { state = a.after l.state Nothing; tx = OpenTx m.births (a.after l.state Nothing) (no_save ∷ []) } in
      record {
        births = refl;
        others = λ u n h. update_elsewhere m.threads t (Some l') u n;
        executes = λ h i. (l', update_same m.threads t (Some l'), refl);
        own = λ e h. no_end e h;
        stands = λ e h. no_end e h;
        waits = λ h. update_same m.waits t no_waits;
        waits_else = λ u n. update_elsewhere m.waits t no_waits u n;
      }

  spawn_row : (f : ℕ) (x : ℤ)
      → Row false (Spawn f x) (ran (spawns t m (record l { state = a.after l.state (Id (pos m.started)) }) (a.child l.state m.started f x)))
  spawn_row f x =
      let l' : Local S = record l { state = a.after l.state (Id (pos m.started)) } in
      let more = update m.threads m.started (Some (bare (a.child l.state m.started f x))) in
      record {
        births = refl;
        others = λ u n h. update_elsewhere more t (Some l') u n ∙ update_elsewhere m.threads m.started (Some (bare (a.child l.state m.started f x))) u
            (ne_eqb u m.started (λ e. absurd (omega (arith, e, h))));
        executes = λ h i. (l', update_same more t (Some l'), refl);
        own = λ e h. no_end e h;
        stands = λ e h. no_end e h;
        waits = λ h. update_same m.waits t no_waits;
        waits_else = λ u n. update_elsewhere m.waits t no_waits u n;
      }

  out_row : (e : Event) → Row (is_begin e) e (out_does a p t m l e)
  out_row Silent = step Silent (record l { state = a.after l.state Nothing }) _ refl refl refl refl refl
  out_row (Load addr size vol) = either false (Load addr size vol) (can_access p addr size) _ _ (load_out_row addr size vol (blocker t false (word_of addr) m))
      (halt (Trapped BadAddress) (Load addr size vol) (inl refl))
  out_row (Store addr size value vol) = either false (Store addr size value vol) (can_access p addr size) _ _
      (store_out_row addr size value vol (blocker t true (word_of addr) m)) (halt (Trapped BadAddress) (Store addr size value vol) (inl refl))
  out_row (BeginAtomic kind) = begin_row kind (lock_owner t m.lock.holder)
  out_row EndAtomic = still Idle false EndAtomic _ refl refl refl refl refl (λ v n. refl)
  out_row (Raise kind can) = still Idle false (Raise kind can) _ refl refl refl refl refl (λ v n. refl)
  out_row BeginSync = sync_row (lock_owner t m.lock.holder)
  out_row EndSync = step EndSync (record l { state = a.after l.state Nothing }) _ refl refl refl refl refl
  out_row (Spawn f x) = either false (Spawn f x) (nat_lt m.started p.limit) _ _ (spawn_row f x) (halt (Trapped TooManyThreads) (Spawn f x) (inl refl))
  out_row (Join id) = join_row id (target t id m.threads)
  out_row (Out byte) = step (Out byte) (record l { state = a.after l.state Nothing }) _ refl refl refl refl refl
  out_row Inp = step Inp (record l { state = a.after l.state (Byte (byte_of m.input)) }) _ refl refl refl refl refl
  out_row Done = step Done (record l { state = a.after l.state Nothing; ended = true }) _ refl refl refl refl refl
  out_row (Stop e) = halt e (Stop e) (inr refl)

  module _ (b : ℕ) (kk : S) (ss : List Save) where
    clash_row : (event : Event) (choice : Choice) (x u : ℕ) → Row false event (clashes p choice t m l b kk ss x u)
    clash_row event Wait x u = waits_row event x u
    clash_row event Yield x u = change (Rolled x u) event (gives_up l b kk ss (least l.held (word_bound p))) _ refl refl refl refl refl refl

    load_in_row : (answer : Clash → Choice) (addr size : ℕ) (vol : Bool) (o : Option ℕ)
        → Row false (Load addr size vol) (load_in a p answer t m l b kk ss addr size o)
    load_in_row answer addr size vol (Some u) = clash_row (Load addr size vol) (answer (clash_of t false (word_of addr) m b u)) (word_of addr) u
    load_in_row answer addr size vol None = step (Load addr size vol)
        (record l {
          state = a.after l.state (Loaded (load m.memory addr size));
          held = update l.held (word_of addr) true;
          tx = OpenTx b kk ss;
        }) _ refl refl refl refl refl

    store_in_row : (answer : Clash → Choice) (addr size value : ℕ) (vol : Bool) (o : Option ℕ)
        → Row false (Store addr size value vol) (store_in a p answer t m l b kk ss addr size value o)
    store_in_row answer addr size value vol (Some u) = clash_row (Store addr size value vol) (answer (clash_of t true (word_of addr) m b u)) (word_of addr) u
    store_in_row answer addr size value vol None = step (Store addr size value vol)
        (record l {
          state = a.after l.state Nothing;
          held = update l.held (word_of addr) true;
          wrote = update l.wrote (word_of addr) true;
          tx = OpenTx b kk (note ss (word_of addr) (m.memory (word_of addr)));
        }) _ refl refl refl refl refl

    -- leaving a block, where the event is answered by nothing
    module _ (event : Event) (nothing : reply_of m event ≡ Nothing) where
      after_it : a.after l.state Nothing ≡ a.after l.state (reply_of m event)
      after_it = ap (a.after l.state) (sym nothing)

      outermost_row : Row false event (outermost p t m l (a.after l.state Nothing) b)
      outermost_row = step event (record l { state = a.after l.state Nothing; tx = closes b (least l.held (word_bound p)) }) _ refl refl refl refl after_it

      commits_row : (ts : List Save) → Row false event (commits p t m l (a.after l.state Nothing) b kk ts)
      commits_row [] = still Idle false event _ refl refl refl refl refl (λ v n. refl)
      commits_row (n ∷ []) = outermost_row
      commits_row (n ∷ o ∷ ts) = step event (record l { state = a.after l.state Nothing; tx = OpenTx b kk (hand n o ∷ ts) }) _ refl refl refl refl after_it

      cancels_by_row : (n : Save) (ts : List Save) (o : Option ℕ) → Row false event (cancels_by p t m l (a.after l.state Nothing) b kk n ts o)
      cancels_by_row n ts (Some x) = change (Undone x) event (record l { tx = OpenTx b kk (forget n x ∷ ts) }) _ refl refl refl refl refl refl
      cancels_by_row n [] None = outermost_row
      cancels_by_row n (o ∷ ts) None = step event (record l { state = a.after l.state Nothing; tx = OpenTx b kk (o ∷ ts) }) _ refl refl refl refl after_it

      cancels_row : (ts : List Save) → Row false event (cancels p t m l (a.after l.state Nothing) b kk ts)
      cancels_row [] = still Idle false event _ refl refl refl refl refl (λ v n. refl)
      cancels_row (n ∷ ts) = cancels_by_row n ts (least (is_noted n) (word_bound p))

      raises_row : (kind : BlockKind) (can : Bool) → Row false event (raises p t m l (a.after l.state Nothing) b kk ss kind can)
      raises_row NoExcept can = halt Abort event (inl refl)
      raises_row Commit can = commits_row ss
      raises_row Cancel true = cancels_row ss
      raises_row Cancel false = halt Abort event (inl refl)

    -- a step inside the block, with these savepoints
    inner : (event : Event) (z : Tx S) → reply_of m event ≡ Nothing → Row false event (ran (steps t m (record l { state = a.after l.state Nothing; tx = z })))
    inner event z nothing = step event (record l { state = a.after l.state Nothing; tx = z }) _ refl refl refl refl (ap (a.after l.state) (sym nothing))

    in_row : (answer : Clash → Choice) (e : Event) → Row false e (in_does a p answer t m l b kk ss e)
    in_row answer Silent = inner Silent (OpenTx b kk ss) refl
    in_row answer (Load addr size vol) = either false (Load addr size vol) (can_access p addr size) _ _
        (load_in_row answer addr size vol (blocker t false (word_of addr) m)) (halt (Trapped BadAddress) (Load addr size vol) (inl refl))
    in_row answer (Store addr size value vol) = either false (Store addr size value vol) (can_access p addr size) _ _
        (store_in_row answer addr size value vol (blocker t true (word_of addr) m)) (halt (Trapped BadAddress) (Store addr size value vol) (inl refl))
    in_row answer (BeginAtomic kind) = inner (BeginAtomic kind) (OpenTx b kk (no_save ∷ ss)) refl
    in_row answer EndAtomic = commits_row EndAtomic refl ss
    in_row answer (Raise kind can) = raises_row (Raise kind can) refl kind can
    in_row answer BeginSync = inner BeginSync (OpenTx b kk ss) refl
    in_row answer EndSync = inner EndSync (OpenTx b kk ss) refl
    in_row answer (Stop e) = halt e (Stop e) (inr refl)
    in_row answer (Spawn f x) = still Idle false (Spawn f x) _ refl refl refl refl refl (λ v n. refl)
    in_row answer (Join id) = still Idle false (Join id) _ refl refl refl refl refl (λ v n. refl)
    in_row answer (Out byte) = still Idle false (Out byte) _ refl refl refl refl refl (λ v n. refl)
    in_row answer Inp = still Idle false Inp _ refl refl refl refl refl (λ v n. refl)
    in_row answer Done = still Idle false Done _ refl refl refl refl refl (λ v n. refl)

  back_row : (event : Event) (b : ℕ) (kk : S) (ss : List Save) (o : Option ℕ) → Row false event (gives_back p t m l b kk ss o)
  back_row event b kk ss None = still Idle false event _ refl refl refl refl refl (λ v n. refl)
  back_row event b kk ss (Some x) = change (Undone x) event (given_back l b kk ss x (least (without l.held x) (word_bound p))) _ refl refl refl refl refl refl

  go_row : (event : Event) (b : ℕ) (o : Option ℕ) → Row false event (lets_go p t m l b o)
  go_row event b None = still Idle false event _ refl refl refl refl refl (λ v n. refl)
  go_row event b (Some x) = change (Released x) event
      (record l {
        held = without l.held x;
        wrote = without l.wrote x;
        tx = closes b
            (least (without l.held x) (word_bound p));
      }) _ refl refl refl refl refl refl

  abbrev at_begin : Tx S → Bool
  at_begin NoTx = is_begin (a.next l.state)
  at_begin (OpenTx b k ss) = false
  at_begin (GivingUp b k ss) = false
  at_begin (Closing b) = false

  tx_row : (answer : Clash → Choice) (tx : Tx S) → Row (at_begin tx) (a.next l.state) (turn_in a p answer t m l tx)
  tx_row answer NoTx = out_row (a.next l.state)
  tx_row answer (OpenTx b kk ss) = in_row b kk ss answer (a.next l.state)
  tx_row answer (GivingUp b kk ss) = back_row (a.next l.state) b kk ss (least l.held (word_bound p))
  tx_row answer (Closing b) = go_row (a.next l.state) b (least l.held (word_bound p))

  and_false : (b : Bool) → (b && false) ≡ false
  and_false true = refl
  and_false false = refl

  drawn_is : (tx : Tx S) (kind : TurnKind) → (is_ran kind && at_begin tx) ≡ draws a l tx kind
  drawn_is NoTx kind = refl
  drawn_is (OpenTx b k ss) kind = and_false (is_ran kind)
  drawn_is (GivingUp b k ss) kind = and_false (is_ran kind)
  drawn_is (Closing b) kind = and_false (is_ran kind)

  -- the birth that is drawn is the transaction's
  drawn_birth : (answer : Clash → Choice) (tx : Tx S) (e : Event) → tx ≡ NoTx → a.next l.state ≡ e → is_begin e ≡ true
      → is_ran (turn_in a p answer t m l tx).kind ≡ true → birth_of ((turn_in a p answer t m l tx).machine.threads t) ≡ m.births
  drawn_birth answer tx (BeginAtomic kind) none next h k =
      let is : turn_in a p answer t m l tx ≡ begins t m l (a.after l.state Nothing) (lock_owner t m.lock.holder) = ap (turn_in a p answer t m l) none
      ∙ ap (out_does a p t m l) next in
      subst (λ r. birth_of (r.machine.threads t) ≡ m.births) (sym is) (by_lock (lock_owner t m.lock.holder) (sym (ap (λ r. is_ran r.kind) is) ∙ k))
    where
      by_lock : (o : Option ℕ) → is_ran (begins t m l (a.after l.state Nothing) o).kind ≡ true
          → birth_of ((begins t m l (a.after l.state Nothing) o).machine.threads t) ≡ m.births
      by_lock (Some u) q = absurd (false≢true q)
      by_lock None q = ap birth_of
          (update_same m.threads t (Some (record l { state = a.after l.state Nothing; tx = OpenTx m.births (a.after l.state Nothing) (no_save ∷ []) })))
  drawn_birth answer tx Silent none next h k = absurd (false≢true h)
  drawn_birth answer tx (Load addr size vol) none next h k = absurd (false≢true h)
  drawn_birth answer tx (Store addr size value vol) none next h k = absurd (false≢true h)
  drawn_birth answer tx (Out byte) none next h k = absurd (false≢true h)
  drawn_birth answer tx Inp none next h k = absurd (false≢true h)
  drawn_birth answer tx (Spawn f x) none next h k = absurd (false≢true h)
  drawn_birth answer tx (Join id) none next h k = absurd (false≢true h)
  drawn_birth answer tx EndAtomic none next h k = absurd (false≢true h)
  drawn_birth answer tx (Raise kind can) none next h k = absurd (false≢true h)
  drawn_birth answer tx BeginSync none next h k = absurd (false≢true h)
  drawn_birth answer tx EndSync none next h k = absurd (false≢true h)
  drawn_birth answer tx Done none next h k = absurd (false≢true h)
  drawn_birth answer tx (Stop e) none next h k = absurd (false≢true h)

  draws_birth : (answer : Clash → Choice) (tx : Tx S) → draws a l tx (turn_in a p answer t m l tx).kind ≡ true
      → birth_of ((turn_in a p answer t m l tx).machine.threads t) ≡ m.births
  draws_birth answer NoTx h =
      let both = and_parts (is_ran (turn_in a p answer t m l NoTx).kind) (is_begin (a.next l.state)) h in
      drawn_birth answer NoTx (a.next l.state) refl refl both.1 both.0
  draws_birth answer (OpenTx b k ss) h = absurd (false≢true h)
  draws_birth answer (GivingUp b k ss) h = absurd (false≢true h)
  draws_birth answer (Closing b) h = absurd (false≢true h)

module _ {S : Type 0} (a : Thread S) (p : MemoryLayout) (answer : Clash → Choice) (t : ℕ) (m : Machine S) (l : Local S) (goes : GoesOn t m l) where
  row : Row a p t m l goes.going (at_begin a p t m l goes.going l.tx) (a.next l.state) (turn a p answer t m)
  row = subst (Row a p t m l goes.going (at_begin a p t m l goes.going l.tx) (a.next l.state)) (sym (turn_is a p answer t m l goes))
      (tx_row a p t m l goes.going answer l.tx)

  pub others_stay : (u : ℕ) → (u == t) ≡ false → u < m.started → (turn a p answer t m).machine.threads u ≡ m.threads u
  others_stay = row.others

  pub ran_executes : (turn a p answer t m).kind ≡ Ran → (turn a p answer t m).machine.end ≡ None → Executes a t m l (turn a p answer t m)
  ran_executes k e = let x = row.executes (ap is_ran k) e in record { now = x.0; is = x.1; state = x.2 }

  pub births_drawn : (turn a p answer t m).machine.births ≡ births_after (draws a l l.tx (turn a p answer t m).kind) m.births
  births_drawn = row.births ∙ ap (λ b. births_after b m.births) (drawn_is a p t m l goes.going l.tx (turn a p answer t m).kind)

  pub draws_own : draws a l l.tx (turn a p answer t m).kind ≡ true → birth_of ((turn a p answer t m).machine.threads t) ≡ m.births
  draws_own = subst (λ r. draws a l l.tx r.kind ≡ true → birth_of (r.machine.threads t) ≡ m.births) (sym (turn_is a p answer t m l goes))
      (draws_birth a p t m l goes.going answer l.tx)

  pub end_own : (e : End) → (turn a p answer t m).machine.end ≡ Some e → (is_own_end e ≡ true) ⊎ (a.next l.state ≡ Stop e)
  end_own = row.own

  pub end_stays : (e : End) → (turn a p answer t m).machine.end ≡ Some e → (turn a p answer t m).machine.threads ≡ m.threads
  end_stays = row.stands

  pub waits_counted : (turn a p answer t m).machine.end ≡ None → (turn a p answer t m).machine.waits t ≡ waits_after m t (turn a p answer t m).kind
  waits_counted = row.waits

  pub waits_stay : (u : ℕ) → (u == t) ≡ false → (turn a p answer t m).machine.waits u ≡ m.waits u
  waits_stay = row.waits_else
