-- Turn after turn, what is kept is the trace of the order.
use Rattle.std.proofs.Common.{
  ℕ,
  zero,
  suc,
  ◌≡◌,
  ◌==◌,
  ◌≤◌,
  ◌⊎◌,
  inl,
  inr,
  Bool,
  true,
  false,
  cond,
  refl,
  ap,
  sym,
  ◌∙◌,
  subst,
  List,
  [],
  ◌∷◌,
  ◌++◌,
  append-nil,
  Option,
  Some,
  None,
  arith,
}
use Rattle.std.specs.Option.{option_map}
use Rattle.std.proofs.Math.Path.{fun_ext}
use Rattle.std.proofs.lemmas.Bool.{true≢false, eqb-true}
use Rattle.std.proofs.lemmas.Option.{none-some}
use Rattle.choosers.specs.declared.Clash.{Clash}
use Rattle.choosers.specs.declared.Choice.{Choice}
use Rattle.tx_events.specs.declared.End.{End}
use Rattle.tx_events.specs.declared.TheConstants.{THREAD_LIMIT}
use Rattle.tx_events.specs.declared.Event.{Event}
use Rattle.tx_events.specs.declared.Item.{Item}
use Rattle.tx_events.specs.declared.TurnKind.TheVariants.{Idle}
use Rattle.tx_events.specs.Thread.{Thread, Lawful, atomics, may_come}
use Rattle.tx_events.specs.Memory.{MemoryLayout}
use Rattle.tx_events.specs.World.{World, Alive, Step, Replays, first_world}
use Rattle.tx_events.proofs.OneReplay.{same_replays}
use Rattle.tx_serial.specs.Machine.{Machine, Local, Tx, NoTx, OpenTx, GivingUp, Closing}
use Rattle.tx_serial.specs.Turn.{Slot, Turned, stays, turn_in, turn, turns, first_machine, first_thread}
use Rattle.tx_serial.specs.Kinds.{GoesOn}
use Rattle.tx_serial.specs.Order.{adds, order_after}
use Rattle.tx_serial.specs.Run.{state_in}
use Rattle.tx_serial.specs.Sound.{Sound, SoundTx, SoundLocal, SoundThread}
use Rattle.tx_serial.specs.Shows.{ShowsThread, ShowsLocal}
use Rattle.tx_serial.specs.Trace.{step_items, items_of, TraceOf}
use Rattle.tx_serial.proofs.WorldAgreement.{Agreed, Going}
use Rattle.tx_serial.proofs.WorldKept.{turn_kept, start_shown}
use Rattle.tx_serial.proofs.SoundKept.{turn_sound, start_sound}
use Rattle.tx_serial.proofs.PutBack.{memory_put_back}
use Rattle.tx_serial.proofs.OrderGains.{order_grows}
use Rattle.tx_serial.proofs.OneTrace.{one_trace, split}
use Rattle.tx_serial.proofs.KindConditions.{turn_is, idle_exact}
use Rattle.tx_serial.proofs.HistoryErased.{erase, erase_tx, erase_local, erase_opt, turns_erased, first_erased}
use Rattle.turn_traces.specs.Keeping.{
  Kept,
  Keeping,
  not_kept,
  kept_told,
  items_told,
  started_told,
  shown,
  told_of,
  told_at,
  keep_turn,
  keep,
}
use Rattle.turn_traces.proofs.Notes.{Note, no_note, note_in, noted, Reached, noted_laws, Counts}
use Rattle.turn_traces.proofs.Rows.{Fresh, Row, KeptTx, KeptBy, Deep, tx_row}
use Rattle.turn_traces.proofs.ReachedWorlds.{replays_reached, start_reached}
use Rattle.turn_traces.proofs.KeptTraces.{Gains, back_same, saved_length, turn_gains}

-- an idle turn keeps everything
record SameKept (k k' : Keeping) : Type 0 where
  items : k'.items ≡ k.items
  started : k'.started ≡ k.started
  threads : (u : ℕ) → k'.threads u ≡ k.threads u

idle_keeps : (k : Keeping) (t : ℕ) (o : Option Event) (end : Option End) → SameKept k (told_at (shown k t o) o Idle end)
idle_keeps k t None end = record { items = refl; started = refl; threads = λ u. refl }
idle_keeps k t (Some e) end = record {
  items = append-nil k.items;
  started = refl;
  threads = λ u. elim (u == t) as (λ b. (u == t) ≡ b → cond b (k.threads t) (k.threads u) ≡ k.threads u) [
    | true ↦ λ i. ap k.threads (sym (eqb-true u t i))
    | false ↦ λ i. refl
  ] refl;
}

module _ {S : Type 0} (R : S → Type 0) (a : Thread S) (laws : Lawful S R a) (p : MemoryLayout) (small : p.limit ≤ THREAD_LIMIT) (memory : ℕ → ℕ)
    (input : List ℕ) (main : S) (reached : R main) where
  abbrev C : Thread (S × Note)
  C = noted a

  abbrev RC : S × Note → Type 0
  RC = Reached R a

  abbrev start : World S
  start = first_world memory input main

  abbrev start_noted : World (S × Note)
  start_noted = first_world memory input (main, no_note)

  -- between the machine with notes and what is kept
  record Holds (m : Machine (S × Note)) (k : Keeping) : Type 0 where
    sound : Sound RC C p m
    noted_agrees : Agreed C p start_noted m
    agrees : Agreed a p start (erase m)
    trace : TraceOf a p start m.order k.items
    started : m.end ≡ None → k.started ≡ m.started
    kept : m.end ≡ None → (u : ℕ) → KeptBy (m.threads u) (k.threads u)

  same_holds : (m : Machine (S × Note)) (k k' : Keeping) → Holds m k → SameKept k k' → Holds m k'
  same_holds m k k' h s = record {
    sound = h.sound;
    noted_agrees = h.noted_agrees;
    agrees = h.agrees;
    trace = subst (TraceOf a p start m.order) (sym s.items) h.trace;
    started = λ e. s.started ∙ h.started e;
    kept = λ e u. subst (KeptBy (m.threads u)) (sym (s.threads u)) (h.kept e u);
  }

  module _ (answer : Clash → Choice) (t : ℕ) (m : Machine (S × Note)) (k : Keeping) (h : Holds m k) where
    abbrev after : Machine (S × Note)
    after = (turn C p answer t m).machine

    abbrev plain : Turned S
    plain = turn a p answer t (erase m)

    erased : erase after ≡ plain.machine
    erased = turns_erased no_note (λ n e r. note_in e n) a p (record { thread = t; answer = answer } ∷ []) m

    abbrev Next : Type 0
    Next = Holds after (keep_turn a p (record { thread = t; answer = answer }) (erase m) k)

    idle : ((l : Local (S × Note)) → GoesOn t m l → ⊥) → Next
    idle never =
        let noted_idle : turn C p answer t m ≡ stays Idle m = idle_exact C p answer t m never in
        let plain_idle : plain ≡ stays Idle (erase m) = idle_exact a p answer t (erase m) (λ l g. never_noted l g (m.threads t) refl) in
        let o = option_map a.next (state_in ((erase m).threads t)) in
        subst (λ r. Holds r.machine (keep_turn a p (record { thread = t; answer = answer }) (erase m) k)) (sym noted_idle)
        (subst (λ r. Holds m (told_at (shown k t o) o r.kind r.machine.end)) (sym plain_idle)
        (same_holds m k (told_at (shown k t o) o Idle m.end) h (idle_keeps k t o m.end)))
      where
        never_noted : (l : Local S) → GoesOn t (erase m) l → (o : Option (Local (S × Note))) → m.threads t ≡ o → ⊥
        never_noted l g None i = none-some l (sym (ap erase_opt i) ∙ g.is)
        never_noted l g (Some n) i = never n (record {
          going = g.going;
          is = i;
          up = ap (λ v. v.ended) (one (erase_local n) l (sym (ap erase_opt i) ∙ g.is))
              ∙ g.up;
        })
          where
            one : (v w : Local S) → Some v ≡ Some w → v ≡ w
            one v w e = cc

    module _ (l : Local (S × Note)) (g : GoesOn t m l) where
      abbrev e : Event
      e = a.next l.state.0

      abbrev x : Kept
      x = k.threads t

      goes : GoesOn t (erase m) (erase_local l)
      goes = record { going = g.going; is = ap erase_opt g.is; up = g.up }

      here : SoundLocal RC C p l
      here = subst (SoundThread RC C p) g.is (h.sound.threads t)

      keeps : KeptTx l.state.1 l.tx x
      keeps = subst (λ o. KeptBy o x) g.is (h.kept g.going t)

      noted_is : turn C p answer t m ≡ turn_in C p answer t m l l.tx
      noted_is = turn_is C p answer t m l g

      plain_is : plain ≡ turn_in a p answer t (erase m) (erase_local l) (erase_tx l.tx)
      plain_is = turn_is a p answer t (erase m) (erase_local l) goes

      may : may_come e l.state.1.blocks ≡ true
      may = ap (may_come e) here.reached.blocks ∙ laws.comes l.state.0 here.reached.reached

      deep_so : (tx : Tx (S × Note)) → KeptTx l.state.1 tx x → SoundTx RC C p l tx → Deep l.state.1 x tx
      deep_so NoTx kept sound = ap atomics here.reached.blocks ∙ sound.0
      deep_so (OpenTx b n ss) kept sound = (
        ap (λ z. z == 0) (kept.0.atomic ∙ (ap atomics here.reached.blocks ∙ sound.1)) ∙ saved_length ss sound.2,
        ap atomics sound.0.0.blocks ∙ sound.0.1,
      )
      deep_so (GivingUp b n ss) kept sound = ap atomics sound.0.0.blocks ∙ sound.0.1
      deep_so (Closing b) kept sound = ap atomics here.reached.blocks ∙ sound.0

      row : Row a p t m l g.going x g.is (h.kept g.going t) may e (turn C p answer t m) plain
      row = subst (λ r. Row a p t m l g.going x g.is (h.kept g.going t) may e r plain) (sym noted_is)
          (subst (Row a p t m l g.going x g.is (h.kept g.going t) may e (turn_in C p answer t m l l.tx)) (sym plain_is)
          (tx_row a p t m l g.going x g.is (h.kept g.going t) may answer l.tx refl keeps (deep_so l.tx keeps here.tx)))

      -- the world that the machine agrees with
      abbrev w : World S
      w = h.agrees.0

      going : Going a p m.memory (erase m).threads m.started m.lock w
      going = h.agrees.2.going g.going

      noted_going : Going C p m.memory m.threads m.started m.lock h.noted_agrees.0
      noted_going = h.noted_agrees.2.going g.going

      memories : h.noted_agrees.0.memory ≡ w.memory
      memories = fun_ext (λ z. memory_put_back C p m.memory m.threads m.started m.lock h.noted_agrees.0 noted_going z
          ∙ (sym (back_same m.threads m.started z (m.memory z))
          ∙ sym (memory_put_back a p m.memory (erase m).threads m.started m.lock w going z)))

      alive_at : {X : Type 0} (b : Thread X) (n out : ℕ → ℕ) (v : Local X) (o : Option (Alive X)) → ShowsThread b p n out (Some v) o
          → (y : Alive X) × (o ≡ Some y) × ShowsLocal b p n out v y
      alive_at b n out v None f = absurd f
      alive_at b n out v (Some y) f = (y, refl, f)

      abbrev items : List Item
      items = items_told t k.started e plain.kind plain.machine.end x

      gains : Gains a p t w (adds a t (erase_local l) (erase_tx l.tx) plain) items
      gains =
          let noted_at = alive_at C m.memory h.noted_agrees.0.memory l (h.noted_agrees.0.threads t)
          (subst (λ o. ShowsThread C p m.memory h.noted_agrees.0.memory o (h.noted_agrees.0.threads t)) g.is (noted_going.shown t)) in
          let at = alive_at a m.memory w.memory (erase_local l) (w.threads t)
          (subst (λ o. ShowsThread a p m.memory w.memory o (w.threads t)) goes.is (going.shown t)) in
          subst (λ (r : Turned S). Gains a p t w (adds a t (erase_local l) (erase_tx l.tx) r) (items_told t k.started e r.kind r.machine.end x)) (sym plain_is)
          (turn_gains R a laws p small answer t m l x k.started g.going here w going
          (replays_reached R a laws p small m.order start w (start_reached R a laws p small memory input main reached) h.agrees.1)
          h.noted_agrees.0.memory memories at.0 at.1 (h.started g.going) l.tx noted_at.0.state keeps here.tx noted_at.2.tx at.2.tx)

      traced : (b : Bool) → Gains a p t w b items → plain.machine.order ≡ order_after b t m.order → Agreed a p start plain.machine
          → TraceOf a p start plain.machine.order (k.items ++ items)
      traced false f order agrees = subst (λ o. TraceOf a p start o (k.items ++ items)) (sym order)
          (subst (TraceOf a p start m.order) (sym (ap (λ zs. k.items ++ zs) f ∙ append-nil k.items)) h.trace)
      traced true f order agrees =
          let more = subst (λ o. Replays a p start o agrees.0) order agrees.1 in
          let last = split a p t m.order start agrees.0 more in
          let old : items_of a p start m.order last.0 last.1 ≡ k.items
          = one_trace a p start m.order k.items (items_of a p start m.order last.0 last.1) h.trace (record { world = last.0; replays = last.1; is = refl }) in
          let new = subst (λ (z : World S). (v : World S) (s : Step a p t z v) → step_items a p t z s.before (a.next s.before) v s.does ≡ items)
          (same_replays a p m.order start w last.0 h.agrees.1 last.1) f in
          subst (λ o. TraceOf a p start o (k.items ++ items)) (sym order) (record {
            world = agrees.0;
            replays = more;
            is = sym (last.3 ∙ (ap (λ zs. zs ++ step_items a p t last.0 last.2.before (a.next last.2.before) agrees.0 last.2.does) old
                ∙ ap (λ zs. k.items ++ zs) (new agrees.0 last.2)));
          })

      next_agrees : Agreed a p start plain.machine
      next_agrees = turn_kept a p start answer t (erase m) h.agrees

      told_next : Holds after (told_of (shown k t (Some e)) e plain.kind plain.machine.end)
      told_next = record {
        sound = turn_sound RC C (noted_laws R a laws) p small answer t m h.sound;
        noted_agrees = turn_kept C p start_noted answer t m h.noted_agrees;
        agrees = subst (Agreed a p start) (sym erased) next_agrees;
        trace = subst (λ (z : Machine S). TraceOf a p start z.order (k.items ++ items)) (sym erased)
            (traced (adds a t (erase_local l) (erase_tx l.tx) plain) gains (order_grows a p answer t (erase m) (erase_local l) goes) next_agrees);
        started = λ i. ap (λ n. started_told e plain.kind plain.machine.end n) (h.started g.going) ∙ (ends_none i ∙ sym (row.started i));
        kept = λ i u. elim (u == t) as (λ b. (u == t) ≡ b
            → KeptBy (after.threads u) (cond b (kept_told e plain.kind plain.machine.end x) (k.threads u))) [
              | true ↦ λ j. subst (λ v. KeptBy (after.threads v) (kept_told e plain.kind plain.machine.end x)) (sym (eqb-true u t j))
                  (subst (KeptBy (after.threads t)) (kept_none i) (row.own i))
              | false ↦ λ j. other u (row.others u j)
            ] refl;
      } where
        end_is : after.end ≡ plain.machine.end
        end_is = ap (λ (z : Machine S). z.end) erased

        ends_none : after.end ≡ None → started_told e plain.kind plain.machine.end m.started
            ≡ started_told e (turn C p answer t m).kind None m.started
        ends_none i = ap (λ z. started_told e plain.kind z m.started) (sym end_is ∙ i) ∙ ap (λ z. started_told e z None m.started) (sym row.kind)

        kept_none : after.end ≡ None → kept_told e (turn C p answer t m).kind None x ≡ kept_told e plain.kind plain.machine.end x
        kept_none i = ap (λ z. kept_told e z None x) row.kind ∙ ap (λ z. kept_told e plain.kind z x) (sym i ∙ end_is)

        other : (u : ℕ) → (after.threads u ≡ m.threads u) ⊎ Fresh a p t m l g.going x g.is (h.kept g.going t) may u (after.threads u)
            → KeptBy (after.threads u) (k.threads u)
        other u (inl i) = subst (λ o. KeptBy o (k.threads u)) (sym i) (h.kept g.going u)
        other u (inr f) =
            let next = f.next in
            let none = h.sound.fresh u (omega (arith, next)) in
            subst (λ o. KeptBy o (k.threads u)) (sym f.is_bare)
            (subst (λ n. Counts n.blocks (k.threads u)) (sym f.no_notes) (subst (λ o. KeptBy o (k.threads u)) none (h.kept g.going u)))

      goes_on : Next
      goes_on = subst (λ o. Holds after (told_at (shown k t (option_map a.next (state_in o))) (option_map a.next (state_in o)) plain.kind plain.machine.end))
          (sym goes.is) told_next

    turn_holds : Next
    turn_holds = by_end m.end refl
      where
        by_up : (l : Local (S × Note)) → m.end ≡ None → m.threads t ≡ Some l → (b : Bool) → l.ended ≡ b → Next
        by_up l i j false up = goes_on l (record { going = i; is = j; up = up })
        by_up l i j true down = idle (λ n g. true≢false (sym down ∙ (ap (λ v. v.ended) (one l n (sym j ∙ g.is)) ∙ g.up)))
          where
            one : (v w : Local (S × Note)) → Some v ≡ Some w → v ≡ w
            one v w e = cc

        by_thread : m.end ≡ None → (o : Option (Local (S × Note))) → m.threads t ≡ o → Next
        by_thread i None j = idle (λ n g. none-some n (sym j ∙ g.is))
        by_thread i (Some l) j = by_up l i j l.ended refl

        by_end : (o : Option End) → m.end ≡ o → Next
        by_end None i = by_thread i (m.threads t) refl
        by_end (Some end) i = idle (λ n g. none-some end (sym g.going ∙ i))

  turns_hold : (qs : List Slot) (m : Machine (S × Note)) (k : Keeping) → Holds m k → Holds (turns C p qs m) (keep a p qs (erase m) k)
  turns_hold [] m k h = h
  turns_hold (q ∷ qs) m k h =
      let next = turns_hold qs (turn C p q.answer q.thread m).machine (keep_turn a p q (erase m) k) (turn_holds q.answer q.thread m k h) in
      subst (λ z. Holds (turns C p qs (turn C p q.answer q.thread m).machine) (keep a p qs z (keep_turn a p q (erase m) k)))
      (erased q.answer q.thread m k h) next

  first_holds : a.blocks main ≡ [] → Holds (first_machine memory input (main, no_note)) not_kept
  first_holds free = record {
    sound = start_sound RC C (noted_laws R a laws) p small memory input (main, no_note) (record { reached = reached; blocks = sym free }) free;
    noted_agrees = start_shown C p memory input (main, no_note);
    agrees = subst (Agreed a p start) (sym (first_erased no_note (λ n e r. note_in e n) a p memory input main)) (start_shown a p memory input main);
    trace = record { world = start; replays = refl; is = refl };
    started = λ e. refl;
    kept = λ e u. first_kept u;
  } where
    first_kept : (u : ℕ) → KeptBy (first_thread {S = S × Note} (main, no_note) u) (not_kept.threads u)
    first_kept zero = record { all = refl; atomic = refl }
    first_kept (suc u) = record { all = refl; atomic = refl }

  pub keeps_the_trace : a.blocks main ≡ [] → (qs : List Slot)
      → TraceOf a p start (turns a p qs (first_machine memory input main)).order (keep a p qs (first_machine memory input main) not_kept).items
  keeps_the_trace free qs =
      let all = turns_hold qs (first_machine memory input (main, no_note)) not_kept (first_holds free) in
      let first = first_erased no_note (λ n e r. note_in e n) a p memory input main in
      subst (λ (z : Machine S). TraceOf a p start (turns a p qs z).order (keep a p qs z not_kept).items) first
      (subst (λ (z : Machine S). TraceOf a p start z.order (keep a p qs (erase (first_machine memory input (main, no_note))) not_kept).items)
      (turns_erased no_note (λ n e r. note_in e n) a p qs (first_machine memory input (main, no_note))) all.trace)
