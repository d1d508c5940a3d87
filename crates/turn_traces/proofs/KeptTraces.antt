-- What is kept turn by turn is the trace of the order.
use Rattle.std.proofs.Common.{ℕ, zero, suc, ◌≡◌, ◌==◌, ◌≤◌, Bool, true, false, cond, refl, ap, sym, ◌∙◌, subst, length, List, [], ◌∷◌, ◌++◌, append_assoc}
use Rattle.std.proofs.Common.{Option, Some, None, is_some, arith}
use Rattle.std.specs.Prelude.{not, ◌&&◌, ◌||◌}
use Rattle.std.proofs.lemmas.Bool.{true≢false, false≢true, eq-eqb, ne_eqb}
use Rattle.std.proofs.lemmas.List.{append_cancel_left}
use Rattle.choosers.specs.declared.Clash.{Clash}
use Rattle.choosers.specs.declared.Choice.{Choice}
use Rattle.tx_events.specs.declared.End.{End}
use Rattle.tx_events.specs.declared.TheConstants.{THREAD_LIMIT}
use Rattle.tx_events.specs.declared.Event.{Event}
use Rattle.tx_events.specs.declared.Event.TheVariants.{
  Silent,
  Load,
  Store,
  Out,
  Inp,
  Spawn,
  Join,
  BeginAtomic,
  EndAtomic,
  Raise,
  BeginSync,
  EndSync,
  Done,
  Stop,
}
use Rattle.tx_events.specs.declared.Item.{Item}
use Rattle.tx_events.specs.declared.Reply.TheVariants.{Nothing}
use Rattle.tx_events.specs.declared.TurnKind.{TurnKind}
use Rattle.tx_events.specs.declared.TurnKind.TheVariants.{Ran, Waited, BlockWait, JoinWait, Rolled, Undone, Released, Idle}
use Rattle.tx_events.specs.declared.What.TheVariants.{Enter}
use Rattle.tx_events.specs.Thread.{Thread, Lawful, Open, Answers, atomics, blocks_after, may_come, is_empty, is_silent}
use Rattle.tx_events.specs.Memory.{MemoryLayout, word_bound}
use Rattle.tx_events.specs.Alone.{Inner, inner_by, Inside, begin, is_over, Alone, outcome}
use Rattle.tx_events.specs.World.{World, Alive, Step, EventStep, SilentSteps}
use Rattle.tx_events.proofs.OneReplay.{same_before, loud}
use Rattle.tx_serial.specs.Machine.{Machine, Local, Tx, NoTx, OpenTx, GivingUp, Closing, Save, least}
use Rattle.tx_serial.specs.Turn.{Turned, out_does, in_does, lets_go, gives_back, turn_in}
use Rattle.tx_serial.specs.Kinds.{is_ran}
use Rattle.tx_serial.specs.Order.{enters_order, open_in, adds}
use Rattle.tx_serial.specs.Sound.{SoundTx, SoundLocal, is_some_save}
use Rattle.tx_serial.specs.Shows.{ShowsTx, Even, Began, saves_of, put_back_by, put_back}
use Rattle.tx_serial.specs.Trace.{item_if, inside_items, leave_items, step_items}
use Rattle.tx_serial.proofs.WorldAgreement.{Going}
use Rattle.tx_serial.proofs.HistoryErased.{erase, erase_tx, erase_local, erase_opt}
use Rattle.turn_traces.specs.Keeping.{Kept, named, gained, items_told, block_so_far}
use Rattle.turn_traces.proofs.Notes.{Note, noted, Reached, Counts}
use Rattle.turn_traces.proofs.Rows.{InTx, KeptTx}
use Rattle.turn_traces.proofs.ReachedWorlds.{silents_reached}
use Rattle.turn_traces.proofs.BlockAccesses.{Bare, bare_inner, bare_run}
use Rattle.turn_traces.proofs.Gains.{out_gains, in_gains, By, block_items, whole}

-- The machine's memory with the transactions put back is the same without the notes.

saves_same : {S X : Type 0} (tx : Tx (S × X)) → saves_of (erase_tx tx) ≡ saves_of tx
saves_same NoTx = refl
saves_same (OpenTx b k ss) = refl
saves_same (GivingUp b k ss) = refl
saves_same (Closing b) = refl

back_by_same : {S X : Type 0} (o : Option (Local (S × X))) (x v : ℕ) → put_back_by (erase_opt o) x v ≡ put_back_by o x v
back_by_same None x v = refl
back_by_same (Some l) x v = ap (λ ss. put_back_by (Some (record l { tx = OpenTx 0 l.state ss })) x v) (saves_same l.tx)

pub back_same : {S X : Type 0} (f : ℕ → Option (Local (S × X))) (n x v : ℕ) → put_back (λ u. erase_opt (f u)) n x v ≡ put_back f n x v
back_same f zero x v = refl
back_same f (suc n) x v = back_by_same (f n) x (put_back (λ u. erase_opt (f u)) n x v) ∙ ap (put_back_by (f n) x) (back_same f n x v)

-- Turns that the trace gains nothing by.

not_ran : (t n : ℕ) (e : Event) (kind : TurnKind) (end : Option End) (x : Kept) → is_ran kind ≡ false → items_told t n e kind end x ≡ []
not_ran t n e Ran end x h = absurd (true≢false h)
not_ran t n e (Waited y u) end x h = refl
not_ran t n e (BlockWait u) end x h = refl
not_ran t n e (JoinWait u) end x h = refl
not_ran t n e (Rolled y u) end x h = refl
not_ran t n e (Undone y) end x h = refl
not_ran t n e (Released y) end x h = refl
not_ran t n e Idle end x h = refl

quiet_event : (t n : ℕ) (e : Event) (x : Kept) → enters_order e ≡ false → gained t n e x ≡ []
quiet_event t n Silent x h = refl
quiet_event t n (BeginAtomic kind) x h = refl
quiet_event t n (Load addr size vol) x h = absurd (true≢false h)
quiet_event t n (Store addr size value vol) x h = absurd (true≢false h)
quiet_event t n (Out c) x h = absurd (true≢false h)
quiet_event t n Inp x h = absurd (true≢false h)
quiet_event t n (Spawn f y) x h = absurd (true≢false h)
quiet_event t n (Join id) x h = absurd (true≢false h)
quiet_event t n EndAtomic x h = absurd (true≢false h)
quiet_event t n (Raise kind can) x h = absurd (true≢false h)
quiet_event t n BeginSync x h = absurd (true≢false h)
quiet_event t n EndSync x h = absurd (true≢false h)
quiet_event t n Done x h = absurd (true≢false h)
quiet_event t n (Stop e) x h = absurd (true≢false h)

quiet : (t n : ℕ) (e : Event) (kind : TurnKind) (end : Option End) (x : Kept) → (x.atomic_blocks == 0) ≡ true → enters_order e ≡ false
    → items_told t n e kind end x ≡ []
quiet t n e Ran None x flat h = quiet_event t n e x h
quiet t n e Ran (Some end) x flat h = ap (λ b. cond b [] (block_so_far t x)) flat
quiet t n e (Waited y u) end x flat h = refl
quiet t n e (BlockWait u) end x flat h = refl
quiet t n e (JoinWait u) end x flat h = refl
quiet t n e (Rolled y u) end x flat h = refl
quiet t n e (Undone y) end x flat h = refl
quiet t n e (Released y) end x flat h = refl
quiet t n e Idle end x flat h = refl

enters_loud : (e : Event) → enters_order e ≡ true → is_silent e ≡ false
enters_loud Silent h = absurd (false≢true h)
enters_loud (BeginAtomic kind) h = refl
enters_loud (Load addr size vol) h = refl
enters_loud (Store addr size value vol) h = refl
enters_loud (Out c) h = refl
enters_loud Inp h = refl
enters_loud (Spawn f y) h = refl
enters_loud (Join id) h = refl
enters_loud EndAtomic h = refl
enters_loud (Raise kind can) h = refl
enters_loud BeginSync h = refl
enters_loud EndSync h = refl
enters_loud Done h = refl
enters_loud (Stop e) h = refl

entry_is : (bs : List Open) (n : ℕ) → n ≡ suc (length bs) → (n == 1) ≡ is_empty bs
entry_is [] n e = eq-eqb n 1 e
entry_is (b ∷ bs) n e = ne_eqb n 1 (λ z. absurd (omega (arith, e, z)))

pub saved_length : (ss : List Save) → is_some_save ss ≡ true → (length ss == 0) ≡ false
saved_length [] h = absurd (false≢true h)
saved_length (s ∷ ss) h = ne_eqb (length (s ∷ ss)) 0 (λ z. absurd (omega (arith, z)))

-- where a turn adds its thread to the order, each step of that thread has these items; else they are none
abbrev pub Gains : {S : Type 0} → Thread S → MemoryLayout → ℕ → World S → Bool → List Item → Type 0
Gains {S} a p t w true items = (v : World S) (s : Step a p t w v) → step_items a p t w s.before (a.next s.before) v s.does ≡ items
Gains a p t w false items = items ≡ []

module _ {S : Type 0} (R : S → Type 0) (a : Thread S) (laws : Lawful S R a) (p : MemoryLayout) (small : p.limit ≤ THREAD_LIMIT) where
  abbrev pub C : Thread (S × Note)
  C = noted a

  abbrev pub RC : S × Note → Type 0
  RC = Reached R a

  -- the state from which a thread of the world takes its step
  one_start : {w v : World S} {t : ℕ} (s : Step a p t w v) (x : Alive S) → w.threads t ≡ Some x → s.from ≡ x.state
  one_start s x is = ap (λ z. z.state) (one_alive (record { state = s.from; ended = false }) x (sym s.is ∙ is))
    where
      one_alive : (y z : Alive S) → ◌≡◌ {A = Option (Alive S)} (Some y) (Some z) → y ≡ z
      one_alive y z e = cc

  before_is : {w v : World S} {t : ℕ} (s : Step a p t w v) (x : Alive S) → w.threads t ≡ Some x → (q : S) → SilentSteps a x.state q
      → is_silent (a.next q) ≡ false → s.before ≡ q
  before_is {w} {v} {t} s x is q f h = same_before a p x.state s.before q (subst (λ z. SilentSteps a z s.before) (one_start s x is) s.silents) f
      (loud a p t w v s.before (a.next s.before) s.does) h

  module _ (answer : Clash → Choice) (t : ℕ) (m : Machine (S × Note)) (l : Local (S × Note)) (x : Kept) (started : ℕ) (goes : m.end ≡ None)
      (here : SoundLocal RC C p l) (w : World S) (g : Going a p m.memory (erase m).threads m.started m.lock w) (all : (u : ℕ) (s : Alive S)
      → w.threads u ≡ Some s → R s.state) (outside : ℕ → ℕ) (same : outside ≡ w.memory) (y : Alive S) (at_y : w.threads t ≡ Some y)
      (count : started ≡ m.started) where
    abbrev e : Event
    e = a.next l.state.0

    abbrev Told : Turned S → List Item
    Told r = items_told t started e r.kind r.machine.end x

    blocks : l.state.1.blocks ≡ a.blocks l.state.0
    blocks = here.reached.blocks

    may : may_come e (a.blocks l.state.0) ≡ true
    may = laws.comes l.state.0 here.reached.reached

    outside_gains : Counts l.state.1.blocks x → atomics (a.blocks l.state.0) ≡ 0 → SilentSteps a y.state l.state.0
        → Gains a p t w (is_ran (out_does a p t (erase m) (erase_local l) e).kind && enters_order e) (Told (out_does a p t (erase m) (erase_local l) e))
    outside_gains counts none silents = by_kind (is_ran r.kind) (enters_order e) refl refl
      where
        r : Turned S
        r = out_does a p t (erase m) (erase_local l) e

        flat : (x.atomic_blocks == 0) ≡ true
        flat = eq-eqb x.atomic_blocks 0 (counts.atomic ∙ (ap atomics blocks ∙ none))

        by_kind : (b c : Bool) → is_ran (out_does a p t (erase m) (erase_local l) e).kind ≡ b → enters_order e ≡ c
            → Gains a p t w (b && c) (Told (out_does a p t (erase m) (erase_local l) e))
        by_kind false c i j = not_ran t started e _ _ x i
        by_kind true false i j = quiet t started e _ _ x flat j
        by_kind true true i j = λ v s.
            let before = before_is s y at_y l.state.0 silents (enters_loud e j) in
            subst (λ z. (d : EventStep a p t w z (a.next z) v) → step_items a p t w z (a.next z) v d ≡ Told (out_does a p t (erase m) (erase_local l) e))
            (sym before)
            (λ d. sym (out_gains a p t (erase m) (erase_local l) x started goes (counts.all ∙ ap length blocks) may w v g count flat e refl d j i)) s.does

    inside_gains : (b : ℕ) (k : S × Note) (ss : List Save) → Counts l.state.1.blocks x → InTx l.state.1 k.1 x → RC k
        → atomics (a.blocks l.state.0) ≡ length ss → is_some_save ss ≡ true → Began a y.state k.0
        → (i : Inner (S × Note)) → Inside C p (begin k outside) i → i.state ≡ l.state → Even ss i.copies
        → Gains a p t w (is_ran (in_does a p answer t (erase m) (erase_local l) b k.0 ss e).kind
        && (is_some (in_does a p answer t (erase m) (erase_local l) b k.0 ss e).machine.end
        || not (open_in ((in_does a p answer t (erase m) (erase_local l) b k.0 ss e).machine.threads t))))
        (Told (in_does a p answer t (erase m) (erase_local l) b k.0 ss e))
    inside_gains b k ss counts inside kept depth some began i run state even =
        by_gain _ _ (in_gains a p t (erase m) (erase_local l) x started goes (counts.all ∙ ap length blocks) may b k.0 ss (bare_inner a p t i) even deep_is deep
        (counts.atomic ∙ ap atomics blocks) answer e refl)
      where
        deep_is : x.atomic_blocks ≡ length ss
        deep_is = counts.atomic ∙ (ap atomics blocks ∙ depth)

        deep : (x.atomic_blocks == 0) ≡ false
        deep = ap (λ n. n == 0) deep_is ∙ saved_length ss some

        bare : Bare a p t (begin k outside) i
        bare = bare_run a p t run

        accesses : inside_items t bare.run ≡ named t x.accesses
        accesses = bare.items ∙ ap (named t) (append_cancel_left k.1.whats bare.whats x.accesses
            (sym bare.grows ∙ (ap (λ (z : S × Note). z.1.whats) state ∙ inside.whats)))

        reached : R began.before
        reached = silents_reached R a laws p small began.silents (all t y at_y)

        entry : (x.at_entry == 1) ≡ is_empty (a.blocks began.before)
        entry = entry_is (a.blocks began.before) x.at_entry
            (inside.entry ∙ (ap length kept.blocks ∙ (ap (λ z. length (a.blocks z)) began.kept_is
            ∙ (ap length (laws.blocks began.before Nothing reached (subst (λ z. Answers z Nothing) (sym began.begins) refl))
            ∙ ap (λ z. length (blocks_after z (a.blocks began.before))) began.begins))))

        whole_of : is_over (inner_by a p (bare_inner a p t i) e) ≡ true → (other : Alone a p k.0 w.memory)
            × (inside_items t other.run ≡ named t x.accesses) × (outcome other ≡ inner_by a p (bare_inner a p t i) e)
        whole_of over =
            let next = ap (λ (z : S × Note). inner_by a p (bare_inner a p t i) (a.next z.0)) state in
            subst (λ z. (other : Alone a p k.0 z) × (inside_items t other.run ≡ named t x.accesses) ×
            (outcome other ≡ inner_by a p (bare_inner a p t i) e)) same
            (record { last = bare_inner a p t i; run = bare.run; over = ap is_over next ∙ over }, accesses, next)

        items : (zs : List Item) → (is_over (inner_by a p (bare_inner a p t i) e) ≡ true)
            × (zs ≡ (block_so_far t x ++ leave_items (x.at_entry == 1) t (inner_by a p (bare_inner a p t i) e)))
            → (other : Alone a p k.0 w.memory) × (whole a p t w w began.before other ≡ zs)
        items zs f =
            let o = whole_of f.0 in
            let enter = item_if (x.at_entry == 1) t Enter in (
              o.0,
              ap (λ c. item_if c t Enter ++ (inside_items t o.0.run ++ leave_items c t (outcome o.0))) (sym entry)
                  ∙ (ap (λ ys. enter ++ (ys ++ leave_items (x.at_entry == 1) t (outcome o.0))) o.1
                  ∙ (ap (λ u. enter ++ (named t x.accesses ++ leave_items (x.at_entry == 1) t u)) o.2
                  ∙ (sym (append_assoc enter (named t x.accesses) (leave_items (x.at_entry == 1) t (inner_by a p (bare_inner a p t i) e))) ∙ sym f.1))),
            )

        by_gain : (c : Bool) (zs : List Item) → By a p t (erase m) (erase_local l) x started goes (counts.all ∙ ap length blocks) may b k.0 ss
            (bare_inner a p t i) even deep_is deep (counts.atomic ∙ ap atomics blocks) c (inner_by a p (bare_inner a p t i) e) zs → Gains a p t w c zs
        by_gain false zs f = f
        by_gain true zs f = λ v s.
            let o = items zs f in
            let before = before_is s y at_y began.before began.silents (ap is_silent began.begins) in
            subst (λ z. (d : EventStep a p t w z (a.next z) v) → step_items a p t w z (a.next z) v d ≡ zs) (sym before)
            (λ d. block_items a p t w v began.before k.0 began.kind began.begins began.kept_is o.0 d ∙ o.1) s.does

    back_gains : (b : ℕ) (k : S) (ss : List Save) (o : Option ℕ) → Told (gives_back p t (erase m) (erase_local l) b k ss o) ≡ []
    back_gains b k ss None = refl
    back_gains b k ss (Some z) = refl

    go_gains : (b : ℕ) (o : Option ℕ) → Told (lets_go p t (erase m) (erase_local l) b o) ≡ []
    go_gains b None = refl
    go_gains b (Some z) = refl

    pub turn_gains : (tx : Tx (S × Note)) (start : S × Note) → KeptTx l.state.1 tx x → SoundTx RC C p l tx → ShowsTx C p m.memory outside start l tx
        → ShowsTx a p m.memory w.memory y.state (erase_local l) (erase_tx tx)
        → Gains a p t w (adds a t (erase_local l) (erase_tx tx) (turn_in a p answer t (erase m) (erase_local l) (erase_tx tx)))
        (Told (turn_in a p answer t (erase m) (erase_local l) (erase_tx tx)))
    turn_gains NoTx start kept sound noted plain = outside_gains kept sound.0 plain.0
    turn_gains (OpenTx b k ss) start kept sound noted plain =
        inside_gains b k ss kept.0 kept.1 sound.0.0 sound.1 sound.2 plain.began noted.inner noted.run noted.state noted.even
    turn_gains (GivingUp b k ss) start kept sound noted plain = back_gains b k.0 ss (least l.held (word_bound p))
    turn_gains (Closing b) start kept sound noted plain = go_gains b (least l.held (word_bound p))
