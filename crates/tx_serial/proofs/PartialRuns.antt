-- What a thread that is alone has run is less than its whole run.
use Rattle.std.proofs.Common.{
  ℕ,
  zero,
  suc,
  ◌≡◌,
  ◌==◌,
  ◌≤◌,
  ◌+◌,
  ◌*◌,
  Bool,
  true,
  false,
  cond,
  refl,
  ap,
  sym,
  ◌∙◌,
  subst,
  List,
  [],
  ◌∷◌,
  Option,
  Some,
  None,
  arith,
}
use Rattle.std.proofs.lemmas.Bool.{eqb-true, true≢false, false≢true}
use Rattle.tx_events.specs.declared.TheConstants.{THREAD_LIMIT}
use Rattle.tx_events.specs.declared.End.{End}
use Rattle.tx_events.specs.declared.BlockKind.{BlockKind}
use Rattle.tx_events.specs.declared.BlockKind.TheVariants.{NoExcept, Commit, Cancel}
use Rattle.tx_events.specs.declared.Trap.TheVariants.{BadAddress, BadJoin}
use Rattle.tx_events.specs.declared.End.TheVariants.{Trapped}
use Rattle.tx_events.specs.declared.Event.{Event}
use Rattle.tx_events.specs.declared.Event.TheVariants.{
  Silent,
  Load,
  Store,
  Out,
  Inp,
  Spawn,
  Join,
  BeginAtomic,
  EndAtomic,
  Raise,
  BeginSync,
  EndSync,
  Done,
  Stop,
}
use Rattle.tx_events.specs.declared.Reply.{Reply}
use Rattle.tx_events.specs.declared.Reply.TheVariants.{Nothing, Loaded}
use Rattle.tx_events.specs.Thread.{Thread, Lawful}
use Rattle.tx_events.specs.Memory.{update, MemoryLayout, can_access, load, word_bound}
use Rattle.tx_events.specs.Alone.{
  is_over,
  outcome,
  Inner,
  inner_load,
  inner_store,
  inner_by,
  leave,
  raise,
  newest,
  begin,
  BlockStep,
  Goes,
  Leaves,
  Halts,
  Never,
  Inside,
  at_start,
  goes_on,
}
use Rattle.tx_events.specs.World.{
  Alive,
  alive,
  World,
  Step,
  Replays,
  EventStep,
  Joins,
  BlockEffect,
  target,
  goes,
  ends,
  SilentSteps,
  none,
  one_more,
  first_world,
  only_first,
}
use Rattle.tx_serial.specs.Machine.{Machine, Local, Tx, NoTx, OpenTx, GivingUp, Closing}
use Rattle.tx_serial.specs.Turn.{Slot, bare, first_thread, turns, first_machine}
use Rattle.tx_serial.specs.Shows.{ShowsTx, ShowsLocal, ShowsThread}
use Rattle.tx_serial.proofs.WorldAgreement.{Agrees, Agreed}
use Rattle.tx_events.specs.Thread.{is_silent}
use Rattle.tx_events.specs.Same.{Reaches, at_once, silently, answered}
use Rattle.tx_serial.specs.Bound.{Tally, no_tally, turns_for, is_spawn, tallied, tally_at, AtMost, zeros}
use Rattle.tx_serial.proofs.PendingWork.{is_giving}
use Rattle.tx_events.proofs.BlockRuns.{OnGoes, on_either, update_elsewhere}
use Rattle.tx_events.proofs.ReachingLemmas.{silents_reach, past_silent}
use Rattle.tx_serial.proofs.WorldKept.{turns_kept, start_shown}
use Rattle.tx_serial.proofs.SoundKept.{start_sound}
use Rattle.tx_serial.proofs.ReleaseCounts.{count_none}
use Rattle.tx_serial.proofs.AloneEnds.{Paid, Calm, all_turns, counted_laws}
use Rattle.tx_serial.proofs.TurnContext.{not_true}
use Rattle.tx_events.proofs.OneReplay.{From, at, then, inside_from, inner_or, same_before, loud, same_step}

spawn_loud : (e : Event) → is_spawn e ≡ true → is_silent e ≡ false
spawn_loud (Spawn g x) h = refl
spawn_loud Silent h = absurd (false≢true h)
spawn_loud (Load addr size vol) h = refl
spawn_loud (Store addr size value vol) h = refl
spawn_loud (Out c) h = refl
spawn_loud Inp h = refl
spawn_loud (Join id) h = refl
spawn_loud (BeginAtomic kind) h = refl
spawn_loud EndAtomic h = refl
spawn_loud (Raise kind can) h = refl
spawn_loud BeginSync h = refl
spawn_loud EndSync h = refl
spawn_loud Done h = refl
spawn_loud (Stop e) h = refl

module _ {S : Type 0} (a : Thread S) (p : MemoryLayout) where
  abbrev C : Thread (S × Tally)
  C = tallied a

  -- what was run only grows
  reach_le : {s u : S × Tally} {rs : List Reply} → Reaches C s rs u → turns_for s.1 ≤ turns_for u.1
  reach_le at_once = omega arith
  reach_le (silently i r) = let le = reach_le r in omega (arith, le)
  reach_le (answered i f r) = let le = reach_le r in omega (arith, le)

  abbrev Above : Inner (S × Tally) → Inner (S × Tally) → Type 0
  Above i k = turns_for i.state.1 ≤ turns_for k.state.1

  leave_above : (i : Inner (S × Tally)) (m : ℕ → ℕ) (cs : List (ℕ → ℕ)) → OnGoes (Above i) (leave C i m cs)
  leave_above i m [] = tt
  leave_above i m (c ∷ []) = tt
  leave_above i m (c ∷ d ∷ cs) = omega arith

  raise_above : (i : Inner (S × Tally)) (kind : BlockKind) (can : Bool) → OnGoes (Above i) (raise C i kind can)
  raise_above i NoExcept can = tt
  raise_above i Commit can = leave_above i i.memory i.copies
  raise_above i Cancel true = leave_above i (newest i.copies i.memory) i.copies
  raise_above i Cancel false = tt

  by_above : (i : Inner (S × Tally)) (e : Event) → OnGoes (Above i) (inner_by C p i e)
  by_above i Silent = omega arith
  by_above i (Load addr size vol) = on_either (Above i) (can_access p addr size) (inner_load C i addr size) (Trapped BadAddress) (omega arith)
  by_above i (Store addr size value vol) = on_either (Above i) (can_access p addr size) (inner_store C i addr size value) (Trapped BadAddress) (omega arith)
  by_above i (BeginAtomic kind) = omega arith
  by_above i EndAtomic = leave_above i i.memory i.copies
  by_above i (Raise kind can) = raise_above i kind can
  by_above i BeginSync = omega arith
  by_above i EndSync = omega arith
  by_above i (Stop e) = tt
  by_above i (Out c) = tt
  by_above i Inp = tt
  by_above i (Spawn g x) = tt
  by_above i (Join id) = tt
  by_above i Done = tt

  from_le : {i j : Inner (S × Tally)} → From C p i j → turns_for i.state.1 ≤ turns_for j.state.1
  from_le at = omega arith
  from_le {i} (then {k} e f) = let le = from_le f in let one = subst (OnGoes (Above i)) e (by_above i (C.next i.state)) in omega (arith, le, one)

  -- a part of a run is a beginning of it
  rest_silents : {s q u : S × Tally} → SilentSteps C s q → Reaches C s [] u → is_silent (C.next u) ≡ false → Reaches C q [] u
  rest_silents none g i = g
  rest_silents (one_more f e) g i = past_silent C e (rest_silents f g i) i

  after_step : {i j k : Inner (S × Tally)} → inner_by C p i (C.next i.state) ≡ Goes j → From C p i k → is_over (inner_by C p k (C.next k.state)) ≡ true
      → From C p j k
  after_step e at g = absurd (false≢true (sym (ap is_over e) ∙ g))
  after_step {i} {j} {k} e (then {k = x} e' f) g = subst (λ z. From C p z k) (ap (inner_or C p i) (sym e' ∙ e)) f

  rest_inside : {i j k : Inner (S × Tally)} → Inside C p i j → From C p i k → is_over (inner_by C p k (C.next k.state)) ≡ true → From C p j k
  rest_inside at_start f g = f
  rest_inside (goes_on h e) f g = after_step e (rest_inside h f g) g

  abbrev is_begin : Event → Bool
  is_begin (BeginAtomic kind) = true
  is_begin e = false

  module _ (w : World (S × Tally)) where
    -- before the step's last event
    top_before : (t : ℕ) (r : S × Tally) (e : Event) (v : World (S × Tally)) (d : EventStep C p t w r e v)
        → suc (turns_for r.1) ≤ turns_for (tally_at a p t w r e v d)
    top_before t r (BeginAtomic kind) v d = let le = from_le (inside_from C p d.1.run at) in omega (arith, le)
    top_before t r e v d = omega arith

    -- and within the block
    top_within : (t : ℕ) (r : S × Tally) (e : Event) (v : World (S × Tally)) (d : EventStep C p t w r e v) → is_begin e ≡ true → (j : Inner (S × Tally))
        → Inside C p (begin (C.after r Nothing) w.memory) j → suc (turns_for j.state.1) ≤ turns_for (tally_at a p t w r e v d)
    top_within t r (BeginAtomic kind) v d i j f = let le = from_le (rest_inside f (inside_from C p d.1.run at) d.1.over) in omega (arith, le)
    top_within t r e v d i j f = absurd (false≢true i)

    -- thread 0 alone is there
    abbrev Single : World (S × Tally) → Type 0
    Single z = (u : ℕ) → (u == 0) ≡ false → z.threads u ≡ None

    single_cond : (b : Bool) (x y : World (S × Tally)) → Single x → Single y → Single (cond b x y)
    single_cond true x y f g = f
    single_cond false x y f g = g

    single_to : (x v : World (S × Tally)) → v ≡ x → Single x → Single v
    single_to x v e f = subst Single (sym e) f

    module _ (one : Single w) where
      moved : (o : Option (Alive (S × Tally))) (u : ℕ) → (u == 0) ≡ false → update w.threads 0 o u ≡ None
      moved o u d = update_elsewhere w.threads 0 o u d ∙ one u d

      single_join : (s : S × Tally) (o : Option (Alive (S × Tally))) (v : World (S × Tally)) → Joins 0 w s o v → Single v
      single_join s None v h = single_to (ends w (Trapped BadJoin)) v h one
      single_join s (Some q) v h = single_to (goes 0 w s) v h.1 (moved (alive s))

      single_lands : (y : BlockStep (S × Tally)) (v : World (S × Tally)) → BlockEffect 0 w y v → Single v
      single_lands (Goes i) v h = absurd h
      single_lands Never v h = absurd h
      single_lands (Leaves s m) v h = single_to _ v h (moved (alive s))
      single_lands (Halts e) v h = single_to _ v h one

      single_after : (r : S × Tally) (e : Event) (v : World (S × Tally)) → EventStep C p 0 w r e v → is_spawn e ≡ false → Single v
      single_after r Silent v d i = absurd d
      single_after r EndAtomic v d i = absurd d
      single_after r (Raise kind can) v d i = absurd d
      single_after r (Load addr size vol) v d i = single_to _ v d
          (single_cond (can_access p addr size) (goes 0 w (C.after r (Loaded (load w.memory addr size)))) (ends w (Trapped BadAddress)) (moved _) one)
      single_after r (Store addr size value vol) v d i = single_to _ v d
          (single_cond (can_access p addr size) _ (ends w (Trapped BadAddress)) (moved (alive (C.after r Nothing))) one)
      single_after r (Out c) v d i = single_to _ v d (moved _)
      single_after r Inp v d i = single_to _ v d (moved _)
      single_after r (Spawn g x) v d i = absurd (true≢false i)
      single_after r (Join id) v d i = single_join (C.after r Nothing) (target 0 id w.threads) v d
      single_after r BeginSync v d i = single_to _ v d.1 (moved _)
      single_after r EndSync v d i = single_to _ v d (moved _)
      single_after r Done v d i = single_to _ v d (moved _)
      single_after r (Stop e) v d i = single_to _ v d one
      single_after r (BeginAtomic kind) v d i = single_lands (outcome d.1) v d.2

      only_zero : (t : ℕ) (v : World (S × Tally)) → Step C p t w v → t ≡ 0
      only_zero t v h = elim (t == 0) as (λ b. (t == 0) ≡ b → t ≡ 0) [
        | true ↦ λ e. eqb-true t 0 e
        | false ↦ λ d. let i = one t d in let j = h.is in
            absurd (cc)
      ] refl

  -- what is left of the whole run
  record Rest (steps accesses : ℕ) (w v : World (S × Tally)) : Type 0 where
    order : List ℕ
    replays : Replays C p w order v
    at_most : AtMost a p steps accesses w order v replays
    one : Single w w

  moved_rest : (steps accesses : ℕ) (w z v : World (S × Tally)) → w ≡ z → Rest steps accesses z v → Rest steps accesses w v
  moved_rest steps accesses w z v e r = subst (λ q. Rest steps accesses q v) (sym e) r

  rest_of : (steps accesses : ℕ) (done : List ℕ) (w z v : World (S × Tally)) (e : End) → Replays C p w done z → Rest steps accesses w v → v.end ≡ Some e
      → Rest steps accesses z v
  rest_of steps accesses [] w z v e h r f = moved_rest steps accesses z w v h r
  rest_of steps accesses (t ∷ done) w z v e h r f = by_order (λ w' h' r'. rest_of steps accesses done w' z v e h' r' f) r.order r.replays r.at_most
    where
      by_order : ((w' : World (S × Tally)) → Replays C p w' done z → Rest steps accesses w' v → Rest steps accesses z v)
          → (order : List ℕ) (g : Replays C p w order v) → AtMost a p steps accesses w order v g → Rest steps accesses z v
      by_order more [] g k = let i = h.1.going in let j = ap (λ q. q.end) g in absurd (cc)
      by_order more (u ∷ order) g k =
          let t0 = only_zero w r.one t h.0 h.1 in
          let u0 = only_zero w r.one u g.0 g.1 in
          let same = same_step C p u w h.0 g.0 (subst (λ q. Step C p q w h.0) (t0 ∙ sym u0) h.1) g.1 in
          let one' = single_after w r.one g.1.before (C.next g.1.before) g.0
          (subst (λ q. EventStep C p q w g.1.before (C.next g.1.before) g.0) u0 g.1.does) k.0 in
          more g.0 (subst (λ q. Replays C p q done z) same h.2) (record { order = order; replays = g.2; at_most = k.3; one = one' })

  -- where the replay has come to its end, it is that of the whole run
  same_end : (done : List ℕ) (steps accesses : ℕ) (w z v : World (S × Tally)) (e : End) → Replays C p w done z → Rest steps accesses w v → v.end ≡ Some e
      → (f : End) → z.end ≡ Some f → z ≡ v
  same_end done steps accesses w z v e h r i f j = by_rest (rest_of steps accesses done w z v e h r i)
    where
      by_rest : Rest steps accesses z v → z ≡ v
      by_rest q = by_order q.order q.replays
        where
          by_order : (order : List ℕ) → Replays C p z order v → z ≡ v
          by_order [] g = sym g
          by_order (u ∷ order) g = let x = g.1.going in absurd (cc)

  -- the thread that has come so far in the machine has run less than the whole, and where it has no transaction it does
  -- not spawn next
  less : (steps accesses : ℕ) (m : Machine (S × Tally)) (w v : World (S × Tally)) (l : Local (S × Tally)) (e : End) → Agrees C p m w → m.end ≡ None
      → m.threads 0 ≡ Some l → Rest steps accesses w v → v.end ≡ Some e
      → (l.ended ≡ false) × (is_giving l.tx ≡ false → suc (turns_for l.state.1) ≤ steps + 2 * accesses) × (l.tx ≡ NoTx → is_spawn (a.next l.state.0) ≡ false)
  less steps accesses m w v l e shows goes is r f = by_order r.order r.replays r.at_most
    where
      by_order : (order : List ℕ) (g : Replays C p w order v) → AtMost a p steps accesses w order v g
          → (l.ended ≡ false) × (is_giving l.tx ≡ false → suc (turns_for l.state.1) ≤ steps + 2 * accesses)
          × (l.tx ≡ NoTx → is_spawn (a.next l.state.0) ≡ false)
      by_order [] g k = let i = shows.end in let j = ap (λ q. q.end) g in absurd (cc)
      by_order (u ∷ order) g k =
          let u0 = only_zero w r.one u g.0 g.1 in
          let s = g.1 in
          let there : w.threads 0 ≡ alive s.from = ap w.threads (sym u0) ∙ s.is in
          let live : ShowsLocal C p m.memory w.memory l (record { state = s.from; ended = false }) =
          subst (λ o. ShowsThread C p m.memory w.memory (Some l) o) there
          (subst (λ o. ShowsThread C p m.memory w.memory o (w.threads 0)) is ((shows.going goes).shown 0)) in
          (sym live.ended, by_tx l.tx live.tx, λ none. not_spawn (subst (λ z. ShowsTx C p m.memory w.memory s.from l z) none live.tx).0)
        where
          heard : is_silent (C.next g.1.before) ≡ false
          heard = loud C p u w g.0 g.1.before (C.next g.1.before) g.1.does

          out_of : SilentSteps C g.1.from l.state → suc (turns_for l.state.1) ≤ steps + 2 * accesses
          out_of z =
              let le = reach_le (rest_silents z (silents_reach C g.1.silents) heard) in
              let top = top_before w u g.1.before (C.next g.1.before) g.0 g.1.does in
              let most = k.1 in
              let few = k.2 in
              omega (arith, le, top, most, few)

          by_tx : (tx : Tx (S × Tally)) → ShowsTx C p m.memory w.memory g.1.from l tx → is_giving tx ≡ false → suc (turns_for l.state.1) ≤ steps + 2 * accesses
          by_tx NoTx h c = out_of h.0
          by_tx (Closing b) h c = out_of h
          by_tx (GivingUp b kk ss) h c = absurd (true≢false c)
          by_tx (OpenTx b kk ss) h c =
              let same : h.began.before ≡ g.1.before = same_before C p g.1.from h.began.before g.1.before h.began.silents g.1.silents
              (ap is_silent h.began.begins) heard in
              let starts : is_begin (C.next g.1.before) ≡ true = begins h.began.kind (ap C.next (sym same) ∙ h.began.begins) in
              let run : Inside C p (begin (C.after g.1.before Nothing) w.memory) h.inner = subst (λ z. Inside C p (begin z w.memory) h.inner)
              (h.began.kept_is ∙ ap (λ z. C.after z Nothing) same) h.run in
              let top = top_within w u g.1.before (C.next g.1.before) g.0 g.1.does starts h.inner run in
              let most = k.1 in
              let few = k.2 in
              let here = ap (λ z. turns_for z.1) h.state in
              omega (arith, top, most, few, here)
            where
              begins : (kind : BlockKind) → C.next g.1.before ≡ BeginAtomic kind → is_begin (C.next g.1.before) ≡ true
              begins kind i = ap is_begin i

          -- a spawn that is next is the whole run's next step
          not_spawn : SilentSteps C g.1.from l.state → is_spawn (a.next l.state.0) ≡ false
          not_spawn z = not_true (is_spawn (a.next l.state.0))
              (λ spawns. true≢false
              (sym spawns
              ∙ (ap (λ q. is_spawn (C.next q)) (same_before C p g.1.from l.state g.1.before z g.1.silents (spawn_loud (a.next l.state.0) spawns) heard)
              ∙ k.0)))

module _ {S : Type 0} (R : S → Type 0) (a : Thread S) (laws : Lawful S R a) (p : MemoryLayout) (small : p.limit ≤ THREAD_LIMIT) (memory : ℕ → ℕ)
    (input : List ℕ) (main : S) (reached : R main) (free : a.blocks main ≡ []) where
  abbrev world0 : World (S × Tally)
  world0 = first_world memory input (main, no_tally)

  abbrev machine0 : Machine (S × Tally)
  machine0 = first_machine memory input (main, no_tally)

  first_paid : Paid R a laws p small machine0 0
  first_paid = record {
    now = bare (main, no_tally);
    at = refl;
    calm = refl;
    lone = record { started = refl; fresh = no_other; lock = refl };
    paid = λ up. let z = count_none (λ x. false) (word_bound p) (λ x. refl) in omega (arith, z);
  } where
    no_other : (u : ℕ) → (u == 0) ≡ false → first_thread {S = S × Tally} (main, no_tally) u ≡ None
    no_other zero d = absurd (true≢false d)
    no_other (suc u) d = refl

  first_single : (u : ℕ) → (u == 0) ≡ false → only_first {S = S × Tally} (main, no_tally) u ≡ None
  first_single zero d = absurd (true≢false d)
  first_single (suc u) d = refl

  -- a whole run that spawns nothing, with at most so many instructions and accesses
  module _ (steps accesses : ℕ) (order : List ℕ) (v : World (S × Tally)) (e : End) (h : Replays (tallied a) p world0 order v)
      (k : AtMost a p steps accesses world0 order v h) (f : v.end ≡ Some e) where
    whole : Rest a p steps accesses world0 v
    whole = record { order = order; replays = h; at_most = k; one = first_single }

    pub quiet : (m : Machine (S × Tally)) → Agreed (tallied a) p world0 m → Calm R a laws p small m
    quiet m shown goes l is bare_now =
        (less a p steps accesses m shown.0 v l e shown.2 goes is (rest_of a p steps accesses m.order world0 shown.0 v e shown.1 whole f) f).2 bare_now

    module _ (qs : List Slot) where
      abbrev pub last : Machine (S × Tally)
      last = turns (tallied a) p qs machine0

      pub shown : Agreed (tallied a) p world0 last
      shown = turns_kept (tallied a) p world0 qs machine0 (start_shown (tallied a) p memory input (main, no_tally))

      pub paid : last.end ≡ None → Paid R a laws p small last (zeros qs)
      paid i = subst (λ n. Paid R a laws p small last n) (omega arith)
          (all_turns R a laws p small world0 quiet qs machine0 0
          (start_sound (λ s. R s.0) (tallied a) (counted_laws R a laws p small) p small memory input (main, no_tally) reached free)
          (start_shown (tallied a) p memory input (main, no_tally)) (λ g. first_paid) i)

      -- with as many turns as the whole run needs, the thread that is alone has come to the same end
      pub turn_bound : steps + 2 * accesses ≤ zeros qs → (last.end ≡ Some e) × (last.out ≡ v.out)
      turn_bound many = by_end last.end refl
        where
          by_end : (o : Option End) → last.end ≡ o → (last.end ≡ Some e) × (last.out ≡ v.out)
          by_end (Some x) i =
              let same = same_end a p last.order steps accesses world0 shown.0 v e shown.1 whole f x (shown.2.end ∙ i) in
              (sym shown.2.end ∙ (ap (λ q. q.end) same ∙ f), sym shown.2.out ∙ ap (λ q. q.out) same)
          by_end None i =
              let pd = paid i in
              let far = less a p steps accesses last shown.0 v pd.now e shown.2 i pd.at
              (rest_of a p steps accesses last.order world0 shown.0 v e shown.1 whole f) f in
              let least = pd.paid far.0 in
              let most = far.1 pd.calm in
              absurd (omega (arith, least, most, many))
