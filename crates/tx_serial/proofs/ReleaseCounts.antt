-- Each word is let go once, and each note is put back once.
use Rattle.std.proofs.Common.{
  ℕ,
  ℤ,
  pos,
  zero,
  suc,
  ◌≡◌,
  ◌==◌,
  ◌<◌,
  ◌≤◌,
  ◌+◌,
  ◌⊎◌,
  inl,
  inr,
  Bool,
  true,
  false,
  cond,
  refl,
  ap,
  sym,
  ◌∙◌,
  subst,
  List,
  [],
  ◌∷◌,
  Option,
  Some,
  None,
  arith,
}
use Rattle.std.specs.Prelude.{nat_lt, is_some}
use Rattle.std.proofs.lemmas.Bool.{eqb-true, eqb-false, true≢false, false≢true}
use Rattle.tx_events.specs.declared.End.{End}
use Rattle.tx_events.specs.declared.BlockKind.{BlockKind}
use Rattle.tx_events.specs.declared.BlockKind.TheVariants.{NoExcept, Commit, Cancel}
use Rattle.tx_events.specs.declared.Event.{Event}
use Rattle.tx_events.specs.declared.Event.TheVariants.{
  Silent,
  Load,
  Store,
  Out,
  Inp,
  Spawn,
  Join,
  BeginAtomic,
  EndAtomic,
  Raise,
  BeginSync,
  EndSync,
  Done,
  Stop,
}
use Rattle.tx_events.specs.declared.Reply.TheVariants.{Nothing, Loaded, Byte, Id}
use Rattle.tx_events.specs.declared.TurnKind.{TurnKind}
use Rattle.tx_events.specs.declared.TurnKind.TheVariants.{Ran, Waited, BlockWait, JoinWait, Rolled, Undone, Released, Idle}
use Rattle.choosers.specs.declared.Clash.{Clash}
use Rattle.choosers.specs.declared.Choice.{Choice}
use Rattle.choosers.specs.declared.Choice.TheVariants.{Wait, Yield}
use Rattle.tx_events.specs.Thread.{Thread}
use Rattle.tx_events.specs.Memory.{update, MemoryLayout, can_access, word_of, word_bound, load}
use Rattle.tx_events.specs.World.{target, byte_of}
use Rattle.tx_serial.specs.Machine.{
  Machine,
  Local,
  Tx,
  NoTx,
  OpenTx,
  GivingUp,
  Closing,
  Save,
  no_save,
  lock_owner,
  clash_of,
  kept_or,
  or_else,
  hand,
  note,
  forget,
  is_noted,
  least,
  eldest,
  blocker,
  busy,
}
use Rattle.tx_serial.specs.Turn.{
  Turned,
  number_of,
  steps,
  ran,
  bare,
  gives_up,
  clashes,
  load_in,
  store_in,
  load_out,
  store_out,
  joins,
  begins,
  sync_in,
  sync_idle,
  closes,
  outermost,
  commits,
  cancels_by,
  cancels,
  raises,
  in_does,
  out_does,
  without,
  lets_go,
  given_back,
  gives_back,
  turn_in,
  turn_of,
  turn_at,
  turn,
}
use Rattle.tx_serial.specs.Machine.{count}
use Rattle.tx_serial.specs.Machine.{count}
use Rattle.tx_serial.proofs.PendingWork.{notes, notes_in, weight, spent, earned, earned_by}
use Rattle.tx_events.proofs.BlockRuns.{update_same}
use Rattle.tx_serial.proofs.SearchLemmas.{eldest_none, eldest_some, eldest_le, eldest_below}

pub count_le : (f g : ℕ → Bool) (n : ℕ) → ((x : ℕ) → f x ≡ true → g x ≡ true) → count f n ≤ count g n
count_le f g zero h = omega arith
count_le f g (suc n) h =
    let rest = count_le f g n h in
    elim (f n) as (λ b. f n ≡ b → cond b (suc (count f n)) (count f n) ≤ cond (g n) (suc (count g n)) (count g n)) [
      | true ↦ λ e. subst (λ c. suc (count f n) ≤ cond c (suc (count g n)) (count g n)) (sym (h n e)) (omega (arith, rest))
      | false ↦ λ e. elim (g n) as (λ c. count f n ≤ cond c (suc (count g n)) (count g n)) [ true ↦ omega (arith, rest) | false ↦ rest ]
    ] refl

pub count_none : (f : ℕ → Bool) (n : ℕ) → ((x : ℕ) → f x ≡ false) → count f n ≡ 0
count_none f zero h = refl
count_none f (suc n) h = ap (λ b. cond b (suc (count f n)) (count f n)) (h n) ∙ count_none f n h

either_of : (a b : Bool) → (a ≡ true) ⊎ (b ≡ true) → a ≡ false → b ≡ true
either_of a b (inl h) e = absurd (true≢false (sym h ∙ e))
either_of a b (inr h) e = h

pub count_or : (f g h : ℕ → Bool) (n : ℕ) → ((x : ℕ) → h x ≡ true → (f x ≡ true) ⊎ (g x ≡ true)) → count h n ≤ count f n + count g n
count_or f g h zero k = omega arith
count_or f g h (suc n) k =
    let rest = count_or f g h n k in
    elim (h n) as (λ b. h n ≡ b → cond b (suc (count h n)) (count h n) ≤ cond (f n) (suc (count f n)) (count f n) + cond (g n) (suc (count g n)) (count g n)) [
      | true ↦ λ e. elim (f n) as (λ c. f n ≡ c → suc (count h n) ≤ cond c (suc (count f n)) (count f n) + cond (g n) (suc (count g n)) (count g n)) [
        | true ↦ λ i. elim (g n) as (λ d. suc (count h n) ≤ suc (count f n) + cond d (suc (count g n)) (count g n)) [
          | true ↦ omega (arith, rest)
          | false ↦ omega (arith, rest)
        ]
        | false ↦ λ i. subst (λ d. suc (count h n) ≤ count f n + cond d (suc (count g n)) (count g n)) (sym (either_of (f n) (g n) (k n e) i))
            (omega (arith, rest))
      ] refl
      | false ↦ λ e. elim (f n) as (λ c. count h n ≤ cond c (suc (count f n)) (count f n) + cond (g n) (suc (count g n)) (count g n)) [
        | true ↦ elim (g n) as (λ d. count h n ≤ suc (count f n) + cond d (suc (count g n)) (count g n)) [
          | true ↦ omega (arith, rest)
          | false ↦ omega (arith, rest)
        ]
        | false ↦ elim (g n) as (λ d. count h n ≤ count f n + cond d (suc (count g n)) (count g n)) [ true ↦ omega (arith, rest) | false ↦ rest ]
      ]
    ] refl

one_at_most : (x n : ℕ) → (count (λ y. y == x) n ≤ 1) × (n ≤ x → count (λ y. y == x) n ≡ 0)
one_at_most x zero = (omega arith, λ h. refl)
one_at_most x (suc n) =
    let rest = one_at_most x n in
    elim (n == x) as
    (λ b. (n == x) ≡ b → (cond b (suc (count (λ y. y == x) n)) (count (λ y. y == x) n) ≤ 1) ×
    (suc n ≤ x → cond b (suc (count (λ y. y == x) n)) (count (λ y. y == x) n) ≡ 0)) [
      | true ↦ λ e. let i = eqb-true n x e in let z = rest.1 (omega (arith, i)) in (omega (arith, z), λ h. absurd (omega (arith, h, i)))
      | false ↦ λ e. (rest.0, λ h. rest.1 (omega (arith, h)))
    ] refl

pub count_add : (f : ℕ → Bool) (x n : ℕ) → count (update f x true) n ≤ suc (count f n)
count_add f x n =
    let one = (one_at_most x n).0 in
    let both = count_or (λ y. y == x) f (update f x true) n
    (λ y h. elim (y == x) as (λ b. cond b true (f y) ≡ true → (b ≡ true) ⊎ (f y ≡ true)) [ true ↦ λ i. inl refl | false ↦ λ i. inr i ] h) in
    omega (arith, one, both)

pub count_drop : (f : ℕ → Bool) (x n : ℕ) → x < n → f x ≡ true → suc (count (update f x false) n) ≤ count f n
count_drop f x zero h e = absurd (omega (arith, h))
count_drop f x (suc n) h e = elim (n == x) as
    (λ b. (n == x) ≡ b → suc (cond (cond b false (f n)) (suc (count (update f x false) n)) (count (update f x false) n)) ≤ cond (f n) (suc (count f n))
    (count f n)) [
      | true ↦ λ i.
          let less = count_le (update f x false) f n
          (λ y k. elim (y == x) as (λ c. cond c false (f y) ≡ true → f y ≡ true) [ true ↦ λ j. absurd (false≢true j) | false ↦ λ j. j ] k) in
          subst (λ c. suc (count (update f x false) n) ≤ cond c (suc (count f n)) (count f n)) (sym (ap f (eqb-true n x i) ∙ e)) (omega (arith, less))
      | false ↦ λ i.
          let d = eqb-false n x i in
          let rest = count_drop f x n (omega (arith, h, d)) e in
          elim (f n) as
          (λ c. suc (cond c (suc (count (update f x false) n)) (count (update f x false) n)) ≤ cond c (suc (count f n)) (count f n)) [
            | true ↦ omega
                (arith, rest)
            | false ↦ rest
          ]
    ] refl

-- notes
notes_note : (n : ℕ) (ss : List Save) (x v : ℕ) → notes n (note ss x v) ≤ suc (notes n ss)
notes_note n [] x v = omega arith
notes_note n (s ∷ ss) x v =
    let le = count_le (is_noted (update s x (Some (kept_or (s x) v)))) (update (is_noted s) x true) n
    (λ y h. elim (y == x) as (λ b. is_some (cond b (Some (kept_or (s x) v)) (s y)) ≡ true → cond b true (is_some (s y)) ≡ true) [
      | true ↦ λ i. refl
      | false ↦ λ i. i
    ] h) in
    let add = count_add (is_noted s) x n in
    omega (arith, le, add)

noted_hand : (s o : Save) (x : ℕ) → is_noted (hand s o) x ≡ true → (is_noted s x ≡ true) ⊎ (is_noted o x ≡ true)
noted_hand s o x h = by (o x) (s x) h
  where
    by : (p q : Option ℕ) → is_some (or_else p q) ≡ true → (is_some q ≡ true) ⊎ (is_some p ≡ true)
    by None q i = inl i
    by (Some v) q i = inr refl

notes_hand : (n : ℕ) (s o : Save) (ss : List Save) → notes n (hand s o ∷ ss) ≤ notes n (s ∷ o ∷ ss)
notes_hand n s o ss = let le = count_or (is_noted s) (is_noted o) (is_noted (hand s o)) n (noted_hand s o) in omega (arith, le)

notes_forget : (n : ℕ) (s : Save) (ss : List Save) (x : ℕ) → x < n → is_noted s x ≡ true → suc (notes n (forget s x ∷ ss)) ≤ notes n (s ∷ ss)
notes_forget n s ss x h e =
    let le = count_le (is_noted (forget s x)) (update (is_noted s) x false) n
    (λ y i. elim (y == x) as (λ b. is_some (cond b None (s y)) ≡ true → cond b false (is_some (s y)) ≡ true) [ true ↦ λ j. j | false ↦ λ j. j ] i) in
    let less = count_drop (is_noted s) x n h e in
    omega (arith, le, less)

notes_fresh : (n : ℕ) → notes n (no_save ∷ []) ≡ 0
notes_fresh n = let z = count_none (is_noted no_save) n (λ x. refl) in omega (arith, z)

module _ {S : Type 0} (a : Thread S) (p : MemoryLayout) (t : ℕ) (m : Machine S) (l : Local S) (is : m.threads t ≡ Some l) where
  -- what the turn puts back and lets go is paid by what the thread holds and notes
  abbrev Pays : Event → Turned S → Type 0
  Pays e r = weight (word_bound p) (r.machine.threads t) + spent r.kind ≤ weight (word_bound p) (Some l) + earned_by r.kind e

  pays_by : (e : Event) (kind : TurnKind) (l' : Local S) → weight (word_bound p) (Some l') + spent kind ≤ weight (word_bound p) (Some l) + earned_by kind e
      → weight (word_bound p) (update m.threads t (Some l') t) + spent kind ≤ weight (word_bound p) (Some l) + earned_by kind e
  pays_by e kind l' h = subst (λ o. weight (word_bound p) o + spent kind ≤ weight (word_bound p) (Some l) + earned_by kind e)
      (sym (update_same m.threads t (Some l'))) h

  pays_still : (e : Event) (kind : TurnKind) → spent kind ≡ 0 → weight (word_bound p) (m.threads t) + spent kind ≤ weight (word_bound p)
      (Some l) + earned_by kind e
  pays_still e kind h = subst (λ o. weight (word_bound p) o + spent kind ≤ weight (word_bound p) (Some l) + earned_by kind e) (sym is) (omega (arith, h))

  either : (e : Event) (b : Bool) (x y : Turned S) → Pays e x → Pays e y → Pays e (cond b x y)
  either e true x y f g = f
  either e false x y f g = g

  -- nothing but the state
  plain : (e : Event) (s : S) (b : Bool) → weight (word_bound p) (update m.threads t (Some (record l { state = s; ended = b })) t) + 0 ≤ weight (word_bound p)
      (Some l) + earned e
  plain e s b = pays_by e Ran (record l { state = s; ended = b }) (omega arith)

  load_out_pays : (e : Event) (addr size : ℕ) (o : Option ℕ) → Pays e (load_out a t m l addr size o)
  load_out_pays e addr size (Some u) = pays_still e (Waited (word_of addr) u) refl
  load_out_pays e addr size None = plain e (a.after l.state (Loaded (load m.memory addr size))) l.ended

  store_out_pays : (e : Event) (addr size value : ℕ) (o : Option ℕ) → Pays e (store_out a t m l addr size value o)
  store_out_pays e addr size value (Some u) = pays_still e (Waited (word_of addr) u) refl
  store_out_pays e addr size value None = plain e (a.after l.state Nothing) l.ended

  join_pays : (e : Event) (id : ℤ) (o : Option (Local S)) → Pays e (joins t id m (record l { state = a.after l.state Nothing }) o)
  join_pays e id None = pays_still e Ran refl
  join_pays e id (Some u) = either e u.ended _ _ (plain e (a.after l.state Nothing) l.ended) (pays_still e (JoinWait (number_of id)) refl)

  idle_pays : (e : Event) (o : Option ℕ) → Pays e (sync_idle t m (record l { state = a.after l.state Nothing }) o)
  idle_pays e (Some u) = pays_still e (BlockWait u) refl
  idle_pays e None = plain e (a.after l.state Nothing) l.ended

  sync_pays : (e : Event) (o : Option ℕ) → Pays e (sync_in t m (record l { state = a.after l.state Nothing }) o)
  sync_pays e (Some u) = pays_still e (BlockWait u) refl
  sync_pays e None = idle_pays e (busy t m)

  begin_pays : (e : Event) (o : Option ℕ) → Pays e (begins t m l (a.after l.state Nothing) o)
  begin_pays e (Some u) = pays_still e (BlockWait u) refl
  begin_pays e None =
      let z = notes_fresh (word_bound p) in
      pays_by e Ran (record l { state = a.after l.state Nothing; tx = OpenTx m.births (a.after l.state Nothing) (no_save ∷ []) }) (omega (arith, z))

  out_pays : (e : Event) → Pays e (out_does a p t m l e)
  out_pays Silent = plain Silent (a.after l.state Nothing) l.ended
  out_pays (Load addr size vol) = either _ (can_access p addr size) _ _ (load_out_pays (Load addr size vol) addr size (blocker t false (word_of addr) m))
      (pays_still (Load addr size vol) Ran refl)
  out_pays (Store addr size value vol) = either _ (can_access p addr size) _ _
      (store_out_pays (Store addr size value vol) addr size value (blocker t true (word_of addr) m)) (pays_still (Store addr size value vol) Ran refl)
  out_pays (BeginAtomic kind) = begin_pays (BeginAtomic kind) (lock_owner t m.lock.holder)
  out_pays EndAtomic = pays_still EndAtomic Idle refl
  out_pays (Raise kind can) = pays_still (Raise kind can) Idle refl
  out_pays BeginSync = sync_pays BeginSync (lock_owner t m.lock.holder)
  out_pays EndSync = plain EndSync (a.after l.state Nothing) l.ended
  out_pays (Spawn g x) = either _ (nat_lt m.started p.limit) _ _
      (subst (λ o. weight (word_bound p) o + 0 ≤ weight (word_bound p) (Some l) + 0)
      (sym (update_same (update m.threads m.started (Some (bare (a.child l.state m.started g x)))) t
      (Some (record l { state = a.after l.state (Id (pos m.started)) })))) (omega arith))
      (pays_still (Spawn g x) Ran refl)
  out_pays (Join id) = join_pays (Join id) id (target t id m.threads)
  out_pays (Out c) = plain (Out c) (a.after l.state Nothing) l.ended
  out_pays Inp = plain Inp (a.after l.state (Byte (byte_of m.input))) l.ended
  out_pays Done = plain Done (a.after l.state Nothing) true
  out_pays (Stop e) = pays_still (Stop e) Ran refl

  module _ (b : ℕ) (kk : S) (ss : List Save) (tx : l.tx ≡ OpenTx b kk ss) where
    notes_are : notes_in (word_bound p) l.tx ≡ notes (word_bound p) ss
    notes_are = ap (notes_in (word_bound p)) tx

    -- the words are the same
    inner : (e : Event) (s : S) (z : Tx S) → notes_in (word_bound p) z ≤ notes (word_bound p) ss
        → weight (word_bound p) (update m.threads t (Some (record l { state = s; tx = z })) t) + 0 ≤ weight (word_bound p) (Some l) + earned e
    inner e s z h = let n = notes_are in pays_by e Ran (record l { state = s; tx = z }) (omega (arith, h, n))

    clash_pays : (choice : Choice) (e : Event) (x u : ℕ) → Pays e (clashes p choice t m l b kk ss x u)
    clash_pays Wait e x u = pays_still e (Waited x u) refl
    clash_pays Yield e x u = pays_by e (Rolled x u) (gives_up l b kk ss (least l.held (word_bound p))) (less (least l.held (word_bound p)))
      where
        less : (o : Option ℕ) → weight (word_bound p) (Some (gives_up l b kk ss o)) + 0 ≤ weight (word_bound p) (Some l) + 0
        less None = let z = notes_fresh (word_bound p) in let y = count_none (λ x. false) (word_bound p) (λ x. refl) in omega (arith, z, y)
        less (Some x) = omega arith

    load_in_pays : (answer : Clash → Choice) (addr size : ℕ) (vol : Bool) (o : Option ℕ)
        → Pays (Load addr size vol) (load_in a p answer t m l b kk ss addr size o)
    load_in_pays answer addr size vol (Some u) = clash_pays (answer (clash_of t false (word_of addr) m b u)) (Load addr size vol) (word_of addr) u
    load_in_pays answer addr size vol None =
        let n = notes_are in
        let add = count_add l.held (word_of addr) (word_bound p) in
        pays_by (Load addr size vol) Ran
        (record l { state = a.after l.state (Loaded (load m.memory addr size)); held = update l.held (word_of addr) true; tx = OpenTx b kk ss })
        (omega (arith, n, add))

    store_in_pays : (answer : Clash → Choice) (addr size value : ℕ) (vol : Bool) (o : Option ℕ)
        → Pays (Store addr size value vol) (store_in a p answer t m l b kk ss addr size value o)
    store_in_pays answer addr size value vol (Some u) = clash_pays (answer (clash_of t true (word_of addr) m b u)) (Store addr size value vol) (word_of addr) u
    store_in_pays answer addr size value vol None =
        let n = notes_are in
        let add = count_add l.held (word_of addr) (word_bound p) in
        let more = notes_note (word_bound p) ss (word_of addr) (m.memory (word_of addr)) in
        pays_by (Store addr size value vol) Ran
        (record l {
          state = a.after l.state Nothing;
          held = update l.held (word_of addr) true;
          wrote = update l.wrote (word_of addr) true;
          tx = OpenTx b kk (note ss (word_of addr) (m.memory (word_of addr)));
        }) (omega (arith, n, add, more))

    closed : (o : Option ℕ) → notes_in {S = S} (word_bound p) (closes b o) ≡ 0
    closed None = refl
    closed (Some x) = refl

    outermost_pays : (e : Event) (s : S) → Pays e (outermost p t m l s b)
    outermost_pays e s = let z = closed (least l.held (word_bound p)) in inner e s (closes b (least l.held (word_bound p))) (omega (arith, z))

    commits_pays : (e : Event) (s : S) (ts : List Save) → ss ≡ ts → Pays e (commits p t m l s b kk ts)
    commits_pays e s [] i = pays_still e Idle refl
    commits_pays e s (n ∷ []) i = outermost_pays e s
    commits_pays e s (n ∷ o ∷ ts) i = let less = notes_hand (word_bound p) n o ts in let j = ap (notes (word_bound p)) i in
        inner e s (OpenTx b kk (hand n o ∷ ts)) (omega (arith, less, j))

    cancels_pays : (e : Event) (s : S) (n : Save) (ts : List Save) → ss ≡ (n ∷ ts) → (o : Option ℕ) → least (is_noted n) (word_bound p) ≡ o
        → Pays e (cancels_by p t m l s b kk n ts o)
    cancels_pays e s n ts i (Some x) found =
        let less = notes_forget (word_bound p) n ts x (eldest_below (is_noted n) (λ v. v) (word_bound p) x found)
        (eldest_some (is_noted n) (λ v. v) (word_bound p) x found) in
        let j = ap (notes (word_bound p)) i in let k = notes_are in
        pays_by e (Undone x) (record l { tx = OpenTx b kk (forget n x ∷ ts) }) (omega (arith, less, j, k))
    cancels_pays e s n [] i None found = outermost_pays e s
    cancels_pays e s n (o ∷ ts) i None found = let j = ap (notes (word_bound p)) i in inner e s (OpenTx b kk (o ∷ ts)) (omega (arith, j))

    raises_pays : (e : Event) (s : S) (kind : BlockKind) (can : Bool) → Pays e (raises p t m l s b kk ss kind can)
    raises_pays e s NoExcept can = pays_still e Ran refl
    raises_pays e s Commit can = commits_pays e s ss refl
    raises_pays e s Cancel false = pays_still e Ran refl
    raises_pays e s Cancel true = by_saves ss refl
      where
        by_saves : (ts : List Save) → ss ≡ ts → Pays e (cancels p t m l s b kk ts)
        by_saves [] i = pays_still e Idle refl
        by_saves (n ∷ ts) i = cancels_pays e s n ts i (least (is_noted n) (word_bound p)) refl

    same_notes : (e : Event) (s : S) → Pays e (ran (steps t m (record l { state = s; tx = OpenTx b kk ss })))
    same_notes e s = inner e s (OpenTx b kk ss) (omega arith)

    in_pays : (answer : Clash → Choice) (e : Event) → Pays e (in_does a p answer t m l b kk ss e)
    in_pays answer Silent = same_notes Silent (a.after l.state Nothing)
    in_pays answer (Load addr size vol) = either (Load addr size vol) (can_access p addr size) _ _
        (load_in_pays answer addr size vol (blocker t false (word_of addr) m)) (pays_still (Load addr size vol) Ran refl)
    in_pays answer (Store addr size value vol) = either (Store addr size value vol) (can_access p addr size) _ _
        (store_in_pays answer addr size value vol (blocker t true (word_of addr) m)) (pays_still (Store addr size value vol) Ran refl)
    in_pays answer (BeginAtomic kind) = let z = notes_fresh (word_bound p) in
        inner (BeginAtomic kind) (a.after l.state Nothing) (OpenTx b kk (no_save ∷ ss)) (omega (arith, z))
    in_pays answer EndAtomic = commits_pays EndAtomic (a.after l.state Nothing) ss refl
    in_pays answer (Raise kind can) = raises_pays (Raise kind can) (a.after l.state Nothing) kind can
    in_pays answer BeginSync = same_notes BeginSync (a.after l.state Nothing)
    in_pays answer EndSync = same_notes EndSync (a.after l.state Nothing)
    in_pays answer (Stop e) = pays_still (Stop e) Ran refl
    in_pays answer (Spawn g x) = pays_still (Spawn g x) Idle refl
    in_pays answer (Join id) = pays_still (Join id) Idle refl
    in_pays answer (Out c) = pays_still (Out c) Idle refl
    in_pays answer Inp = pays_still Inp Idle refl
    in_pays answer Done = pays_still Done Idle refl

  back_pays : (e : Event) (b : ℕ) (kk : S) (ss : List Save) (o : Option ℕ) → least l.held (word_bound p) ≡ o → Pays e (gives_back p t m l b kk ss o)
  back_pays e b kk ss None i = pays_still e Idle refl
  back_pays e b kk ss (Some x) i =
      pays_by e (Undone x) (given_back l b kk ss x (least (without l.held x) (word_bound p))) (less (least (without l.held x) (word_bound p)))
    where
      less : (o : Option ℕ) → weight (word_bound p) (Some (given_back l b kk ss x o)) + 1 ≤ weight (word_bound p) (Some l) + 0
      less None = let z = notes_fresh (word_bound p) in let y = count_none (λ x. false) (word_bound p) (λ x. refl) in
          let d = count_drop l.held x (word_bound p) (eldest_below l.held (λ v. v) (word_bound p) x i) (eldest_some l.held (λ v. v) (word_bound p) x i) in
          omega (arith, z, y, d)
      less (Some v) =
          let d = count_drop l.held x (word_bound p) (eldest_below l.held (λ v. v) (word_bound p) x i) (eldest_some l.held (λ v. v) (word_bound p) x i) in
          omega (arith, d)

  go_pays : (e : Event) (b : ℕ) (o : Option ℕ) → least l.held (word_bound p) ≡ o → Pays e (lets_go p t m l b o)
  go_pays e b None i = pays_still e Idle refl
  go_pays e b (Some x) i =
      let d = count_drop l.held x (word_bound p) (eldest_below l.held (λ v. v) (word_bound p) x i) (eldest_some l.held (λ v. v) (word_bound p) x i) in
      pays_by e (Released x) (record l { held = without l.held x; wrote = without l.wrote x; tx = closes b (least (without l.held x) (word_bound p)) })
      (less (least (without l.held x) (word_bound p)))
    where
      less : (o : Option ℕ) → (count (without l.held x) (word_bound p) + notes_in {S = S} (word_bound p) (closes b o)) + 1 ≤ weight (word_bound p) (Some l) + 0
      less None =
          let d = count_drop l.held x (word_bound p) (eldest_below l.held (λ v. v) (word_bound p) x i) (eldest_some l.held (λ v. v) (word_bound p) x i) in
          omega (arith, d)
      less (Some v) =
          let d = count_drop l.held x (word_bound p) (eldest_below l.held (λ v. v) (word_bound p) x i) (eldest_some l.held (λ v. v) (word_bound p) x i) in
          omega (arith, d)

  tx_pays : (answer : Clash → Choice) (tx : Tx S) → l.tx ≡ tx → Pays (a.next l.state) (turn_in a p answer t m l tx)
  tx_pays answer NoTx i = out_pays (a.next l.state)
  tx_pays answer (OpenTx b kk ss) i = in_pays b kk ss i answer (a.next l.state)
  tx_pays answer (GivingUp b kk ss) i = back_pays (a.next l.state) b kk ss (least l.held (word_bound p)) refl
  tx_pays answer (Closing b) i = go_pays (a.next l.state) b (least l.held (word_bound p)) refl

  -- each turn of the thread
  pub turn_pays : (answer : Clash → Choice) → Pays (a.next l.state) (turn a p answer t m)
  turn_pays answer = by_end m.end
    where
      by_end : (o : Option End) → Pays (a.next l.state) (turn_at a p answer t m o)
      by_end (Some e) = pays_still (a.next l.state) Idle refl
      by_end None = subst (λ o. Pays (a.next l.state) (turn_of a p answer t m o)) (sym is)
          (either (a.next l.state) l.ended _ _ (pays_still (a.next l.state) Idle refl) (tx_pays answer l.tx refl))

-- what a code that finds it shows
pub eldest_is : (p : ℕ → Bool) (f : ℕ → ℕ) (n x : ℕ) → p x ≡ true → x < n → ((y : ℕ) → y < n → p y ≡ true → (y == x) ≡ false → f x < f y)
    → eldest p f n ≡ Some x
eldest_is p f n x h less first = by (eldest p f n) refl
  where
    by : (o : Option ℕ) → eldest p f n ≡ o → o ≡ Some x
    by None e = absurd (true≢false (sym h ∙ eldest_none p f n e x less))
    by (Some y) e = elim (y == x) as (λ b. (y == x) ≡ b → Some y ≡ Some x) [
      | true ↦ λ i. ap Some (eqb-true y x i)
      | false ↦ λ d. let lt = first y (eldest_below p f n y e) (eldest_some p f n y e) d in let le = eldest_le p f n y e x less h in
          absurd (omega (arith, lt, le))
    ] refl
