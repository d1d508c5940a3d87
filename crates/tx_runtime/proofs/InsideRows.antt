-- The rows of a thread in an open transaction, by what was found.
use Rattle.std.proofs.Common.{ℕ, ◌≡◌, ◌<◌, Bool, true, false, cond, Option, Some, None, List, [], ◌∷◌, length, refl, ap, sym, ◌∙◌, subst, arith}
use Rattle.std.proofs.Math.Path.{fun_ext}
use Rattle.std.proofs.lemmas.Bool.{false≢true}
use Rattle.choosers.specs.declared.Clash.{Clash}
use Rattle.choosers.specs.declared.Choice.{Choice}
use Rattle.tx_events.specs.declared.End.TheVariants.{Trapped}
use Rattle.tx_events.specs.declared.Trap.TheVariants.{BadAddress}
use Rattle.tx_events.specs.declared.Event.{Event}
use Rattle.tx_events.specs.declared.Event.TheVariants.{Silent, Load, Store, Out, Inp, Spawn, Join, BeginAtomic, EndAtomic, Raise, BeginSync, EndSync, Done}
use Rattle.tx_events.specs.declared.Event.TheVariants.{Stop}
use Rattle.tx_events.specs.declared.Reply.TheVariants.{Nothing, Loaded}
use Rattle.tx_events.specs.declared.TurnKind.TheVariants.{Idle, Undone}
use Rattle.tx_events.specs.Memory.{MemoryLayout, update, can_access, word_of, word_bound, load, store}
use Rattle.tx_events.specs.Thread.{Thread, Answers}
use Rattle.tx_serial.specs.Machine.{Machine, Local, Save, OpenTx, blocker, clash_of, least, is_noted, hand, or_else, note, kept_or}
use Rattle.tx_serial.specs.Turn.{Turned, ran, stays, steps, halts, load_in, store_in, clashes, outermost, commits, cancels, cancels_by, in_does}
use Rattle.tx_serial.specs.Kinds.{Accesses}
use Rattle.tx_runtime.specs.Saves.{handed, newest, newest_without}
use Rattle.tx_runtime.specs.Here.{is_passing, is_leaving}

module _ {S : Type 0} (a : Thread S) (p : MemoryLayout) (answer : Clash → Choice) (t : ℕ) (m : Machine S) (l : Local S) (b : ℕ) (k : S) (ss : List Save) where
  pub passes_row : (e : Event) → is_passing e ≡ true → l.tx ≡ OpenTx b k ss
      → ran (steps t m (record l { state = a.after l.state Nothing })) ≡ in_does a p answer t m l b k ss e
  passes_row Silent h i = ap (λ z. ran (steps t m (record l { state = a.after l.state Nothing; tx = z }))) i
  passes_row BeginSync h i = ap (λ z. ran (steps t m (record l { state = a.after l.state Nothing; tx = z }))) i
  passes_row EndSync h i = ap (λ z. ran (steps t m (record l { state = a.after l.state Nothing; tx = z }))) i
  passes_row (Load addr size vol) h i = absurd (false≢true h)
  passes_row (Store addr size value vol) h i = absurd (false≢true h)
  passes_row (Out byte) h i = absurd (false≢true h)
  passes_row Inp h i = absurd (false≢true h)
  passes_row (Spawn f x) h i = absurd (false≢true h)
  passes_row (Join id) h i = absurd (false≢true h)
  passes_row (BeginAtomic kind) h i = absurd (false≢true h)
  passes_row EndAtomic h i = absurd (false≢true h)
  passes_row (Raise kind can) h i = absurd (false≢true h)
  passes_row Done h i = absurd (false≢true h)
  passes_row (Stop e) h i = absurd (false≢true h)

  pub load_traps_in : (addr size : ℕ) (vol : Bool) → can_access p addr size ≡ false
      → halts t m (Trapped BadAddress) ≡ in_does a p answer t m l b k ss (Load addr size vol)
  load_traps_in addr size vol e = ap (λ c. cond c (load_in a p answer t m l b k ss addr size (blocker t false (word_of addr) m))
      (halts t m (Trapped BadAddress))) (sym e)

  load_goes_in : (addr size : ℕ) (vol : Bool) (o : Option ℕ) → can_access p addr size ≡ true → blocker t false (word_of addr) m ≡ o
      → load_in a p answer t m l b k ss addr size o ≡ in_does a p answer t m l b k ss (Load addr size vol)
  load_goes_in addr size vol o e f =
      ap (load_in a p answer t m l b k ss addr size) (sym f)
      ∙ ap (λ c. cond c (load_in a p answer t m l b k ss addr size (blocker t false (word_of addr) m)) (halts t m (Trapped BadAddress))) (sym e)

  pub load_done_in : (addr size value : ℕ) (vol : Bool) → can_access p addr size ≡ true → blocker t false (word_of addr) m ≡ None
      → value ≡ load m.memory addr size → l.tx ≡ OpenTx b k ss
      → ran (steps t m (record l { state = a.after l.state (Loaded value); held = update l.held (word_of addr) true }))
      ≡ in_does a p answer t m l b k ss (Load addr size vol)
  load_done_in addr size value vol e f v i =
      ap (λ z. ran (steps t m (record l { state = a.after l.state (Loaded value); held = update l.held (word_of addr) true; tx = z }))) i
      ∙ (ap (λ z. ran (steps t m (record l { state = a.after l.state (Loaded z); held = update l.held (word_of addr) true; tx = OpenTx b k ss }))) v
      ∙ load_goes_in addr size vol None e f)

  pub store_traps_in : (addr size value : ℕ) (vol : Bool) → can_access p addr size ≡ false
      → halts t m (Trapped BadAddress) ≡ in_does a p answer t m l b k ss (Store addr size value vol)
  store_traps_in addr size value vol e = ap (λ c. cond c (store_in a p answer t m l b k ss addr size value (blocker t true (word_of addr) m))
      (halts t m (Trapped BadAddress))) (sym e)

  store_goes_in : (addr size value : ℕ) (vol : Bool) (o : Option ℕ) → can_access p addr size ≡ true → blocker t true (word_of addr) m ≡ o
      → store_in a p answer t m l b k ss addr size value o ≡ in_does a p answer t m l b k ss (Store addr size value vol)
  store_goes_in addr size value vol o e f =
      ap (store_in a p answer t m l b k ss addr size value) (sym f)
      ∙ ap (λ c. cond c (store_in a p answer t m l b k ss addr size value (blocker t true (word_of addr) m)) (halts t m (Trapped BadAddress))) (sym e)

  abbrev stored_local : ℕ → Local S
  stored_local x = record l {
    state = a.after l.state Nothing;
    held = update l.held x true;
    wrote = update l.wrote x true;
    tx = OpenTx b k
        (note ss x (m.memory x));
  }

  pub store_done_in : (addr size value : ℕ) (vol : Bool) → can_access p addr size ≡ true → blocker t true (word_of addr) m ≡ None
      → ran (record (steps t m (stored_local (word_of addr))) { memory = store m.memory addr size value })
      ≡ in_does a p answer t m l b k ss (Store addr size value vol)
  store_done_in addr size value vol e f = store_goes_in addr size value vol None e f

  -- an access that is kept off
  pub clash_row : (e : Event) (st : Bool) (x u : ℕ) → Accesses p e st x → blocker t st x m ≡ Some u
      → clashes p (answer (clash_of t st x m b u)) t m l b k ss x u ≡ in_does a p answer t m l b k ss e
  clash_row (Load addr size vol) st x u g f =
      subst (λ z. blocker t z x m ≡ Some u → clashes p (answer (clash_of t z x m b u)) t m l b k ss x u ≡ in_does a p answer t m l b k ss (Load addr size vol))
      (sym g.1)
      (subst (λ z. blocker t false z m ≡ Some u → clashes p (answer (clash_of t false z m b u)) t m l b k ss z u ≡ in_does a p answer t m l b k ss
      (Load addr size vol)) (sym g.2) (λ h. load_goes_in addr size vol (Some u) g.0 h)) f
  clash_row (Store addr size value vol) st x u g f =
      subst (λ z. blocker t z x m ≡ Some u → clashes p (answer (clash_of t z x m b u)) t m l b k ss x u ≡ in_does a p answer t m l b k ss
      (Store addr size value vol)) (sym g.1)
      (subst (λ z. blocker t true z m ≡ Some u → clashes p (answer (clash_of t true z m b u)) t m l b k ss z u ≡ in_does a p answer t m l b k ss
      (Store addr size value vol)) (sym g.2) (λ h. store_goes_in addr size value vol (Some u) g.0 h)) f
  clash_row Silent st x u g f = absurd g
  clash_row (Out byte) st x u g f = absurd g
  clash_row Inp st x u g f = absurd g
  clash_row (Spawn h arg) st x u g f = absurd g
  clash_row (Join id) st x u g f = absurd g
  clash_row (BeginAtomic kind) st x u g f = absurd g
  clash_row EndAtomic st x u g f = absurd g
  clash_row (Raise kind can) st x u g f = absurd g
  clash_row BeginSync st x u g f = absurd g
  clash_row EndSync st x u g f = absurd g
  clash_row Done st x u g f = absurd g
  clash_row (Stop e) st x u g f = absurd g

pub leaving_answer : (e : Event) → is_leaving e ≡ true → Answers e Nothing
leaving_answer EndAtomic h = refl
leaving_answer (Raise kind can) h = refl
leaving_answer Silent h = absurd (false≢true h)
leaving_answer BeginSync h = absurd (false≢true h)
leaving_answer EndSync h = absurd (false≢true h)
leaving_answer (Load addr size vol) h = absurd (false≢true h)
leaving_answer (Store addr size value vol) h = absurd (false≢true h)
leaving_answer (Out byte) h = absurd (false≢true h)
leaving_answer Inp h = absurd (false≢true h)
leaving_answer (Spawn f x) h = absurd (false≢true h)
leaving_answer (Join id) h = absurd (false≢true h)
leaving_answer (BeginAtomic kind) h = absurd (false≢true h)
leaving_answer Done h = absurd (false≢true h)
leaving_answer (Stop e) h = absurd (false≢true h)

pub passing_answer : (e : Event) → is_passing e ≡ true → Answers e Nothing
passing_answer Silent h = refl
passing_answer BeginSync h = refl
passing_answer EndSync h = refl
passing_answer EndAtomic h = absurd (false≢true h)
passing_answer (Raise kind can) h = absurd (false≢true h)
passing_answer (Load addr size vol) h = absurd (false≢true h)
passing_answer (Store addr size value vol) h = absurd (false≢true h)
passing_answer (Out byte) h = absurd (false≢true h)
passing_answer Inp h = absurd (false≢true h)
passing_answer (Spawn f x) h = absurd (false≢true h)
passing_answer (Join id) h = absurd (false≢true h)
passing_answer (BeginAtomic kind) h = absurd (false≢true h)
passing_answer Done h = absurd (false≢true h)
passing_answer (Stop e) h = absurd (false≢true h)

module _ {S : Type 0} (p : MemoryLayout) (t : ℕ) (m : Machine S) (l : Local S) (s : S) (b : ℕ) (k : S) where
  -- by the number of savepoints

  pub commits_none : (ss : List Save) → length ss ≡ 0 → stays Idle m ≡ commits p t m l s b k ss
  commits_none [] h = refl
  commits_none (n ∷ ss) h = absurd (omega (arith, h))

  pub commits_one : (ss : List Save) → length ss ≡ 1 → outermost p t m l s b ≡ commits p t m l s b k ss
  commits_one [] h = absurd (omega (arith, h))
  commits_one (n ∷ []) h = refl
  commits_one (n ∷ o ∷ ss) h = absurd (omega (arith, h))

  pub commits_more : (ss : List Save) → 1 < length ss → ran (steps t m (record l { state = s; tx = OpenTx b k (handed ss) })) ≡ commits p t m l s b k ss
  commits_more [] h = absurd (omega (arith, h))
  commits_more (n ∷ []) h = absurd (omega (arith, h))
  commits_more (n ∷ o ∷ ss) h = refl

  -- a savepoint that notes nothing is dropped as in a commit
  hand_none : (n o : Save) → ((x : ℕ) → n x ≡ None) → hand n o ≡ o
  hand_none n o h = fun_ext (λ x. ap (or_else (o x)) (h x) ∙ or_none (o x))
    where
      or_none : (v : Option ℕ) → or_else v None ≡ v
      or_none None = refl
      or_none (Some v) = refl

  pub cancels_none : (ss : List Save) → ((x : ℕ) → newest ss x ≡ None) → least (is_noted (newest ss)) (word_bound p) ≡ None
      → commits p t m l s b k ss ≡ cancels p t m l s b k ss
  cancels_none [] h e = refl
  cancels_none (n ∷ []) h e = ap (cancels_by p t m l s b k n []) (sym e)
  cancels_none (n ∷ o ∷ ss) h e = ap (λ z. ran (steps t m (record l { state = s; tx = OpenTx b k (z ∷ ss) }))) (hand_none n o h)
      ∙ ap (cancels_by p t m l s b k n (o ∷ ss)) (sym e)

  pub cancels_some : (ss : List Save) (x : ℕ) → 0 < length ss → least (is_noted (newest ss)) (word_bound p) ≡ Some x
      → ◌≡◌ {A = Turned S} (record {
        machine = record (steps t m (record l { tx = OpenTx b k (newest_without x ss) })) {
          memory = update m.memory x
              (kept_or (newest ss x) (m.memory x));
        };
        kind = Undone x;
      }) (cancels p t m l s b k ss)
  cancels_some [] x h e = absurd (omega (arith, h))
  cancels_some (n ∷ ss) x h e = ap (cancels_by p t m l s b k n ss) (sym e)

  pub cancels_empty : (ss : List Save) → length ss ≡ 0 → stays Idle m ≡ cancels p t m l s b k ss
  cancels_empty [] h = refl
  cancels_empty (n ∷ ss) h = absurd (omega (arith, h))
