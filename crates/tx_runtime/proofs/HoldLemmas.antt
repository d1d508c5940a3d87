-- Holds after one was taken or released.
use Rattle.std.proofs.Common.{ℕ, ◌≡◌, ◌==◌, ◌<◌, ◌+◌, ◌-◌, ◌*◌, ◌/◌, ◌%◌, Bool, true, false, cond, Option, Some, None, List, [], ◌∷◌, length, refl, ap, sym}
use Rattle.std.proofs.Common.{◌∙◌, subst, inl, inr, arith}
use Rattle.std.specs.Prelude.{◌&&◌, ◌||◌, is_some}
use Rattle.std.proofs.Math.Path.{fun_ext}
use Rattle.std.proofs.lemmas.Bool.{cases_Bool, eqb-true, eqb-false, eq-eqb, ne_eqb, true≢false, false≢true}
use Rattle.tx_events.specs.Memory.{MemoryLayout, update, can_access, is_mapped, in_globals, in_stacks, is_aligned, word_of, word_bound, globals_start}
use Rattle.tx_events.specs.Memory.{stacks_start, stack_stride}
use Rattle.tx_events.proofs.WordLemmas.{and_right, access_below}
use Rattle.tx_memory.specs.Words.{slot_of, stack_words}
use Rattle.tx_memory.proofs.WordSlots.{slot_of_word, word_of_whole, aligned_slot, access_aligned}
use Rattle.tx_memory.proofs.MemoryLemmas.{own_address}
use Rattle.own_table.specs.declared.hold.Mode.{Mode}
use Rattle.own_table.specs.declared.hold.Mode.TheVariants.{Read, Write}
use Rattle.own_table.specs.declared.table.Holders.{Holders}
use Rattle.own_table.specs.Records.{raised}
use Rattle.own_table.specs.Table.{hold_of, thread_limit}
use Rattle.tx_serial.specs.Machine.{Tx, OpenTx, least, no_save}
use Rattle.tx_serial.proofs.SearchLemmas.{eldest_none}
use Rattle.tx_serial.specs.Turn.{without, again}
use Rattle.tx_runtime.specs.declared.thread.ThreadSlot.{ThreadSlot}
use Rattle.tx_runtime.specs.declared.thread.Transaction.{Transaction}
use Rattle.tx_runtime.specs.Threads.{is_write, local_of, held_in, wrote_in, IsWhole}
use Rattle.tx_runtime.proofs.ThreadTables.{SameHolds}
use Rattle.tx_runtime.proofs.ConflictingThreads.{first_least, no_least}

-- a word of an access

slot_cond : (b c : Bool) (i j : ℕ) → (b || c) ≡ true → (k : ℕ) × (cond b (Some i) (cond c (Some j) None) ≡ Some k)
slot_cond true c i j h = (i, refl)
slot_cond false true i j h = (j, refl)
slot_cond false false i j h = absurd (false≢true h)

slot_there : (p : MemoryLayout) (a size : ℕ) → can_access p a size ≡ true → (i : ℕ) × (slot_of p a ≡ Some i)
unfolding can_access is_mapped
slot_there p a size h = slot_cond (in_globals p a) (in_stacks p a) ((a - globals_start) / 8)
    (p.globals / 8 + (a - stacks_start) / stack_stride * stack_words + (a - stacks_start) % stack_stride / 8)
    (and_right (is_aligned a size) (in_globals p a || in_stacks p a) h)

read_cond : (c : Bool) (i : ℕ) (o : Option ℕ) → o ≡ Some i → o ≡ cond c o None → c ≡ true
read_cond true i o e h = refl
read_cond false i o e h = absurd (cc)

pub access_word : (p : MemoryLayout) (a size : ℕ) → can_access p a size ≡ true → can_access p (word_of a) 8 ≡ true
access_word p a size h =
    let there = slot_there p a size h in
    read_cond (can_access p (word_of a) 8) there.0 (slot_of p (word_of a)) (slot_of_word p a ∙ there.1) (aligned_slot p (word_of a) 8 (word_of_whole a))

pub access_bound : (p : MemoryLayout) (w : ℕ) → can_access p w 8 ≡ true → w < word_bound p
access_bound p w h = subst (λ n. n < word_bound p) (own_address w (access_aligned p w 8 h)) (access_below p w 8 h)

pub access_own : (p : MemoryLayout) (w : ℕ) → can_access p w 8 ≡ true → word_of w ≡ w
access_own p w h = own_address w (access_aligned p w 8 h)

eqb_turned : (a b : ℕ) → (a == b) ≡ (b == a)
eqb_turned a b = elim (cases_Bool (a == b)) [
  | inl e ↦ e ∙ sym (eq-eqb b a (sym (eqb-true a b e)))
  | inr e ↦ e ∙ sym (ne_eqb b a (λ q. eqb-false a b e (sym q)))
]

raised_some : (o : Option Mode) (mode : Mode) → is_some (raised o mode) ≡ true
raised_some None mode = refl
raised_some (Some Read) mode = refl
raised_some (Some Write) mode = refl

raised_read : (o : Option Mode) → is_write (raised o Read) ≡ is_write o
raised_read None = refl
raised_read (Some Read) = refl
raised_read (Some Write) = refl

raised_write : (o : Option Mode) → is_write (raised o Write) ≡ true
raised_write None = refl
raised_write (Some Read) = refl
raised_write (Some Write) = refl

-- one hold was changed: that of thread t on this word
abbrev pub OneHold : ℕ → ℕ → Option Mode → Holders → Holders → Type 0
OneHold t word mode old new = (u w : ℕ) → hold_of new u w ≡ cond (u == t && word == w) mode (hold_of old u w)

pub one_after : (t word : ℕ) (mode : Mode) (old mid new : Holders) → ((u w : ℕ) → hold_of mid u w ≡ hold_of old u w)
    → OneHold t word (raised (hold_of mid t word) mode) mid new → OneHold t word (raised (hold_of old t word) mode) old new
one_after t word mode old mid new same one u w =
    one u w ∙ (ap (λ o. cond (u == t && word == w) (raised o mode) (hold_of mid u w)) (same t word) ∙ ap
    (λ o. cond (u == t && word == w) (raised (hold_of old t word) mode) o) (same u w))

module _ (t word : ℕ) (mode : Option Mode) (old new : Holders) (one : OneHold t word mode old new) where
  pub others_same : SameHolds t old new
  others_same u x d = one u x ∙ ap (λ b. cond (b && word == x) mode (hold_of old u x)) d

  own_hold : (x : ℕ) → hold_of new t x ≡ cond (x == word) mode (hold_of old t x)
  own_hold x = one t x ∙ (ap (λ b. cond (b && word == x) mode (hold_of old t x)) (eq-eqb t t refl) ∙ ap (λ b. cond b mode (hold_of old t x))
      (eqb_turned word x))

  by_word : (f : Option Mode → Bool) (x : ℕ) → f (hold_of new t x) ≡ update (λ y. f (hold_of old t y)) word (f mode) x
  by_word f x = ap f (own_hold x) ∙ elim (x == word) as (λ b. f (cond b mode (hold_of old t x)) ≡ cond b (f mode)
      (f (hold_of old t x))) [ true ↦ refl | false ↦ refl ]

  pub held_is : held_in new t ≡ update (held_in old t) word (is_some mode)
  held_is = fun_ext (by_word is_some)

  pub wrote_is : wrote_in new t ≡ update (wrote_in old t) word (is_write mode)
  wrote_is = fun_ext (by_word is_write)

update_own : (f : ℕ → Bool) (w : ℕ) → update f w (f w) ≡ f
update_own f w = fun_ext (λ x. elim (x == w) as (λ b. (x == w) ≡ b → cond b (f w) (f x) ≡ f x) [
  | true ↦ λ e. ap f
      (sym (eqb-true x w e))
  | false ↦ λ e. refl
] refl)

module _ (t word : ℕ) (mode : Mode) (old new : Holders) (taken : OneHold t word (raised (hold_of old t word) mode) old new) where
  pub taken_held : held_in new t ≡ update (held_in old t) word true
  taken_held = held_is t word (raised (hold_of old t word) mode) old new taken ∙ ap (update (held_in old t) word) (raised_some (hold_of old t word) mode)

pub taken_read : (t word : ℕ) (old new : Holders) → OneHold t word (raised (hold_of old t word) Read) old new → wrote_in new t ≡ wrote_in old t
taken_read t word old new one = wrote_is t word (raised (hold_of old t word) Read) old new one
    ∙ (ap (update (wrote_in old t) word) (raised_read (hold_of old t word)) ∙ update_own (wrote_in old t) word)

pub taken_write : (t word : ℕ) (old new : Holders) → OneHold t word (raised (hold_of old t word) Write) old new
    → wrote_in new t ≡ update (wrote_in old t) word true
taken_write t word old new one = wrote_is t word (raised (hold_of old t word) Write) old new one
    ∙ ap (update (wrote_in old t) word) (raised_write (hold_of old t word))

pub released_held : (t word : ℕ) (old new : Holders) → OneHold t word None old new → held_in new t ≡ without (held_in old t) word
released_held t word old new one = held_is t word None old new one

pub released_wrote : (t word : ℕ) (old new : Holders) → OneHold t word None old new → wrote_in new t ≡ without (wrote_in old t) word
released_wrote t word old new one = wrote_is t word None old new one

-- the parts still fit together

pub whole_hold : {A K : Type 0} (p : MemoryLayout) (limit : ℕ) (old new : Holders) (xs : List (ThreadSlot A K)) (t word : ℕ) (mode : Option Mode)
    → IsWhole p limit old xs → t < length xs → OneHold t word mode old new → thread_limit new ≡ thread_limit old
    → (is_some mode ≡ true → can_access p word 8 ≡ true) → IsWhole p limit new xs
whole_hold p limit old new xs t word mode w h one same access = record {
  fits = w.fits;
  few = w.few;
  numbers = same ∙ w.numbers;
  started = w.started;
  some = w.some;
  free = λ u x l. others_same t word mode old new one u x (ne_eqb u t (λ e. absurd (omega (arith, e, l, h)))) ∙ w.free u x l;
  words = λ u x e. elim (cases_Bool (u == t)) [
    | inl q ↦ elim (cases_Bool (x == word)) [
      | inl k ↦ subst (λ z. can_access p z 8 ≡ true) (sym (eqb-true x word k)) (access (sym (ap is_some (here u x q k)) ∙ e))
      | inr k ↦ w.words u x (sym (ap is_some (there u x q k)) ∙ e)
    ]
    | inr d ↦ w.words u x (sym (ap is_some (others_same t word mode old new one u x d)) ∙ e)
  ];
  sound = w.sound;
}
  where
    here : (u x : ℕ) → (u == t) ≡ true → (x == word) ≡ true → hold_of new u x ≡ mode
    here u x q k = one u x ∙ (ap (λ b. cond (b && word == x) mode (hold_of old u x)) q ∙ ap (λ b. cond b mode (hold_of old u x)) (eqb_turned word x ∙ k))

    there : (u x : ℕ) → (u == t) ≡ true → (x == word) ≡ false → hold_of new u x ≡ hold_of old u x
    there u x q k = one u x ∙ (ap (λ b. cond (b && word == x) mode (hold_of old u x)) q ∙ ap (λ b. cond b mode (hold_of old u x)) (eqb_turned word x ∙ k))

-- the least word that is held

some_true : (o : Option Mode) → o ≡ None → is_some o ≡ false
some_true o e = ap is_some e

pub least_word : (p : MemoryLayout) (holders : Holders) (t w : ℕ) → can_access p w 8 ≡ true → held_in holders t w ≡ true
    → ((v : ℕ) → v < w → hold_of holders t v ≡ None) → least (held_in holders t) (word_bound p) ≡ Some w
least_word p holders t w a h none = first_least (held_in holders t) (word_bound p) w (access_bound p w a) h (λ v l. ap is_some (none v l))

pub none_held : (p : MemoryLayout) (holders : Holders) (t : ℕ) → ((v : ℕ) → hold_of holders t v ≡ None) → least (held_in holders t) (word_bound p) ≡ None
none_held p holders t none = no_least (held_in holders t) (word_bound p) (λ v l. ap is_some (none v))

pub some_least : (f : ℕ → Bool) (n w : ℕ) → w < n → f w ≡ true → (x : ℕ) × (least f n ≡ Some x)
some_least f n w h e = by_least (least f n) refl
  where
    by_least : (o : Option ℕ) → least f n ≡ o → (x : ℕ) × (least f n ≡ Some x)
    by_least (Some x) i = (x, i)
    by_least None i = absurd (true≢false (sym e ∙ eldest_none f (λ k. k) n i w h))

pub some_held : (p : MemoryLayout) (holders : Holders) (t w : ℕ) → can_access p w 8 ≡ true → held_in holders t w ≡ true → (x : ℕ)
    × (least (held_in holders t) (word_bound p) ≡ Some x)
some_held p holders t w a h = some_least (held_in holders t) (word_bound p) w (access_bound p w a) h

-- a thread after its holds and its transaction changed
pub hold_local : {A K S : Type 0} (state : A → S) (saved : K → S) (old new : Holders) (t : ℕ) (s r : ThreadSlot A K) (tx tx' : Tx S) (h w : ℕ → Bool)
    → local_of state saved new t r ≡ record (local_of state saved new t s) { tx = tx } → held_in new t ≡ h → wrote_in new t ≡ w → tx ≡ tx'
    → local_of state saved new t r ≡ record (local_of state saved old t s) { held = h; wrote = w; tx = tx' }
hold_local state saved old new t s r tx tx' h w is eh ew et =
    is
    ∙ (ap (λ z. record (local_of state saved new t s) { held = z; tx = tx }) eh
    ∙ (ap (λ z. record (local_of state saved old t s) { held = h; wrote = z; tx = tx }) ew
    ∙ ap (λ z. record (local_of state saved old t s) { held = h; wrote = w; tx = z }) et))

-- and its state
pub step_local : {A K S : Type 0} (state : A → S) (saved : K → S) (old new : Holders) (t : ℕ) (s r : ThreadSlot A K) (x : S) (h w : ℕ → Bool)
    → local_of state saved new t r ≡ record (local_of state saved new t s) { state = x } → held_in new t ≡ h → wrote_in new t ≡ w
    → local_of state saved new t r ≡ record (local_of state saved old t s) { state = x; held = h; wrote = w }
step_local state saved old new t s r x h w is eh ew =
    is
    ∙ (ap (λ z. record (local_of state saved new t s) { held = z; state = x }) eh
    ∙ ap (λ z. record (local_of state saved old t s) { held = h; wrote = z; state = x }) ew)

pub left_over : (f : ℕ → Bool) (word x y : ℕ) → (x ≡ y → ⊥) → f x ≡ true → f y ≡ true → (v : ℕ) × (f v ≡ true) × (without f word v ≡ true)
left_over f word x y d hx hy = elim (cases_Bool (x == word)) [
  | inl e ↦ (y, hy, ap (λ b. cond b false (f y)) (ne_eqb y word (λ q. d (eqb-true x word e ∙ sym q))) ∙ hy)
  | inr e ↦ (x, hx, ap (λ b. cond b false (f x)) e ∙ hx)
]

-- none is held after the last was released
pub none_left : (old new : Holders) (t word x : ℕ) → OneHold t word None old new → held_in old t word ≡ true → ((y : ℕ) → held_in old t y ≡ true → y ≡ x)
    → (v : ℕ) → hold_of new t v ≡ None
none_left old new t word x one h only v = own_hold t word None old new one v ∙ by_hold (hold_of old t v) refl
  where
    by_hold : (o : Option Mode) → hold_of old t v ≡ o → cond (v == word) None (hold_of old t v) ≡ None
    by_hold None e = elim (v == word) as (λ b. cond b None (hold_of old t v) ≡ None) [ true ↦ refl | false ↦ e ]
    by_hold (Some m) e = ap (λ b. cond b None (hold_of old t v)) (eq-eqb v word (only v (ap is_some e) ∙ sym (only word h)))

pub empty_held : (holders : Holders) (t : ℕ) → ((v : ℕ) → hold_of holders t v ≡ None) → held_in holders t ≡ (λ _. false)
empty_held holders t none = fun_ext (λ v. ap is_some (none v))

pub empty_wrote : (holders : Holders) (t : ℕ) → ((v : ℕ) → hold_of holders t v ≡ None) → wrote_in holders t ≡ (λ _. false)
empty_wrote holders t none = fun_ext (λ v. ap is_write (none v))

-- a thread that stands again after its outermost BeginAtomic, and holds nothing
pub again_hold : {A K S : Type 0} (state : A → S) (saved : K → S) (old new : Holders) (t : ℕ) (s r : ThreadSlot A K) (x : Transaction K) (b : ℕ) (k copy : S)
    → local_of state saved new t r ≡ record (local_of state saved new t s) { state = copy; tx = OpenTx x.birth (saved x.kept) (no_save ∷ []) }
    → ((v : ℕ) → hold_of new t v ≡ None) → copy ≡ k → x.birth ≡ b → saved x.kept ≡ k → local_of state saved new t r ≡ again (local_of state saved old t s) b k
again_hold state saved old new t s r x b k copy is none e f g =
    is
    ∙ (ap (λ z. record (local_of state saved new t s) { held = z; state = copy; tx = OpenTx x.birth (saved x.kept) (no_save ∷ []) }) (empty_held new t none)
    ∙ (ap (λ z. record (local_of state saved new t s) { held = λ _. false; wrote = z; state = copy; tx = OpenTx x.birth (saved x.kept) (no_save ∷ []) })
    (empty_wrote new t none)
    ∙ (ap (λ z. record (local_of state saved old t s) { held = λ _. false; wrote = λ _. false; state = z; tx = OpenTx x.birth (saved x.kept) (no_save ∷ []) }) e
    ∙ (ap (λ z. record (again (local_of state saved old t s) b k) { tx = OpenTx z (saved x.kept) (no_save ∷ []) }) f
    ∙ ap (λ z. record (again (local_of state saved old t s) b k) { tx = OpenTx b z (no_save ∷ []) }) g))))

-- and all of these
pub write_local : {A K S : Type 0} (state : A → S) (saved : K → S) (old new : Holders) (t : ℕ) (s r : ThreadSlot A K) (x : S) (tx tx' : Tx S) (h w : ℕ → Bool)
    → local_of state saved new t r ≡ record (local_of state saved new t s) { state = x; tx = tx } → held_in new t ≡ h → wrote_in new t ≡ w → tx ≡ tx'
    → local_of state saved new t r ≡ record (local_of state saved old t s) { state = x; held = h; wrote = w; tx = tx' }
write_local state saved old new t s r x tx tx' h w is eh ew et =
    is
    ∙ (ap (λ z. record (local_of state saved new t s) { held = z; state = x; tx = tx }) eh
    ∙ (ap (λ z. record (local_of state saved old t s) { held = h; wrote = z; state = x; tx = tx }) ew
    ∙ ap (λ z. record (local_of state saved old t s) { held = h; wrote = w; state = x; tx = z }) et))
