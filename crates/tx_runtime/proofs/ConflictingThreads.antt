-- Which threads keep an access off.
use Rattle.std.proofs.Common.{ℕ, zero, suc, ◌≡◌, ◌==◌, ◌<◌, ◌≤◌, ◌+◌, Bool, true, false, cond, not, Option, Some, None, List, [], ◌∷◌, get_or, length, refl, ap}
use Rattle.std.proofs.Common.{sym, ◌∙◌, subst, inl, inr, arith, add-one}
use Rattle.std.specs.Prelude.{◌&&◌, is_some, nat_lt, max, slice_get}
use Rattle.std.proofs.Math.Path.{fun_ext}
use Rattle.std.proofs.lemmas.Bool.{cases_lt, ltb-true, ne_eqb}
use Rattle.std.proofs.lemmas.Option.{slice_get-get_or}
use Rattle.own_table.specs.declared.hold.Mode.{Mode}
use Rattle.own_table.specs.declared.hold.Mode.TheVariants.{Read, Write}
use Rattle.own_table.specs.declared.table.Holders.{Holders}
use Rattle.own_table.specs.Bits.{has_bit}
use Rattle.own_table.specs.Records.{blocks}
use Rattle.own_table.specs.Table.{hold_of}
use Rattle.tx_serial.specs.Machine.{Save, elder, eldest, least, greatest, count, held_by, wrote_by, conflicts_with, birth, birth_of, is_live, live_in}
use Rattle.tx_runtime.specs.declared.thread.ThreadSlot.{ThreadSlot}
use Rattle.tx_runtime.specs.declared.thread.Transaction.{Transaction}
use Rattle.tx_runtime.specs.declared.thread.Stage.{Stage}
use Rattle.tx_runtime.specs.declared.thread.Stage.TheVariants.{Open, Undoing, Releasing}
use Rattle.tx_runtime.specs.declared.access.Blockers.{Blockers}
use Rattle.tx_runtime.specs.Saves.{saves_of}
use Rattle.tx_serial.proofs.SearchLemmas.{eldest_none}
use Rattle.tx_runtime.proofs.ThreadTables.{thread_at}
use Rattle.tx_runtime.specs.Blocks.{Sums, SumsOf}
use Rattle.tx_runtime.specs.Threads.{is_write, local_in, tx_of, tx_by, threads_of, birth_in, has_saves, undoes}

birth_by : {S : Type 0} (g : Stage) (b : ℕ) (k : S) (ss : List Save) → birth (tx_by g b k ss) ≡ b
birth_by Open b k ss = refl
birth_by Undoing b k ss = refl
birth_by Releasing b k ss = refl

pub birth_is : {K S : Type 0} (saved : K → S) (o : Option (Transaction K)) (ss : List Save) → birth (tx_of saved o ss) ≡ birth_in o
birth_is saved None ss = refl
birth_is saved (Some x) ss = birth_by x.stage x.birth (saved x.kept) ss

live_by : {S : Type 0} (g : Stage) (b : ℕ) (k : S) (ss : List Save) → is_live (tx_by g b k ss) ≡ undoes g
live_by Open b k ss = refl
live_by Undoing b k ss = refl
live_by Releasing b k ss = refl

pub live_is : {K S : Type 0} (saved : K → S) (o : Option (Transaction K)) (ss : List Save) → is_live (tx_of saved o ss) ≡ has_saves o
live_is saved None ss = refl
live_is saved (Some x) ss = live_by x.stage x.birth (saved x.kept) ss

-- one more number

pub sums_more : (p : ℕ → Bool) (f : ℕ → ℕ) (n : ℕ) (o : Option Blockers) → p n ≡ false → Sums p f n o → Sums p f (n + 1) o
sums_more p f n None h s = record {
  eldest = ap (eldest p f) (add-one n) ∙ (ap (λ b. cond b (elder f n (eldest p f n)) (eldest p f n)) h ∙ s.eldest);
  greatest = ap (greatest p f) (add-one n) ∙ (ap (λ b. cond b (max (f n) (greatest p f n)) (greatest p f n)) h ∙ s.greatest);
  count = ap (count p) (add-one n) ∙ (ap (λ b. cond b (suc (count p n)) (count p n)) h ∙ s.count);
}
sums_more p f n (Some b) h s = record {
  eldest = ap (eldest p f) (add-one n) ∙ (ap (λ c. cond c (elder f n (eldest p f n)) (eldest p f n)) h ∙ s.eldest);
  least = s.least;
  greatest = s.greatest ∙ sym (ap (greatest p f) (add-one n) ∙ ap (λ c. cond c (max (f n) (greatest p f n)) (greatest p f n)) h);
  count = s.count ∙ sym (ap (count p) (add-one n) ∙ ap (λ c. cond c (suc (count p n)) (count p n)) h);
}

pub count_most : (p : ℕ → Bool) (n : ℕ) → count p n ≤ n
count_most p zero = omega arith
count_most p (suc n) = let rest = count_most p n in elim
    (p n) as (λ b. cond b (suc (count p n)) (count p n) ≤ suc n) [ true ↦ omega (arith, rest) | false ↦ omega (arith, rest) ]

-- the least number

pub no_least : (p : ℕ → Bool) (n : ℕ) → ((v : ℕ) → v < n → p v ≡ false) → least p n ≡ None
no_least p zero h = refl
no_least p (suc n) h = ap (λ b. cond b (elder (λ k. k) n (eldest p (λ k. k) n)) (eldest p (λ k. k) n)) (h n (omega arith))
    ∙ no_least p n (λ v l. h v (omega (arith, l)))

kept_least : (n u : ℕ) → u < n → elder (λ k. k) n (Some u) ≡ Some u
kept_least n u h = elim (nat_lt n u) as (λ b. nat_lt n u ≡ b → cond b (Some n) (Some u) ≡ Some u) [
  | true ↦ λ e. let l = ltb-true n u e in absurd (omega (arith, l, h))
  | false ↦ λ e. refl
] refl

pub first_least : (p : ℕ → Bool) (n u : ℕ) → u < n → p u ≡ true → ((v : ℕ) → v < u → p v ≡ false) → least p n ≡ Some u
first_least p zero u h t b = absurd (omega (arith, h))
first_least p (suc n) u h t b = elim (cases_lt u n) [
  | inl l ↦
      let rest : least p n ≡ Some u = first_least p n u l t b in
      elim (p n) as (λ c. cond c (elder (λ k. k) n (least p n)) (least p n) ≡ Some u) [
        | true ↦ ap (elder (λ k. k) n) rest ∙ kept_least n u l
        | false ↦ rest
      ]
  | inr g ↦
      let same : n ≡ u = omega (arith, g, h) in
      ap (λ c. cond c (elder (λ k. k) n (least p n)) (least p n)) (ap p same ∙ t)
      ∙ (ap (elder (λ k. k) n) (no_least p n (λ v l. b v (omega (arith, l, same)))) ∙ ap Some same)
]

-- who keeps whom off, by the table

blocks_is : (o : Option Mode) (store : Bool) → cond store (is_some o) (is_write o) ≡ blocks o store
blocks_is None true = refl
blocks_is None false = refl
blocks_is (Some Read) true = refl
blocks_is (Some Read) false = refl
blocks_is (Some Write) true = refl
blocks_is (Some Write) false = refl

turned_and : (a b : Bool) → (a && b) ≡ (b && a)
turned_and true true = refl
turned_and true false = refl
turned_and false true = refl
turned_and false false = refl

module _ {A K S : Type 0} (state : A → S) (saved : K → S) (holders : Holders) (threads : List (ThreadSlot A K)) where
  held_slot : (u x : ℕ) (o : Option (ThreadSlot A K)) → slice_get threads u ≡ o → ((u x : ℕ) → length threads ≤ u → hold_of holders u x ≡ None) → (store : Bool)
      → cond store (held_by (local_in state saved holders u o) x) (wrote_by (local_in state saved holders u o) x) ≡ blocks (hold_of holders u x) store
  held_slot u x (Some s) at free store = blocks_is (hold_of holders u x) store
  held_slot u x None at free store = elim (cases_lt u (length threads)) [
    | inl l ↦ absurd (slot_there u l at)
    | inr g ↦ elim store as (λ b. cond b false false ≡ blocks None b) [ true ↦ refl | false ↦ refl ] ∙ ap (λ o. blocks o store) (sym (free u x g))
  ]
    where
      slot_there : (u : ℕ) → u < length threads → slice_get threads u ≡ None → ⊥
      slot_there u l at = by_list threads l at
        where
          by_list : (xs : List (ThreadSlot A K)) → u < length xs → slice_get xs u ≡ None → ⊥
          by_list [] h e = absurd (omega (arith, h))
          by_list (y ∷ ys) h e = let some = slice_get-get_or (y ∷ ys) u y h in cc

  pub keeps_is : (t : ℕ) (store : Bool) (x bits : ℕ) → ((u x : ℕ) → length threads ≤ u → hold_of holders u x ≡ None)
      → ((u : ℕ) → has_bit bits u ≡ (blocks (hold_of holders u x) store && not (u == t)))
      → conflicts_with t store x (threads_of state saved holders threads) ≡ has_bit bits
  unfolding threads_of
  keeps_is t store x bits free is = fun_ext (λ u.
      ap (λ b. not (u == t) && b) (held_slot u x (slice_get threads u) refl free store)
      ∙ (turned_and (not (u == t)) (blocks (hold_of holders u x) store) ∙ sym (is u)))

  -- where no thread keeps the access off, no other thread's hold blocks it
  pub unblocked : (t n x : ℕ) (store : Bool) (f : ℕ → ℕ) → n ≡ length threads → ((u x : ℕ) → length threads ≤ u → hold_of holders u x ≡ None)
      → eldest (conflicts_with t store x (threads_of state saved holders threads)) f n ≡ None → (u : ℕ) → (u ≡ t → ⊥)
      → blocks (hold_of holders u x) store ≡ false
  unfolding threads_of
  unblocked t n x store f e free none u d = elim (cases_lt u (length threads)) [
    | inl l ↦
        sym (held_slot u x (slice_get threads u) refl free store)
        ∙ (sym (ap (λ b. not b && cond store (held_by (local_in state saved holders u (slice_get threads u)) x)
        (wrote_by (local_in state saved holders u (slice_get threads u)) x)) (ne_eqb u t d))
        ∙ eldest_none (conflicts_with t store x (threads_of state saved holders threads)) f n none u (omega (arith, l, e)))
    | inr g ↦ ap (λ o. blocks o store) (free u x g)
  ]

  pub birth_at : (u b : ℕ) (s : ThreadSlot A K) → u < length threads → s ≡ get_or threads u s → b ≡ birth_in s.tx
      → birth_of (threads_of state saved holders threads u) ≡ b
  birth_at u b s h here e = ap birth_of (thread_at state saved holders threads u s h here) ∙ (birth_is saved s.tx (saves_of s.log) ∙ sym e)

  pub live_at : (u : ℕ) (b : Bool) (s : ThreadSlot A K) → u < length threads → s ≡ get_or threads u s → b ≡ has_saves s.tx
      → live_in (threads_of state saved holders threads u) ≡ b
  live_at u b s h here e = ap live_in (thread_at state saved holders threads u s h here) ∙ (live_is saved s.tx (saves_of s.log) ∙ sym e)

pub few_of : (p : ℕ → Bool) (f : ℕ → ℕ) (n : ℕ) (o : Option Blockers) (b : Blockers) → Sums p f n o → o ≡ Some b → b.count ≤ n
few_of p f n o b s e = let s' : SumsOf p f n b = subst (λ z. Sums p f n z) e s in let most = count_most p n in let is = s'.count in omega (arith, most, is)
