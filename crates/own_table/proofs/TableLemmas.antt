-- Tables after a write of one stripe, and what a sound record says.
use Rattle.std.proofs.Common.{ℕ, ◌≡◌, ◌==◌, ◌<◌, ◌≤◌, ◌+◌, ◌&&◌, ◌↔◌, Bool, true, false, not, cond, nat_lt, zero, suc, [], ◌∷◌, ◌++◌, Option, Some, None, List}
use Rattle.std.proofs.Common.{length, get_or, IsSome, is_none, refl, ap, sym, ◌∙◌, subst, inl, inr, arith}
use Rattle.std.proofs.Math.ListN.{set, length-set}
use Rattle.std.specs.Prelude.{is_some, slice_get}
use Rattle.std.specs.List.{list_all}
use Rattle.std.proofs.lemmas.Bool.{eqb-true, eqb-false, eq-eqb, ne_eqb, cases_eq, cases_Bool, cases_lt, true≢false, false≢true, and_parts, not-true}
use Rattle.std.proofs.lemmas.List.{get_or-set_same, get_or-set_other}
use Rattle.std.proofs.lemmas.Option.{slice_get_past, slice_get_read, slice_get-get_or, none-some, same_Some}
use Rattle.tx_events.proofs.ListLemmas.{get_set}
use Rattle.own_table.specs.declared.TheConstants.{STRIPES}
use Rattle.own_table.specs.Bits.{has_bit}
use Rattle.own_table.specs.declared.hold.HoldRec.{HoldRec}
use Rattle.own_table.specs.declared.hold.Mode.{Mode}
use Rattle.own_table.specs.declared.hold.Mode.TheVariants.{Read, Write}
use Rattle.own_table.specs.declared.stripe.Stripe.{Stripe}
use Rattle.own_table.specs.declared.held.HeldWords.{HeldWords}
use Rattle.own_table.specs.Records.{record_of, mode_in, mode_of, stripe_of, writer_reads, is_reader, is_writer, is_free, is_sound, raised}
use Rattle.own_table.specs.Words.{times_in}
use Rattle.own_table.proofs.LeastWord.{one}
use Rattle.own_table.proofs.ThreadSets.{has_bit_none, bit_from_not_zero}
use Rattle.own_table.proofs.RecordLists.{found_is, list_all-at, record_of-own}
use Rattle.std.specs.BinaryHeap.{heap_items, heap_len, heap_capacity}
use Rattle.own_table.specs.Stripes.{records_in, records_at, hold_at, words_in, words_at, IsPlaced, HasSpare}

pub records_at-set : (xs : List Stripe) (i : ℕ) (v : Stripe) (s : ℕ) → i < length xs
    → records_at (set xs i v) s ≡ cond (s == i) v.records.items (records_at xs s)
records_at-set xs i v s h = ap records_in (get_set xs i v s h)
    ∙ elim (s == i) as (λ b. records_in (cond b (Some v) (slice_get xs s)) ≡ cond b v.records.items (records_at xs s)) [ true ↦ refl | false ↦ refl ]

-- the lists keep their spare room where one of them changed, and keeps at least so much
pub spare_set : (held : List HeldWords) (t : ℕ) (v : HeldWords) (n m : ℕ) → t < length held → m ≤ n → HasSpare held n
    → heap_len v.words + m ≤ heap_capacity v.words → HasSpare (set held t v) m
spare_set held t v n m l less spare fits u h e =
    elim (u == t) as (λ b. cond b (Some v) (slice_get held u) ≡ Some h → heap_len h.words + m ≤ heap_capacity h.words) [
      | true ↦ λ q. subst (λ (z : HeldWords). heap_len z.words + m ≤ heap_capacity z.words) (same_Some v h q) fits
      | false ↦ λ q. omega (arith, spare u h q, less)
    ] (sym (get_set held t v u l) ∙ e)

pub words_at-set : (xs : List HeldWords) (i : ℕ) (v : HeldWords) (t : ℕ) → i < length xs
    → words_at (set xs i v) t ≡ cond (t == i) (words_in (Some v)) (words_at xs t)
words_at-set xs i v t h = ap words_in (get_set xs i v t h)
    ∙ elim (t == i) as (λ b. words_in (cond b (Some v) (slice_get xs t)) ≡ cond b (words_in (Some v)) (words_at xs t)) [ true ↦ refl | false ↦ refl ]

-- the holds after the record of one word became r
pub hold_at-set : (xs : List Stripe) (word : ℕ) (v : Stripe) (r : Option HoldRec) → length xs ≡ STRIPES
    → ((w : ℕ) → record_of v.records.items w ≡ cond (word == w) r (record_of (records_at xs (stripe_of word)) w)) → (u w : ℕ)
    → hold_at (set xs (stripe_of word) v) u w ≡ cond (word == w) (mode_in r u) (hold_at xs u w)
hold_at-set xs word v r l found u w =
    let within : stripe_of word < length xs = omega arith in
    ap (λ rs. mode_in (record_of rs w) u) (records_at-set xs (stripe_of word) v (stripe_of w) within)
    ∙ elim (cases_eq (stripe_of w) (stripe_of word)) [
      | inl e ↦
          ap (λ b. mode_in (record_of (cond b v.records.items (records_at xs (stripe_of w))) w) u) (eq-eqb (stripe_of w) (stripe_of word) e)
          ∙ (ap (λ o. mode_in o u) (found w) ∙ (ap (λ s. mode_in (cond (word == w) r (record_of (records_at xs s) w)) u) (sym e)
          ∙ elim (word == w) as (λ b. mode_in (cond b r (record_of (records_at xs (stripe_of w)) w)) u ≡ cond b (mode_in r u)
          (hold_at xs u w)) [ true ↦ refl | false ↦ refl ]))
      | inr d ↦
          ap (λ b. mode_in (record_of (cond b v.records.items (records_at xs (stripe_of w))) w) u) (ne_eqb (stripe_of w) (stripe_of word) d)
          ∙ sym (ap (λ b. cond b (mode_in r u) (hold_at xs u w)) (ne_eqb word w (λ e. d (ap stripe_of (sym e)))))
    ]

-- where the one record has changed the hold of one thread
pub one_hold : (word t : ℕ) (new : Option Mode) (r : Option HoldRec) (old : ℕ → ℕ → Option Mode) → ((u : ℕ) → mode_in r u ≡ cond (u == t) new (old u word))
    → (u w : ℕ) → cond (word == w) (mode_in r u) (old u w) ≡ cond (u == t && word == w) new (old u w)
one_hold word t new r old changed u w = elim (cases_Bool (word == w)) [
  | inl e ↦
      ap (λ b. cond b (mode_in r u) (old u w)) e ∙ (changed u ∙ (ap (λ x. cond (u == t) new (old u x)) (eqb-true word w e)
      ∙ sym (ap (λ b. cond (u == t && b) new (old u w)) e ∙ elim
      (u == t) as (λ b. cond (b && true) new (old u w) ≡ cond b new (old u w)) [ true ↦ refl | false ↦ refl ])))
  | inr e ↦
      ap (λ b. cond b (mode_in r u) (old u w)) e
      ∙ sym (ap (λ b. cond (u == t && b) new (old u w)) e ∙ elim (u == t) as (λ b. cond (b && false) new (old u w) ≡ old u w) [ true ↦ refl | false ↦ refl ])
]

pub placed-set : (xs : List Stripe) (word : ℕ) (v : Stripe) → length xs ≡ STRIPES → IsPlaced xs
    → list_all (λ r. stripe_of r.word == stripe_of word) v.records.items ≡ true → IsPlaced (set xs (stripe_of word) v)
placed-set xs word v l placed here s =
    let within : stripe_of word < length xs = omega arith in
    let all : ℕ → List HoldRec → Bool = λ n rs. list_all (λ r. stripe_of r.word == n) rs in
    ap (all s) (records_at-set xs (stripe_of word) v s within) ∙ elim (cases_Bool (s == stripe_of word)) [
      | inl e ↦ ap (λ b. all s (cond b v.records.items (records_at xs s))) e ∙ (ap (λ n. all n v.records.items) (eqb-true s (stripe_of word) e) ∙ here)
      | inr e ↦ ap (λ b. all s (cond b v.records.items (records_at xs s))) e ∙ placed s
    ]

-- the stripe and the words that were borrowed are those of the table
pub stripe_there : (xs : List Stripe) (i s : ℕ) (v : Stripe) → i ≡ s → i < length xs → v ≡ get_or xs i v → records_at xs s ≡ v.records.items
stripe_there xs i s v e l here = ap (records_at xs) (sym e) ∙ ap records_in (slice_get_read xs (length xs) i v refl l here)

-- the same of the stripe at an index, whose records were those of the word's stripe before
pub placed_at : (xs : List Stripe) (word i : ℕ) (before v : Stripe) → length xs ≡ STRIPES → i ≡ stripe_of word → before ≡ get_or xs i before → IsPlaced xs
    → (list_all (λ r. stripe_of r.word == stripe_of word) before.records.items ≡ true
    → list_all (λ r. stripe_of r.word == stripe_of word) v.records.items ≡ true) → IsPlaced (set xs i v)
placed_at xs word i before v l e here placed kept =
    let p : HoldRec → Bool = λ r. stripe_of r.word == stripe_of word in
    let was : list_all p before.records.items ≡ true = ap (list_all p) (sym (stripe_there xs i (stripe_of word) before e (omega arith) here))
    ∙ placed (stripe_of word) in
    rw e (placed-set xs word v l placed (kept was))

abbrev mode_by : Bool → Bool → Option Mode
mode_by w b = cond w (Some Write) (cond b (Some Read) None)

reader : (b : Bool) → b ≡ is_some (mode_by false b)
reader true = refl
reader false = refl

reads_by : (n : ℕ) (w : Option ℕ) (u : ℕ) → is_reader n w ≡ true → has_bit n u ≡ is_some (mode_by (is_writer w u) (has_bit n u))
reads_by n None u h = reader (has_bit n u)
reads_by n (Some t) u h = elim (cases_Bool (u == t)) [
  | inl e ↦ ap (has_bit n) (eqb-true u t e) ∙ ((and_parts (nat_lt t 64) (has_bit n t) h).1 ∙ sym (ap (λ w. is_some (mode_by w (has_bit n u))) e))
  | inr e ↦ reader (has_bit n u) ∙ sym (ap (λ w. is_some (mode_by w (has_bit n u))) e)
]

-- a record whose writer reads has a bit for exactly the threads that hold its word
pub reads_exactly : (r : HoldRec) (u : ℕ) → writer_reads r ≡ true → has_bit r.readers u ≡ is_some (mode_of r u)
reads_exactly r u h = reads_by r.readers r.writer u h

not_write : (b : Bool) → mode_by false b ≡ Some Write → ⊥
not_write true e = cc
not_write false e = cc

writes_by : (w : Option ℕ) (u : ℕ) (b : Bool) → (w ≡ Some u) ↔ (mode_by (is_writer w u) b ≡ Some Write)
writes_by None u b = (λ e. absurd (none-some u e), λ e. absurd (not_write b e))
writes_by (Some t) u b = (
  λ e. ap (λ w. mode_by w b) (eq-eqb u t (sym (same_Some t u e))),
  λ e. elim (cases_Bool (u == t)) [
    | inl q ↦ ap Some (sym (eqb-true u t q))
    | inr q ↦ absurd (not_write b (sym (ap (λ w. mode_by w b) q) ∙ e))
  ],
)

pub writes_exactly : (r : HoldRec) (u : ℕ) → (r.writer ≡ Some u) ↔ (mode_of r u ≡ Some Write)
writes_exactly r u = writes_by r.writer u (has_bit r.readers u)

-- a list after a push, index by index
pub each_get-push : {X : Type 0} (P : Option X → Type 0) (xs : List X) (v : X) → P None → P (Some v) → ((s : ℕ) → P (slice_get xs s)) → (s : ℕ)
    → P (slice_get (xs ++ v ∷ []) s)
each_get-push P [] v none here all zero = here
each_get-push P [] v none here all (suc s) = none
each_get-push P (x ∷ xs) v none here all zero = all zero
each_get-push P (x ∷ xs) v none here all (suc s) = each_get-push P xs v none here (λ k. all (suc k)) s

pub words_there : (xs : List HeldWords) (t : ℕ) (v : HeldWords) → t < length xs → v ≡ get_or xs t v → words_at xs t ≡ words_in (Some v)
words_there xs t v l here = ap words_in (slice_get_read xs (length xs) t v refl l here)

-- the holds after the record of one word has changed the hold of one thread
pub holds_changed : (xs : List Stripe) (word i t k : ℕ) (before v : Stripe) (r : Option HoldRec) (new : Option Mode) → length xs ≡ STRIPES → i ≡ stripe_of word
    → before ≡ get_or xs i before → k ≡ word → ((w : ℕ) → record_of v.records.items w ≡ cond (k == w) r (record_of before.records.items w))
    → ((u : ℕ) → mode_in r u ≡ cond (u == t) new (hold_at xs u word)) → (u w : ℕ) → hold_at (set xs i v) u w ≡ cond (u == t && word == w) new (hold_at xs u w)
holds_changed xs word i t k before v r new l at here same found changed u w =
    let within : i < length xs = omega arith in
    let there : records_at xs (stripe_of word) ≡ before.records.items = stripe_there xs i (stripe_of word) before at within here in
    let found_there : (w : ℕ) → record_of v.records.items w ≡ cond (word == w) r (record_of (records_at xs (stripe_of word)) w) = λ w. found w
    ∙ (ap (λ n. cond (n == w) r (record_of before.records.items w)) same ∙ ap (λ rs. cond (word == w) r (record_of rs w)) (sym there)) in
    ap (λ n. hold_at (set xs n v) u w) at ∙ (hold_at-set xs word v r l found_there u w ∙ one_hold word t new r (hold_at xs) changed u w)

none_from : (o : Option Mode) → is_some o ≡ false → o ≡ None
none_from None h = refl
none_from (Some m) h = absurd (true≢false h)

-- a record that no thread reads says of each thread that it holds nothing
pub free_says_none : (r : HoldRec) (u : ℕ) → writer_reads r ≡ true → is_free r ≡ true → mode_of r u ≡ None
free_says_none r u reads free = none_from (mode_of r u) (sym (reads_exactly r u reads) ∙ (ap (λ n. has_bit n u) (eqb-true r.readers 0 free) ∙ has_bit_none u))

raised_some : (o : Option Mode) (mode : Mode) → is_some (raised o mode) ≡ true
raised_some None mode = refl
raised_some (Some Read) mode = refl
raised_some (Some Write) mode = refl

-- a count of 1 exactly where there is a hold
abbrev pub held_once : Option Mode → ℕ
held_once o = one (is_some o)

abbrev pub Taken : (t word : ℕ) → Mode → (ℕ → ℕ → Option Mode) → (ℕ → ℕ → Option Mode) → Type 0
Taken t word mode old new = (u w : ℕ) → new u w ≡ cond (u == t && word == w) (raised (old t word) mode) (old u w)

abbrev pub Counts : List HeldWords → (ℕ → ℕ → Option Mode) → Type 0
Counts held holds = (u w : ℕ) → u < length held → times_in (words_at held u) w ≡ held_once (holds u w)

elsewhere : (u t word w : ℕ) (x y : Option Mode) → (u == t) ≡ false → cond (u == t && word == w) x y ≡ y
elsewhere u t word w x y e = ap (λ b. cond (b && word == w) x y) e

at_word : (u t word w : ℕ) (x y : Option Mode) → (u == t) ≡ true → cond (u == t && word == w) x y ≡ cond (word == w) x y
at_word u t word w x y e = ap (λ b. cond (b && word == w) x y) e

none_counts : (o : Option Mode) → is_none o ≡ true → held_once o ≡ 0
none_counts None h = refl
none_counts (Some m) h = absurd (false≢true h)

some_counts : (o : Option Mode) → is_none o ≡ false → held_once o ≡ 1
some_counts None h = absurd (true≢false h)
some_counts (Some m) h = refl

-- a word that is new to the thread joins its words
pub counts_new : (held : List HeldWords) (before v : HeldWords) (t word : ℕ) (mode : Mode) (old new : ℕ → ℕ → Option Mode) → t < length held
    → before ≡ get_or held t before → Counts held old → Taken t word mode old new → is_none (old t word) ≡ true
    → ((w : ℕ) → times_in (heap_items v.words) w ≡ times_in (heap_items before.words) w + one (word == w)) → Counts (set held t v) new
counts_new held before v t word mode old new l here counts taken free added u w within =
    let in_held : u < length held = omega (arith, length-set held t v) in
    ap (λ ws. times_in ws w) (words_at-set held t v u l) ∙ elim (cases_Bool (u == t)) [
      | inl e ↦
          let same : u ≡ t = eqb-true u t e in
          let was : times_in (heap_items before.words) w ≡ held_once (old t w) = ap (λ ws. times_in ws w) (sym (words_there held t before l here))
          ∙ counts t w l in
          ap (λ b. times_in (cond b (heap_items v.words) (words_at held u)) w) e ∙ (added w ∙ elim (cases_Bool (word == w)) [
            | inl q ↦
                let nothing : held_once (old t w) ≡ 0 = ap (λ x. held_once (old t x)) (sym (eqb-true word w q)) ∙ none_counts (old t word) free in
                let one_more : one (word == w) ≡ 1 = ap one q in
                let now : held_once (new u w) ≡ 1 = ap held_once
                (taken u w ∙ (at_word u t word w (raised (old t word) mode) (old u w) e ∙ ap (λ b. cond b (raised (old t word) mode) (old u w)) q))
                ∙ ap one (raised_some (old t word) mode) in
                omega (arith, was, nothing, one_more, now)
            | inr q ↦
                let no_more : one (word == w) ≡ 0 = ap one q in
                let now : held_once (new u w) ≡ held_once (old t w) =
                ap held_once (taken u w ∙ (at_word u t word w (raised (old t word) mode) (old u w) e ∙ ap
                (λ b. cond b (raised (old t word) mode) (old u w)) q)) ∙ ap (λ x. held_once (old x w)) same in
                omega (arith, was, no_more, now)
          ])
      | inr e ↦ ap (λ b. times_in (cond b (heap_items v.words) (words_at held u)) w) e
          ∙ (counts u w in_held ∙ sym (ap held_once (taken u w ∙ elsewhere u t word w (raised (old t word) mode) (old u w) e)))
    ]

-- a word that the thread held already is there
pub counts_raised : (held : List HeldWords) (t word : ℕ) (mode : Mode) (old new : ℕ → ℕ → Option Mode) → Counts held old → Taken t word mode old new
    → is_none (old t word) ≡ false → Counts held new
counts_raised held t word mode old new counts taken there u w within = counts u w within ∙ elim (cases_Bool (u == t && word == w)) [
  | inl e ↦
      let both = and_parts (u == t) (word == w) e in
      let was : held_once (old u w) ≡ 1 = ap (λ x. held_once (old x w)) (eqb-true u t both.0)
      ∙ (ap (λ x. held_once (old t x)) (sym (eqb-true word w both.1)) ∙ some_counts (old t word) there) in
      was ∙ sym (ap held_once (taken u w ∙ ap (λ b. cond b (raised (old t word) mode) (old u w)) e) ∙ ap one (raised_some (old t word) mode))
  | inr e ↦ sym (ap held_once (taken u w ∙ ap (λ b. cond b (raised (old t word) mode) (old u w)) e))
]

one_le : (b : Bool) → one b ≤ 1
one_le true = omega arith
one_le false = omega arith

-- a word that was released leaves the thread's words
pub counts_released : (held : List HeldWords) (before v : HeldWords) (t word : ℕ) (old new : ℕ → ℕ → Option Mode) → t < length held
    → before ≡ get_or held t before → Counts held old → ((u w : ℕ) → new u w ≡ cond (u == t && word == w) None (old u w))
    → ((w : ℕ) → times_in (heap_items before.words) w ≡ times_in (heap_items v.words) w + one (word == w)) → Counts (set held t v) new
counts_released held before v t word old new l here counts released taken u w within =
    let in_held : u < length held = omega (arith, length-set held t v) in
    ap (λ ws. times_in ws w) (words_at-set held t v u l) ∙ elim (cases_Bool (u == t)) [
      | inl e ↦
          let was : times_in (heap_items before.words) w ≡ held_once (old t w) = ap (λ ws. times_in ws w) (sym (words_there held t before l here))
          ∙ counts t w l in
          ap (λ b. times_in (cond b (heap_items v.words) (words_at held u)) w) e ∙ elim (cases_Bool (word == w)) [
            | inl q ↦
                let one_less : one (word == w) ≡ 1 = ap one q in
                let now : held_once (new u w) ≡ 0 = ap held_once (released u w ∙ (at_word u t word w None (old u w) e ∙ ap (λ b. cond b None (old u w)) q)) in
                omega (arith, was, one_less, now, taken w, one_le (is_some (old t w)))
            | inr q ↦
                let no_less : one (word == w) ≡ 0 = ap one q in
                let now : held_once (new u w) ≡ held_once (old t w) =
                ap held_once (released u w ∙ (at_word u t word w None (old u w) e ∙ ap (λ b. cond b None (old u w)) q))
                ∙ ap (λ x. held_once (old x w)) (eqb-true u t e) in
                omega (arith, was, no_less, now, taken w)
          ]
      | inr e ↦ ap (λ b. times_in (cond b (heap_items v.words) (words_at held u)) w) e
          ∙ (counts u w in_held ∙ sym (ap held_once (released u w ∙ elsewhere u t word w None (old u w) e)))
    ]

-- what a count says of a hold
pub none_from_count : (o : Option Mode) → held_once o ≡ 0 → o ≡ None
none_from_count None h = refl
none_from_count (Some m) h = absurd (omega (arith, h))

pub some_from_count : (o : Option Mode) → 0 < held_once o → is_some o ≡ true
some_from_count None h = absurd (omega (arith, h))
some_from_count (Some m) h = refl

pub answered : (b : Bool) (o : Option Mode) → is_some o ≡ not b → b ≡ is_none o
answered true None h = refl
answered true (Some m) h = absurd (true≢false h)
answered false None h = absurd (false≢true h)
answered false (Some m) h = refl

pub none_at : {X : Type 0} (f : ℕ → Option X) (word w : ℕ) → f word ≡ None → f w ≡ cond (word == w) None (f w)
none_at {X} f word w e = elim (cases_Bool (word == w)) [
  | inl q ↦ ap f (sym (eqb-true word w q)) ∙ (e ∙ sym (ap (λ b. cond b None (f w)) q))
  | inr q ↦ sym (ap (λ b. cond b None (f w)) q)
]

pub left_at : (b : Bool) (o : Option Mode) → o ≡ None → ◌≡◌ {A = Option Mode} None (cond b None o)
left_at true o e = refl
left_at false o e = sym e

-- a record of a stripe says how each thread holds its word
pub own_record : (xs : List Stripe) (s : ℕ) (v : Stripe) (k : ℕ) (d : HoldRec) → s < length xs → v ≡ get_or xs s v → IsPlaced xs → k < length v.records.items
    → (u : ℕ) → hold_at xs u (get_or v.records.items k d).word ≡ mode_of (get_or v.records.items k d) u
own_record xs s v k d l here placed within u =
    let r : HoldRec = get_or v.records.items k d in
    let there : records_at xs s ≡ v.records.items = stripe_there xs s s v refl l here in
    let at : (stripe_of r.word == s) ≡ true = list_all-at (λ (q : HoldRec). stripe_of q.word == s) v.records.items k d within
    (ap (list_all (λ (q : HoldRec). stripe_of q.word == s)) (sym there) ∙ placed s) in
    ap (λ n. mode_in (record_of (records_at xs n) r.word) u) (eqb-true (stripe_of r.word) s at)
    ∙ (ap (λ rs. mode_in (record_of rs r.word) u) there ∙ ap (λ o. mode_in o u) (record_of-own v.records.items v.once k d within))

sound_reads : (r : HoldRec) → is_sound r ≡ true → writer_reads r ≡ true
sound_reads r h = (and_parts (not (is_free r)) (writer_reads r) h).1

pub own_reads : (xs : List Stripe) (s : ℕ) (v : Stripe) (k : ℕ) (d : HoldRec) → s < length xs → v ≡ get_or xs s v → IsPlaced xs → k < length v.records.items
    → (u : ℕ) → has_bit (get_or v.records.items k d).readers u ≡ is_some (hold_at xs u (get_or v.records.items k d).word)
own_reads xs s v k d l here placed within u =
    reads_exactly (get_or v.records.items k d) u (sound_reads (get_or v.records.items k d) (list_all-at is_sound v.records.items k d within v.sound))
    ∙ ap is_some (sym (own_record xs s v k d l here placed within u))

pub own_writes : (xs : List Stripe) (s : ℕ) (v : Stripe) (k : ℕ) (d : HoldRec) → s < length xs → v ≡ get_or xs s v → IsPlaced xs → k < length v.records.items
    → (u : ℕ) → ((get_or v.records.items k d).writer ≡ Some u) ↔ (hold_at xs u (get_or v.records.items k d).word ≡ Some Write)
own_writes xs s v k d l here placed within u =
    let same = own_record xs s v k d l here placed within u in
    let exactly = writes_exactly (get_or v.records.items k d) u in
    (λ e. same ∙ exactly.0 e, λ e. exactly.1 (sym same ∙ e))

some_in : (o : Option HoldRec) (t : ℕ) → is_some (mode_in o t) ≡ true → is_some o ≡ true
some_in None t h = h
some_in (Some r) t h = refl

the_record : (o : Option HoldRec) → is_some o ≡ true → (r : HoldRec) × (o ≡ Some r)
the_record None h = absurd (false≢true h)
the_record (Some r) h = (r, refl)

-- a stripe has a record of exactly the words that belong into it and are held
pub own_words : (xs : List Stripe) (s : ℕ) (v : Stripe) → s < length xs → v ≡ get_or xs s v → IsPlaced xs → (w : ℕ) → IsSome (record_of v.records.items w)
    ↔ ((stripe_of w ≡ s) × ((t : ℕ) × IsSome (hold_at xs t w)))
own_words xs s v l here placed w =
    let there : records_at xs s ≡ v.records.items = stripe_there xs s s v refl l here in
    let hold : (t : ℕ) → stripe_of w ≡ s → hold_at xs t w ≡ mode_in (record_of v.records.items w) t =
    λ t at. ap (λ n. mode_in (record_of (records_at xs n) w) t) at ∙ ap (λ rs. mode_in (record_of rs w) t) there in (
      λ h.
          let r = the_record (record_of v.records.items w) h in
          let at_place = found_is v.records.items w r.0 (λ (q : HoldRec). stripe_of q.word == s) r.1
          (ap (list_all (λ (q : HoldRec). stripe_of q.word == s)) (sym there) ∙ placed s) in
          let sound = (found_is v.records.items w r.0 is_sound r.1 v.sound).1 in
          let at : stripe_of w ≡ s = ap stripe_of (sym at_place.0) ∙ eqb-true (stripe_of r.0.word) s at_place.1 in
          let bit = bit_from_not_zero r.0.readers (not-true (is_free r.0) (and_parts (not (is_free r.0)) (writer_reads r.0) sound).0) in
          (at, (bit.0, ap is_some (hold bit.0 at ∙ ap (λ o. mode_in o bit.0) r.1) ∙ (sym (reads_exactly r.0 bit.0 (sound_reads r.0 sound)) ∙ bit.1))),
      λ h. some_in (record_of v.records.items w) h.1.0 (sym (ap is_some (hold h.1.0 h.0)) ∙ h.1.1),
    )
