-- Where the words of a memory lie.
use Rattle.std.proofs.Common.{ℕ, ◌≡◌, ◌==◌, ◌<◌, ◌≤◌, ◌+◌, ◌-◌, ◌*◌, ◌/◌, ◌%◌, ◌^◌, ◌&&◌, ◌||◌, true, false, cond, nat_le, nat_lt, Option, Some, None, refl, ap}
use Rattle.std.proofs.Common.{sym, ◌∙◌, inl, inr, ◌⊎◌, arith}
use Rattle.std.proofs.lemmas.Bool.{eqb-true, eq-eqb, ne_eqb, cases_lt, cases_Bool, ltb-true, leb-true, lt-ltb, le-ltb, le-leb, lt-leb, and_parts, or_parts}
use Rattle.std.proofs.lemmas.Bool.{and_from, or_left}
use Rattle.std.proofs.lemmas.Option.{none-some, same_Some}
use Rattle.tx_events.specs.Memory.{MemoryLayout, in_globals, in_stacks, globals_end, word_of, is_mapped, is_aligned, can_access}
use Rattle.tx_events.specs.Thread.{is_size}
use Rattle.tx_events.specs.declared.GlobalCell.{GlobalCell}
use Rattle.tx_memory.specs.Cells.{lies_within}
use Rattle.tx_memory.proofs.BitParts.{moved, some_size}
use Rattle.tx_memory.specs.Words.{slot_of, word_count}

-- the word at slot i of the globals, or of a stack, holds the byte
pub record InGlobals (p : MemoryLayout) (a i : ℕ) : Type 0 where
  pub from : 65536 ≤ a
  pub to : a < globals_end p
  pub is : i ≡ (a - 65536) / 8

pub record InStack (p : MemoryLayout) (a i : ℕ) : Type 0 where
  pub from : 16777216 ≤ a
  pub thread : (a - 16777216) / 131072 < p.limit
  pub to : (a - 16777216) % 131072 < 65536
  pub is : i ≡ p.globals / 8 + (a - 16777216) / 131072 * 8192 + (a - 16777216) % 131072 / 8

abbrev stack_slot : MemoryLayout → ℕ → ℕ
stack_slot p a = p.globals / 8 + (a - 16777216) / 131072 * 8192 + (a - 16777216) % 131072 / 8

abbrev in_stack : MemoryLayout → ℕ → Option ℕ
in_stack p a = cond (in_stacks p a) (Some (stack_slot p a)) None

pub slot_cases : (p : MemoryLayout) (a i : ℕ) → slot_of p a ≡ Some i → InGlobals p a i ⊎ InStack p a i
slot_cases p a i e = elim (cases_Bool (in_globals p a)) [
  | inl g ↦
      let both = and_parts (nat_le 65536 a) (nat_lt a (globals_end p)) g in
      let at : (a - 65536) / 8 ≡ i = same_Some ((a - 65536) / 8) i (sym (ap (λ b. cond b (Some ((a - 65536) / 8)) (in_stack p a)) g) ∙ e) in
      inl (record { from = leb-true 65536 a both.0; to = ltb-true a (globals_end p) both.1; is = sym at })
  | inr n ↦ elim (cases_Bool (in_stacks p a)) [
    | inl s ↦
        let both = and_parts (nat_le 16777216 a && nat_lt ((a - 16777216) / 131072) p.limit) (nat_lt ((a - 16777216) % 131072) 65536) s in
        let first = and_parts (nat_le 16777216 a) (nat_lt ((a - 16777216) / 131072) p.limit) both.0 in
        let at : stack_slot p a ≡ i = same_Some (stack_slot p a) i
        (sym (ap (λ b. cond b (Some ((a - 65536) / 8)) (in_stack p a)) n ∙ ap (λ b. cond b (Some (stack_slot p a)) None) s) ∙ e) in
        inr (record {
          from = leb-true 16777216 a first.0;
          thread = ltb-true ((a - 16777216) / 131072) p.limit first.1;
          to =
              ltb-true ((a - 16777216) % 131072) 65536 both.1;
          is = sym at;
        })
    | inr m ↦ absurd (none-some i (sym (ap (λ b. cond b (Some ((a - 65536) / 8)) (in_stack p a)) n ∙ ap (λ b. cond b (Some (stack_slot p a)) None) m) ∙ e))
  ]
]

pub slot_within : (p : MemoryLayout) (a i : ℕ) → p.globals % 8 ≡ 0 → slot_of p a ≡ Some i → i < word_count p
slot_within p a i w e = elim (slot_cases p a i e) [
  | inl g ↦ omega (arith, w, g.from, g.to, g.is)
  | inr s ↦ omega (arith, w, s.from, s.thread, s.to, s.is)
]

-- two words have two slots
pub one_word : (p : MemoryLayout) (a b i : ℕ) → p.globals % 8 ≡ 0 → a % 8 ≡ 0 → b % 8 ≡ 0 → slot_of p a ≡ Some i → slot_of p b ≡ Some i → a ≡ b
one_word p a b i w x y e f = elim (slot_cases p a i e) [
  | inl g ↦ elim (slot_cases p b i f) [
    | inl h ↦ omega (arith, w, x, y, g.from, g.to, g.is, h.from, h.to, h.is)
    | inr h ↦ absurd (omega (arith, w, g.from, g.to, g.is, h.from, h.to, h.is))
  ]
  | inr g ↦ elim (slot_cases p b i f) [
    | inl h ↦ absurd (omega (arith, w, g.from, g.to, g.is, h.from, h.to, h.is))
    | inr h ↦ omega (arith, x, y, g.from, g.to, g.is, h.from, h.to, h.is)
  ]
]

le_same : (m a b : ℕ) → (m ≤ a → m ≤ b) → (m ≤ b → m ≤ a) → nat_le m a ≡ nat_le m b
le_same m a b f g = elim (cases_lt a m) [
  | inl l ↦ lt-leb m a l ∙ sym (elim (cases_lt b m) [ inl k ↦ lt-leb m b k | inr k ↦ absurd (omega (arith, l, g k)) ])
  | inr l ↦ le-leb m a l ∙ sym (le-leb m b (f l))
]

lt_same : (a b m n : ℕ) → (a < m → b < n) → (b < n → a < m) → nat_lt a m ≡ nat_lt b n
lt_same a b m n f g = elim (cases_lt a m) [
  | inl l ↦ lt-ltb a m l ∙ sym (lt-ltb b n (f l))
  | inr l ↦ le-ltb a m l ∙ sym (elim (cases_lt b n) [ inl k ↦ absurd (omega (arith, l, g k)) | inr k ↦ le-ltb b n k ])
]

-- a word lies where its bytes lie
in_globals_word : (p : MemoryLayout) (a : ℕ) → in_globals p (a - a % 8) ≡ in_globals p a
in_globals_word p a =
    ap (λ b. b && nat_lt (a - a % 8) (globals_end p)) (le_same 65536 (a - a % 8) a (λ h. omega (arith, h)) (λ h. omega (arith, h)))
    ∙ ap (λ b. nat_le 65536 a && b) (lt_same (a - a % 8) a (globals_end p) (globals_end p) (λ h. omega (arith, h)) (λ h. omega (arith, h)))

word_thread : (a : ℕ) → 16777216 ≤ a → (a - a % 8 - 16777216) / 131072 ≡ (a - 16777216) / 131072
word_thread a h = omega (arith, h)

word_offset : (a : ℕ) → 16777216 ≤ a → (a - a % 8 - 16777216) % 131072 / 8 ≡ (a - 16777216) % 131072 / 8
word_offset a h = omega (arith, h)

word_low : (a : ℕ) → 65536 ≤ a → (a - a % 8 - 65536) / 8 ≡ (a - 65536) / 8
word_low a h = omega (arith, h)

word_inside : (a : ℕ) → 16777216 ≤ a → nat_lt ((a - a % 8 - 16777216) % 131072) 65536 ≡ nat_lt ((a - 16777216) % 131072) 65536
word_inside a h = lt_same ((a - a % 8 - 16777216) % 131072) ((a - 16777216) % 131072) 65536 65536 (λ k. omega (arith, h, word_offset a h, k))
    (λ k. omega (arith, h, word_offset a h, k))

in_stacks_word : (p : MemoryLayout) (a : ℕ) → in_stacks p (a - a % 8) ≡ in_stacks p a
in_stacks_word p a =
    let w : ℕ = a - a % 8 in
    let same : nat_le 16777216 w ≡ nat_le 16777216 a = le_same 16777216 (a - a % 8) a (λ h. omega (arith, h)) (λ h. omega (arith, h)) in
    elim (cases_lt a 16777216) [
      | inl l ↦
          let none : nat_le 16777216 a ≡ false = lt-leb 16777216 a l in
          ap (λ b. b && nat_lt ((w - 16777216) / 131072) p.limit && nat_lt ((w - 16777216) % 131072) 65536) (same ∙ none)
          ∙ sym (ap (λ b. b && nat_lt ((a - 16777216) / 131072) p.limit && nat_lt ((a - 16777216) % 131072) 65536) none)
      | inr h ↦
          ap (λ b. b && nat_lt ((w - 16777216) / 131072) p.limit && nat_lt ((w - 16777216) % 131072) 65536) same
          ∙ (ap (λ n. nat_le 16777216 a && nat_lt n p.limit && nat_lt ((w - 16777216) % 131072) 65536) (word_thread a h)
          ∙ ap (λ b. nat_le 16777216 a && nat_lt ((a - 16777216) / 131072) p.limit && b) (word_inside a h))
    ]

pub slot_of_word : (p : MemoryLayout) (a : ℕ) → slot_of p (word_of a) ≡ slot_of p a
unfolding word_of
slot_of_word p a = elim (cases_Bool (in_globals p a)) [
  | inl g ↦
      let from : 65536 ≤ a = leb-true 65536 a (and_parts (nat_le 65536 a) (nat_lt a (globals_end p)) g).0 in
      ap (λ b. cond b (Some ((a - a % 8 - 65536) / 8)) (in_stack p (a - a % 8))) (in_globals_word p a ∙ g)
      ∙ (ap Some (word_low a from) ∙ sym (ap (λ b. cond b (Some ((a - 65536) / 8)) (in_stack p a)) g))
  | inr n ↦
      ap (λ b. cond b (Some ((a - a % 8 - 65536) / 8)) (in_stack p (a - a % 8))) (in_globals_word p a ∙ n)
      ∙ (elim (cases_Bool (in_stacks p a)) [
        | inl s ↦
            let from : 16777216 ≤ a = leb-true 16777216 a
            (and_parts (nat_le 16777216 a) (nat_lt ((a - 16777216) / 131072) p.limit)
            (and_parts (nat_le 16777216 a && nat_lt ((a - 16777216) / 131072) p.limit) (nat_lt ((a - 16777216) % 131072) 65536) s).0).0 in
            let same : stack_slot p (a - a % 8) ≡ stack_slot p a = omega (arith, word_thread a from, word_offset a from) in
            ap (λ b. cond b (Some (stack_slot p (a - a % 8))) None) (in_stacks_word p a ∙ s)
            ∙ (ap Some same ∙ sym (ap (λ b. cond b (Some (stack_slot p a)) None) s))
        | inr m ↦ ap (λ b. cond b (Some (stack_slot p (a - a % 8))) None) (in_stacks_word p a ∙ m) ∙ sym (ap (λ b. cond b (Some (stack_slot p a)) None) m)
      ] ∙ sym (ap (λ b. cond b (Some ((a - 65536) / 8)) (in_stack p a)) n))
]

pub word_of_whole : (a : ℕ) → word_of a % 8 ≡ 0
unfolding word_of
word_of_whole a = omega arith

unmapped : (p : MemoryLayout) (a : ℕ) → is_mapped p a ≡ false → slot_of p a ≡ None
unfolding is_mapped
unmapped p a h =
    let both = or_parts (in_globals p a) (in_stacks p a) h in
    ap (λ b. cond b (Some ((a - 65536) / 8)) (in_stack p a)) both.0 ∙ ap (λ b. cond b (Some (stack_slot p a)) None) both.1

mapped : (p : MemoryLayout) (a : ℕ) → is_mapped p a ≡ true → (i : ℕ) × (slot_of p a ≡ Some i)
unfolding is_mapped
mapped p a h = elim (cases_Bool (in_globals p a)) [
  | inl g ↦ ((a - 65536) / 8, ap (λ b. cond b (Some ((a - 65536) / 8)) (in_stack p a)) g)
  | inr n ↦ (
    stack_slot p a,
    ap (λ b. cond b (Some ((a - 65536) / 8)) (in_stack p a)) n ∙ ap (λ b. cond b (Some (stack_slot p a)) None)
        (sym (ap (λ b. b || in_stacks p a) n) ∙ h),
  )
]

-- an access that is aligned has a slot exactly where it does not trap
pub aligned_slot : (p : MemoryLayout) (a size : ℕ) → a % size ≡ 0 → slot_of p a ≡ cond (can_access p a size) (slot_of p a) None
unfolding can_access is_aligned
aligned_slot p a size h =
    let same : can_access p a size ≡ is_mapped p a = ap (λ b. b && is_mapped p a) (eq-eqb (a % size) 0 h) in
    elim (cases_Bool (is_mapped p a)) [
      | inl m ↦ sym (ap (λ b. cond b (slot_of p a) None) (same ∙ m))
      | inr m ↦ unmapped p a m ∙ sym (ap (λ b. cond b (slot_of p a) None) (same ∙ m))
    ]

pub misaligned : (p : MemoryLayout) (a size : ℕ) → (a % size ≡ 0 → ⊥) → can_access p a size ≡ false
unfolding can_access is_aligned
misaligned p a size h = ap (λ b. b && is_mapped p a) (ne_eqb (a % size) 0 h)

access_mapped : (p : MemoryLayout) (a size : ℕ) → can_access p a size ≡ true → is_mapped p a ≡ true
unfolding can_access
access_mapped p a size k = (and_parts (is_aligned a size) (is_mapped p a) k).1

pub access_aligned : (p : MemoryLayout) (a size : ℕ) → can_access p a size ≡ true → a % size ≡ 0
unfolding can_access is_aligned
access_aligned p a size k = eqb-true (a % size) 0 (and_parts (is_aligned a size) (is_mapped p a) k).0

-- what the slot of an access says of it
pub accessed : (p : MemoryLayout) (a size i : ℕ) → Some i ≡ cond (can_access p a size) (slot_of p a) None → (can_access p a size ≡ true)
    × (slot_of p a ≡ Some i)
accessed p a size i e = elim (can_access p a size) as (λ b. Some i ≡ cond b (slot_of p a) None → (b ≡ true) × (slot_of p a ≡ Some i)) [
  | true ↦ λ k.
      (refl, sym k)
  | false ↦ λ k. absurd (none-some i (sym k))
] e

pub not_accessed : (p : MemoryLayout) (a size : ℕ) → None ≡ cond (can_access p a size) (slot_of p a) None → can_access p a size ≡ false
not_accessed p a size e = elim (cases_Bool (can_access p a size)) [
  | inl k ↦
      let slot = mapped p a (access_mapped p a size k) in
      absurd (none-some slot.0 (e ∙ (ap (λ b. cond b (slot_of p a) None) k ∙ slot.1)))
  | inr k ↦ k
]

-- a cell that lies within the globals is mapped and aligned
pub cell_access : (size limit : ℕ) (c : GlobalCell) → lies_within size c ≡ true
    → can_access (record { globals = size; limit = limit }) (65536 + c.offset) c.size ≡ true
unfolding can_access is_aligned is_mapped
cell_access size limit c h =
    let p : MemoryLayout = record { globals = size; limit = limit } in
    let all = and_parts (is_size c.size && c.offset % c.size == 0 && nat_le (c.offset + c.size) size) (nat_lt c.value (2 ^ (8 * c.size))) h in
    let most = and_parts (is_size c.size && c.offset % c.size == 0) (nat_le (c.offset + c.size) size) all.0 in
    let first = and_parts (is_size c.size) (c.offset % c.size == 0) most.0 in
    let end : c.offset + c.size ≤ size = leb-true (c.offset + c.size) size most.1 in
    let some : 0 < c.size = some_size c.size first.0 in
    let aligned : ((65536 + c.offset) % c.size == 0) ≡ true =
    eq-eqb ((65536 + c.offset) % c.size) 0 (moved c.offset c.size first.0 (eqb-true (c.offset % c.size) 0 first.1)) in
    let low : nat_le 65536 (65536 + c.offset) ≡ true = le-leb 65536 (65536 + c.offset) (omega arith) in
    let high : nat_lt (65536 + c.offset) (globals_end p) ≡ true = lt-ltb (65536 + c.offset) (globals_end p) (omega (arith, end, some)) in
    and_from (is_aligned (65536 + c.offset) c.size) (is_mapped p (65536 + c.offset)) aligned
    (or_left (in_globals p (65536 + c.offset)) (in_stacks p (65536 + c.offset))
    (and_from (nat_le 65536 (65536 + c.offset)) (nat_lt (65536 + c.offset) (globals_end p)) low high))
