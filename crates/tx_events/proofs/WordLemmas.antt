-- What loads and stores are by words.
use Rattle.std.proofs.Common.{ℕ, pos, List, [], ◌∷◌, lit<, ◌≡◌, ◌<◌, ◌≤◌, ◌+◌, ◌*◌, ◌^◌, ◌/◌, ◌%◌, Bool, true, false, refl, ap, sym, subst, arith}
use Rattle.std.specs.Prelude.{◌&&◌, ◌||◌, ◌-◌, nat_lt, nat_le}
use Rattle.std.proofs.Math.Nat.{mod-lt, mod-eq_of_lt}
use Rattle.std.proofs.lemmas.Bool.{false≢true, ltb-true, leb-true, lt-ltb, le-leb}
use Rattle.std.proofs.lemmas.Nat.{pow_pos}
use Rattle.tx_events.specs.Thread.{IsInt}
use Rattle.tx_events.specs.Memory.{MemoryLayout, read_at, word_of, word_bound, can_access, is_mapped, is_aligned, in_globals, in_stacks, globals_start}
use Rattle.tx_events.specs.Memory.{globals_end, stacks_start, stack_stride, stack_size}
use Rattle.tx_events.specs.World.{byte_of}

pub read_fits : (addr size word : ℕ) → read_at addr size word < 2 ^ (8 * size)
unfolding read_at
read_fits addr size word = mod-lt (word / 2 ^ (8 * (addr % 8))) (pow_pos (8 * size))

-- what an Inp is answered by is an int
pub byte_int : (input : List ℕ) → IsInt (byte_of input)
byte_int [] = lit< tt
byte_int (b ∷ bs) = let less : b % 2 ^ 8 < 2 ^ 8 = mod-lt b (lit< tt) in omega (arith, less)

pub and_left : (b c : Bool) → (b && c) ≡ true → b ≡ true
and_left true c h = refl
and_left false c h = absurd (false≢true h)

pub and_right : (b c : Bool) → (b && c) ≡ true → c ≡ true
and_right true c h = h
and_right false c h = absurd (false≢true h)

both_true : (b c : Bool) → b ≡ true → c ≡ true → (b && c) ≡ true
both_true true c h g = g
both_true false c h g = absurd (false≢true h)

or_left : (b c : Bool) → b ≡ true → (b || c) ≡ true
or_left true c h = refl
or_left false c h = absurd (false≢true h)

or_right : (b c : Bool) → c ≡ true → (b || c) ≡ true
or_right true c h = refl
or_right false c h = h

below_mapped : (p : MemoryLayout) (addr : ℕ) (b c : Bool) → in_globals p addr ≡ b → in_stacks p addr ≡ c → (b || c) ≡ true → addr < word_bound p
unfolding word_bound
below_mapped p addr true c g s h =
    let less : addr < globals_end p = ltb-true addr (globals_end p) (and_right (nat_le globals_start addr) (nat_lt addr (globals_end p)) g) in
    omega (arith, less)
below_mapped p addr false true g s h =
    let reached = nat_le stacks_start addr in
    let started = nat_lt ((addr - stacks_start) / stack_stride) p.limit in
    let both = and_left (reached && started) (nat_lt ((addr - stacks_start) % stack_stride) stack_size) s in
    let least : 16777216 ≤ addr = leb-true 16777216 addr (and_left reached started both) in
    let few : (addr - 16777216) / 131072 < p.limit = ltb-true ((addr - 16777216) / 131072) p.limit (and_right reached started both) in
    omega (arith, least, few)
below_mapped p addr false false g s h = absurd (false≢true h)

-- the word of an access that does not trap
pub access_below : (p : MemoryLayout) (addr size : ℕ) → can_access p addr size ≡ true → word_of addr < word_bound p
unfolding can_access is_mapped word_of
access_below p addr size h =
    let less : addr < word_bound p = below_mapped p addr (in_globals p addr) (in_stacks p addr) refl refl
    (and_right (is_aligned addr size) (in_globals p addr || in_stacks p addr) h) in
    omega (arith, less)

globals_whole : (p : MemoryLayout) (addr k : ℕ) → addr % 8 + k < 8 → in_globals p addr ≡ true → in_globals p (addr + k) ≡ true
globals_whole p addr k h g =
    let least : 65536 ≤ addr = leb-true 65536 addr (and_left (nat_le globals_start addr) (nat_lt addr (globals_end p)) g) in
    let less : addr < globals_end p = ltb-true addr (globals_end p) (and_right (nat_le globals_start addr) (nat_lt addr (globals_end p)) g) in
    both_true (nat_le globals_start (addr + k)) (nat_lt (addr + k) (globals_end p)) (le-leb 65536 (addr + k) (omega (arith, least)))
    (lt-ltb (addr + k) (globals_end p) (omega (arith, less, h)))

stacks_whole : (p : MemoryLayout) (addr k : ℕ) → addr % 8 + k < 8 → in_stacks p addr ≡ true → in_stacks p (addr + k) ≡ true
stacks_whole p addr k h s =
    let reached = nat_le stacks_start addr in
    let started = nat_lt ((addr - stacks_start) / stack_stride) p.limit in
    let inside = nat_lt ((addr - stacks_start) % stack_stride) stack_size in
    let both = and_left (reached && started) inside s in
    let least : 16777216 ≤ addr = leb-true 16777216 addr (and_left reached started both) in
    let few : (addr - 16777216) / 131072 < p.limit = ltb-true ((addr - 16777216) / 131072) p.limit (and_right reached started both) in
    let deep : (addr - 16777216) % 131072 < 65536 = ltb-true ((addr - 16777216) % 131072) 65536 (and_right (reached && started) inside s) in
    let same : (addr + k - 16777216) / 131072 ≡ (addr - 16777216) / 131072 = omega (arith, least, deep, h) in
    let far : (addr + k - 16777216) % 131072 ≡ (addr - 16777216) % 131072 + k = omega (arith, least, deep, h) in
    both_true (nat_le stacks_start (addr + k) && nat_lt ((addr + k - stacks_start) / stack_stride) p.limit)
    (nat_lt ((addr + k - stacks_start) % stack_stride) stack_size)
    (both_true (nat_le stacks_start (addr + k)) (nat_lt ((addr + k - stacks_start) / stack_stride) p.limit)
    (le-leb 16777216 (addr + k) (omega (arith, least)))
    (lt-ltb ((addr + k - 16777216) / 131072) p.limit (subst (λ z. z < p.limit) (sym same) few)))
    (lt-ltb ((addr + k - 16777216) % 131072) 65536 (omega (arith, far, deep, least, h)))

-- all bytes of a word are mapped, or none
pub mapped_whole : (p : MemoryLayout) (addr k : ℕ) → addr % 8 + k < 8 → is_mapped p addr ≡ true → is_mapped p (addr + k) ≡ true
unfolding is_mapped
mapped_whole p addr k h m = either (in_globals p addr) (in_stacks p addr) refl refl m
  where
    either : (b c : Bool) → in_globals p addr ≡ b → in_stacks p addr ≡ c → (b || c) ≡ true → (in_globals p (addr + k) || in_stacks p (addr + k)) ≡ true
    either true c g s o = or_left (in_globals p (addr + k)) (in_stacks p (addr + k)) (globals_whole p addr k h g)
    either false true g s o = or_right (in_globals p (addr + k)) (in_stacks p (addr + k)) (stacks_whole p addr k h s)
    either false false g s o = absurd (false≢true o)

pub is_accessed : (p : MemoryLayout) (addr size : ℕ) → can_access p addr size ≡ true → (is_aligned addr size ≡ true) × (is_mapped p addr ≡ true)
unfolding can_access
is_accessed p addr size h = (and_left (is_aligned addr size) (is_mapped p addr) h, and_right (is_aligned addr size) (is_mapped p addr) h)

-- a byte of input is itself
pub byte_is : (b : ℕ) (bs : List ℕ) → b < 2 ^ 8 → byte_of (b ∷ bs) ≡ pos b
byte_is b bs h = ap (λ z. pos z) (mod-eq_of_lt h)
