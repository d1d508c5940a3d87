-- The word of an access that does not trap is mapped as a whole.
use Rattle.std.proofs.Common.{ℕ, ◌≡◌, ◌<◌, ◌≤◌, ◌/◌, ◌%◌, ◌-◌, Bool, true, false, refl, sym, subst, ap, ◌∙◌, arith, eq-eqb, Option, Some, None, is_some}
use Rattle.std.specs.Prelude.{◌&&◌, ◌||◌, nat_lt, nat_le, if◌then◌else◌}
use Rattle.std.specs.Cmp.Derive.{both_true}
use Rattle.std.proofs.lemmas.Bool.{false≢true, and_parts, ltb-true, leb-true, lt-ltb, le-leb}
use Rattle.tx_events.specs.Memory.{MemoryLayout, word_of, can_access, is_mapped, is_aligned, in_globals, in_stacks, globals_start, globals_end, stacks_start}
use Rattle.tx_events.specs.Memory.{stack_stride, stack_size}
use Rattle.tx_events.proofs.WordLemmas.{is_accessed}

globals_down : (p : MemoryLayout) (addr : ℕ) → in_globals p addr ≡ true → in_globals p (addr - addr % 8) ≡ true
globals_down p addr g =
    let q = and_parts (nat_le globals_start addr) (nat_lt addr (globals_end p)) g in
    let least : 65536 ≤ addr = leb-true 65536 addr q.0 in
    let less : addr < globals_end p = ltb-true addr (globals_end p) q.1 in
    both_true (le-leb 65536 (addr - addr % 8) (omega (arith, least))) (lt-ltb (addr - addr % 8) (globals_end p) (omega (arith, less)))

stacks_down : (p : MemoryLayout) (addr : ℕ) → in_stacks p addr ≡ true → in_stacks p (addr - addr % 8) ≡ true
stacks_down p addr s =
    let reached = nat_le stacks_start addr in
    let started = nat_lt ((addr - stacks_start) / stack_stride) p.limit in
    let inside = nat_lt ((addr - stacks_start) % stack_stride) stack_size in
    let all = and_parts (reached && started) inside s in
    let both = and_parts reached started all.0 in
    let least : 16777216 ≤ addr = leb-true 16777216 addr both.0 in
    let few : (addr - 16777216) / 131072 < p.limit = ltb-true ((addr - 16777216) / 131072) p.limit both.1 in
    let deep : (addr - 16777216) % 131072 < 65536 = ltb-true ((addr - 16777216) % 131072) 65536 all.1 in
    let same : (addr - addr % 8 - 16777216) / 131072 ≡ (addr - 16777216) / 131072 = omega (arith, least) in
    let near : (addr - addr % 8 - 16777216) % 131072 ≤ (addr - 16777216) % 131072 = omega (arith, least) in
    both_true (both_true (le-leb 16777216 (addr - addr % 8) (omega (arith, least)))
    (lt-ltb ((addr - addr % 8 - 16777216) / 131072) p.limit (subst (λ (z : ℕ). z < p.limit) (sym same) few)))
    (lt-ltb ((addr - addr % 8 - 16777216) % 131072) 65536 (omega (arith, near, deep)))

mapped_down : (p : MemoryLayout) (addr : ℕ) → is_mapped p addr ≡ true → is_mapped p (addr - addr % 8) ≡ true
unfolding is_mapped
mapped_down p addr m = either (in_globals p addr) (in_stacks p addr) refl refl m
  where
    or_left : (b c : Bool) → b ≡ true → (b || c) ≡ true
    or_left true c h = refl
    or_left false c h = absurd (false≢true h)

    or_right : (b c : Bool) → c ≡ true → (b || c) ≡ true
    or_right true c h = refl
    or_right false c h = h

    either : (b c : Bool) → in_globals p addr ≡ b → in_stacks p addr ≡ c → (b || c) ≡ true
        → (in_globals p (addr - addr % 8) || in_stacks p (addr - addr % 8)) ≡ true
    either true c g s o = or_left (in_globals p (addr - addr % 8)) (in_stacks p (addr - addr % 8)) (globals_down p addr g)
    either false true g s o = or_right (in_globals p (addr - addr % 8)) (in_stacks p (addr - addr % 8)) (stacks_down p addr s)
    either false false g s o = absurd (false≢true o)

pub word_access : (p : MemoryLayout) (addr size : ℕ) → can_access p addr size ≡ true → can_access p (word_of addr) 8 ≡ true
unfolding can_access is_aligned word_of
word_access p addr size h = both_true (eq-eqb ((addr - addr % 8) % 8) 0 (omega arith)) (mapped_down p addr (is_accessed p addr size h).1)

-- what a load answers tells whether its address may be accessed
pub opens : (b : Bool) (v : ℕ) (r : Option ℕ) → r ≡ (if b then Some v else None) → is_some r ≡ true → b ≡ true
opens true v r e h = refl
opens false v r e h = absurd (false≢true (sym (ap is_some e) ∙ h))

pub shut : (b : Bool) (v : ℕ) (r : Option ℕ) → r ≡ (if b then Some v else None) → r ≡ None → b ≡ true → ⊥
shut true v r e n h = let k : Some v ≡ None = sym e ∙ n in absurd cc
shut false v r e n h = false≢true h
