-- A class whose parts have a volatile part has one.
use Rattle.std.proofs.Common.{◌≡◌, ◌∙◌, inl, inr, ◌<◌, ◌≤◌, ◌+◌, ℕ, zero, suc, Bool, true, false, not, ◌&&◌, List, Some, length, replicate, set}
use Rattle.std.proofs.Common.{slice_get, ap, arith, refl}
use Rattle.std.proofs.lemmas.Bool.{cases_eq}
use Rattle.std.proofs.lemmas.List.{length-set, length-replicate}
use Rattle.std.proofs.lemmas.List.Sums.{count_by-le-length}
use Rattle.cpp_types.specs.Class.{Class}
use Rattle.cpp_tree.specs.Typing.{passes}
use Rattle.tx_unsafe.specs.Volatile.{has_volatile_part_by, has_volatile_part, marked}
use Rattle.tx_unsafe.specs.ClassMarks.{count_marked, has_new_part, SoundClasses, ClosedClasses}
use Rattle.tx_unsafe.proofs.ClassMarks.{part_more, passes_within, count_set, false_not, split_and, sound_more, sound_none, all_known}

-- all marks that rounds over a list of classes set
record AllMarks (classes : List Class) : Type 0 where
  marks : List Bool
  long : length marks ≡ length classes
  sound : SoundClasses classes marks
  closed : ClosedClasses classes marks (length classes)

-- the classes below an index: none wants a further mark, or this one
data Search (classes : List Class) (marks : List Bool) (limit : ℕ) : Type 0 where
  nothing : ClosedClasses classes marks limit → Search classes marks limit
  found : (i : ℕ) → i < limit → has_new_part classes marks i ≡ true → Search classes marks limit

next : (classes : List Class) (marks : List Bool) (k : ℕ) (b : Bool) → has_new_part classes marks k ≡ b → Search classes marks k → Search classes marks (suc k)
next classes marks k b e (found i l h) = found i (omega arith) h
next classes marks k true e (nothing c) = found k (omega arith) e
next classes marks k false e (nothing c) = nothing (record {
  closed = λ n l. elim (cases_eq n k) [ inl q ↦ ap (has_new_part classes marks) q ∙ e | inr q ↦ c.closed n (omega arith) ];
})

search : (classes : List Class) (marks : List Bool) (limit : ℕ) → Search classes marks limit
search classes marks zero = nothing (record { closed = λ n l. absurd (omega arith) })
search classes marks (suc k) = next classes marks k (has_new_part classes marks k) refl (search classes marks k)

one_more : (classes : List Class) (marks : List Bool) (i : ℕ) → i < length marks → has_new_part classes marks i ≡ true
    → count_marked (set marks i true) ≡ count_marked marks + 1
one_more classes marks i l h = count_set marks i l (false_not (marked marks i) (split_and _ _ h).0)

settled : (classes : List Class) (marks : List Bool) → length marks ≡ length classes → SoundClasses classes marks → Search classes marks (length classes)
    → ((i : ℕ) → i < length classes → has_new_part classes marks i ≡ true → AllMarks classes) → AllMarks classes
settled classes marks l s (nothing k) f = record { marks = marks; long = l; sound = s; closed = k }
settled classes marks l s (found i b h) f = f i b h

rounds : (classes : List Class) (fuel : ℕ) (marks : List Bool) → length marks ≡ length classes → SoundClasses classes marks
    → length classes ≤ count_marked marks + fuel → AllMarks classes
rounds classes zero marks l s c = settled classes marks l s (search classes marks (length classes))
    (λ i b h. absurd (let n = one_more classes marks i (omega (arith, l)) h in
    let m = count_by-le-length (λ (x : Bool). x) (set marks i true) in let o = length-set marks i true in omega arith))
rounds classes (suc fuel) marks l s c = settled classes marks l s (search classes marks (length classes))
    (λ i b h. rounds classes fuel (set marks i true) (length-set marks i true ∙ l) (sound_more classes marks i (omega (arith, l)) s h)
    (let n = one_more classes marks i (omega (arith, l)) h in omega arith))

all_marks : (classes : List Class) → AllMarks classes
all_marks classes = rounds classes (length classes) (replicate (length classes) false) (length-replicate (length classes) false)
    (sound_none classes (replicate (length classes) false) (length classes) refl) (omega arith)

new_part : (b p : Bool) → b ≡ false → p ≡ true → (not b && p) ≡ true
new_part true p h g = absurd cc
new_part false p h g = g

-- no class that has no volatile part has such a member or base
pub no_part : (classes : List Class) (n : ℕ) (c : Class) → slice_get classes n ≡ Some c → has_volatile_part classes n ≡ false
    → has_volatile_part_by (has_volatile_part classes) c ≡ false
no_part classes n c e h = by (has_volatile_part_by (has_volatile_part classes) c) refl
  where
    m : AllMarks classes
    m = all_marks classes

    known : (k : ℕ) → marked m.marks k ≡ has_volatile_part classes k
    known k = all_known classes m.marks m.long m.sound m.closed k

    passed : has_volatile_part_by (has_volatile_part classes) c ≡ true → passes (has_volatile_part_by (marked m.marks)) (slice_get classes n) ≡ true
    passed t = ap (passes (has_volatile_part_by (marked m.marks))) e
        ∙ part_more (has_volatile_part classes) (marked m.marks) (λ k q. known k ∙ q) c t

    by : (b : Bool) → has_volatile_part_by (has_volatile_part classes) c ≡ b → b ≡ false
    by false t = refl
    by true t = let a = new_part (marked m.marks n) _ (known n ∙ h) (passed t) in
        let z = m.closed.closed n (passes_within (has_volatile_part_by (marked m.marks)) classes n (passed t)) in absurd cc
