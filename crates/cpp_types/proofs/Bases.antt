-- The whole chain of bases of a class.
use Rattle.std.proofs.Common.{◌≡◌, ◌∙◌, ℕ, zero, suc, ◌+◌, ◌<◌, ◌≤◌, List, [], ◌∷◌, Option, Some, None, slice_get, is_some, unwrap_or, cond, refl, sym, ap}
use Rattle.std.proofs.Common.{arith}
use Rattle.std.specs.Option.{option_and_then}
use Rattle.cpp_types.specs.Class.{Class, InOrder, base_of, completion_of}
use Rattle.cpp_types.specs.Conversion.{chain, bases, first_and}
use Rattle.cpp_types.specs.Laws.{BasesUnroll, BasesAreWhole, BaseIsEarlier}

-- how many classes were completed before the class, and 0 for one that is only declared
abbrev size : List Class → ℕ → ℕ
size classes n = unwrap_or (completion_of classes n) 0

known_base : (o : Option Class) (b k : ℕ) → option_and_then (λ c. cond (is_some c.complete) c.base None) o ≡ Some b
    → option_and_then (λ c. c.complete) o ≡ Some k → (c : Class) × (o ≡ Some c) × (c.base ≡ Some b) × (c.complete ≡ Some k)
known_base None b k h e = absurd cc
known_base (Some c) b k h e = (c, refl, ap (λ (z : Option ℕ). cond (is_some z) c.base None) (sym e) ∙ h, e)

known_number : (o : Option Class) (b : ℕ) → option_and_then (λ c. cond (is_some c.complete) c.base None) o ≡ Some b → (x : Option ℕ)
    → option_and_then (λ c. c.complete) o ≡ x → (k : ℕ) × (x ≡ Some k)
known_number None b h x e = absurd cc
known_number (Some c) b h (Some k) e = (k, refl)
known_number (Some c) b h None e = let g : None ≡ Some b = ap (λ (z : Option ℕ). cond (is_some z) c.base None) (sym e) ∙ h in absurd cc

pub base_is_earlier : BaseIsEarlier
base_is_earlier classes n b k o h e = let c = known_base (slice_get classes n) b k h e in (o.earlier n c.0 k c.1 c.3).base b c.2

lower : (classes : List Class) (n b : ℕ) → InOrder classes → base_of classes n ≡ Some b → size classes b < size classes n
lower classes n b o h =
    let k = known_number (slice_get classes n) b h (completion_of classes n) refl in
    let e = base_is_earlier classes n b k.0 o h k.1 in
    let f : size classes b ≡ e.number = ap (λ (z : Option ℕ). unwrap_or z 0) e.complete in
    let g : size classes n ≡ k.0 = ap (λ (z : Option ℕ). unwrap_or z 0) k.1 in
    let i = e.below in
    omega arith

first_same : (x : Option ℕ) (f g : ℕ → List ℕ) → ((b : ℕ) → x ≡ Some b → f b ≡ g b) → first_and x f ≡ first_and x g
first_same None f g h = refl
first_same (Some b) f g h = ap (λ (z : List ℕ). b ∷ z) (h b refl)

none_below : (classes : List Class) (n : ℕ) → InOrder classes → size classes n ≤ 0 → (x : Option ℕ) → base_of classes n ≡ x → x ≡ None
none_below classes n o h None e = refl
none_below classes n o h (Some b) e = let l = lower classes n b o e in absurd (omega arith)

-- a chain is whole where as many steps are taken as classes were completed before the class
enough : (classes : List Class) (m k n : ℕ) → InOrder classes → size classes n ≤ m → size classes n ≤ k → chain m classes n ≡ chain k classes n
enough classes zero zero n o h g = refl
enough classes zero (suc k) n o h g = ap (λ (z : Option ℕ). first_and z (chain k classes)) (sym (none_below classes n o h (base_of classes n) refl))
enough classes (suc m) zero n o h g = ap (λ (z : Option ℕ). first_and z (chain m classes)) (none_below classes n o g (base_of classes n) refl)
enough classes (suc m) (suc k) n o h g = first_same (base_of classes n) (chain m classes) (chain k classes)
    (λ b e. let l = lower classes n b o e in enough classes m k b o (omega arith) (omega arith))

pub bases_unroll : BasesUnroll
bases_unroll classes n o =
    enough classes (size classes n) (suc (size classes n)) n o (omega arith) (omega arith)
    ∙ first_same (base_of classes n) (chain (size classes n) classes) (bases classes)
    (λ b e. let l = lower classes n b o e in enough classes (size classes n) (size classes b) b o (omega arith) (omega arith))

at_front : (x : Option ℕ) (f : ℕ → List ℕ) → x ≡ slice_get (first_and x f) 0
at_front None f = refl
at_front (Some b) f = refl

empty_gives_none : (m i : ℕ) → slice_get [] i ≡ Some m → ⊥
empty_gives_none m zero h = absurd cc
empty_gives_none m (suc i) h = absurd cc

-- from the base on the law is that of the base
behind_base : (classes : List Class) (i m : ℕ) → ((b : ℕ) → slice_get (b ∷ bases classes b) i ≡ Some m → base_of classes m ≡ slice_get (b ∷ bases classes b)
    (i + 1)) → (x : Option ℕ) → slice_get (first_and x (bases classes)) i ≡ Some m → base_of classes m ≡ slice_get (first_and x (bases classes)) (i + 1)
behind_base classes i m each None h = absurd (empty_gives_none m i h)
behind_base classes i m each (Some b) h = each b h

pub bases_are_whole : BasesAreWhole
bases_are_whole classes n zero m o h =
    let e : n ≡ m = cc in
    ap (base_of classes) (sym e) ∙ at_front (base_of classes n) (bases classes) ∙ ap (λ (z : List ℕ). slice_get z 0) (sym (bases_unroll classes n o))
bases_are_whole classes n (suc i) m o h =
    let u = bases_unroll classes n o in
    let e : suc (i + 1) ≡ suc i + 1 = omega arith in
    let g : slice_get (first_and (base_of classes n) (bases classes)) i ≡ Some m = ap (λ (z : List ℕ). slice_get z i) (sym u) ∙ h in
    behind_base classes i m (λ b k. bases_are_whole classes b i m o k) (base_of classes n) g ∙ ap (λ (z : List ℕ). slice_get z (i + 1)) (sym u)
    ∙ ap (slice_get (n ∷ bases classes n)) e
