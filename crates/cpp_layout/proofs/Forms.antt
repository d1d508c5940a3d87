-- Extents of types by those of classes.
use Rattle.std.proofs.Common.{◌≡◌, ◌∙◌, ℕ, ◌<◌, ◌≤◌, ◌*◌, Bool, true, false, ◌||◌, ◌==◌, List, [], ◌∷◌, map, Option, Some, None, refl, sym, ap, arith, subst}
use Rattle.std.proofs.lemmas.Bool.Decides.{nat_tests}
use Rattle.std.proofs.lemmas.Nat.{mul-le}
use Rattle.tx_ints.specs.declared.kinds.IntKind.{IntKind}
use Rattle.tx_ints.specs.declared.kinds.IntKind.TheVariants.{Bool as BoolKind, Char, SChar, UChar, Short, UShort, Int, UInt, Long, ULong, LLong, ULLong}
use Rattle.cpp_types.specs.Typ.{typ, Form, void, int, enum, null, ptr, ref, array, func, class, closure, tx_ex}
use Rattle.cpp_types.specs.Class.{Member, held_form}
use Rattle.cpp_types.specs.Conversion.{form_of}
use Rattle.cpp_layout.specs.Layout.{Extent, form_extent, kind_size, scalar, member_extent}
use Rattle.cpp_layout.specs.Measured.{is_vacant, shown, Measured}
use Rattle.cpp_layout.specs.declared.extents.SizeAlign.{SizeAlign}
use Rattle.std.specs.Option.{MatchOption}
use Rattle.cpp_layout.proofs.Ends.{Aligned}
use Rattle.cpp_layout.specs.declared.extents.TheConstants.{GREATEST_SIZE}

pub kind_low : (k : IntKind) → 1 ≤ kind_size k
kind_low BoolKind = omega arith
kind_low Char = omega arith
kind_low SChar = omega arith
kind_low UChar = omega arith
kind_low Short = omega arith
kind_low UShort = omega arith
kind_low Int = omega arith
kind_low UInt = omega arith
kind_low Long = omega arith
kind_low ULong = omega arith
kind_low LLong = omega arith
kind_low ULLong = omega arith

-- each form is aligned to 1 or more where each class is
pub form_low : (g : ℕ → Extent) → ((n : ℕ) → 1 ≤ (g n).align) → (f : Form) → 1 ≤ (form_extent g f).align
form_low g h void = omega arith
form_low g h (int k) = kind_low k
form_low g h (enum n s) = omega arith
form_low g h null = omega arith
form_low g h (ptr t) = omega arith
form_low g h (ref t) = omega arith
form_low g h (array (typ f c v) n) = form_low g h f
form_low g h (func s) = omega arith
form_low g h (class n) = h n
form_low g h (closure n) = h n
form_low g h (tx_ex (typ f c v)) = form_low g h f

-- a form's extent is told by that of the class whose values it holds
pub form_agrees : (g h : ℕ → Extent) (f : Form) → ((e : ℕ) → held_form f ≡ Some e → g e ≡ h e) → form_extent g f ≡ form_extent h f
form_agrees g h void p = refl
form_agrees g h (int k) p = refl
form_agrees g h (enum n s) p = refl
form_agrees g h null p = refl
form_agrees g h (ptr t) p = refl
form_agrees g h (ref t) p = refl
form_agrees g h (array (typ f c v) n) p = ap (λ (e : Extent). record { size = n * e.size; align = e.align }) (form_agrees g h f p)
form_agrees g h (func s) p = refl
form_agrees g h (class n) p = p n refl
form_agrees g h (closure n) p = p n refl
form_agrees g h (tx_ex (typ f c v)) p = form_agrees g h f p

array_vacant : (n s : ℕ) (b : Bool) → (n == 0 || b) ≡ true → (b ≡ true → s ≡ 0) → n * s ≡ 0
array_vacant n s true p q = let e : s ≡ 0 = q refl in ap (λ (z : ℕ). n * z) e ∙ omega arith
array_vacant n s false p q = let e : n ≡ 0 = grind (arith, nat_tests) in ap (λ (z : ℕ). z * s) e ∙ omega arith

array_part : (n s x : ℕ) (b : Bool) → (n == 0 || b) ≡ false → (b ≡ false → x ≤ s) → x ≤ n * s
array_part n s x true p q = absurd (grind (arith, nat_tests))
array_part n s x false p q = let e : 1 ≤ n = grind (arith, nat_tests) in let l : x ≤ s = q refl in let m : 1 * s ≤ n * s = mul-le 1 s n s e (omega arith) in
    omega arith

-- an array of no elements has size 0
pub vacant_size : (g : ℕ → Extent) (f : Form) → is_vacant f ≡ true → (form_extent g f).size ≡ 0
vacant_size g void p = absurd cc
vacant_size g (int k) p = absurd cc
vacant_size g (enum n s) p = absurd cc
vacant_size g null p = absurd cc
vacant_size g (ptr t) p = absurd cc
vacant_size g (ref t) p = absurd cc
vacant_size g (array (typ f c v) n) p = array_vacant n (form_extent g f).size (is_vacant f) p (vacant_size g f)
vacant_size g (func s) p = absurd cc
vacant_size g (class n) p = absurd cc
vacant_size g (closure n) p = absurd cc
vacant_size g (tx_ex (typ f c v)) p = vacant_size g f p

same_size : (g : ℕ → Extent) (n e : ℕ) → Some n ≡ Some e → (g e).size ≤ (g n).size
same_size g n e q = let k : n ≡ e = cc in subst (λ (z : ℕ). (g z).size ≤ (g n).size) k (omega arith)

-- any other form takes at least what the class takes whose values it holds
pub part_size : (g : ℕ → Extent) (f : Form) (e : ℕ) → is_vacant f ≡ false → held_form f ≡ Some e → (g e).size ≤ (form_extent g f).size
part_size g void e p q = absurd cc
part_size g (int k) e p q = absurd cc
part_size g (enum n s) e p q = absurd cc
part_size g null e p q = absurd cc
part_size g (ptr t) e p q = absurd cc
part_size g (ref t) e p q = absurd cc
part_size g (array (typ f c v) n) e p q = array_part n (form_extent g f).size (g e).size (is_vacant f) p (λ z. part_size g f e z q)
part_size g (func s) e p q = absurd cc
part_size g (class n) e p q = same_size g n e q
part_size g (closure n) e p q = same_size g n e q
part_size g (tx_ex (typ f c v)) e p q = part_size g f e p q

pub members_aligned : (g : ℕ → Extent) → ((n : ℕ) → 1 ≤ (g n).align) → (ms : List Member) → Aligned (map (member_extent g) ms)
members_aligned g h [] = tt
members_aligned g h (m ∷ ms) = (form_low g h (form_of m.typ), members_aligned g h ms)

-- a form's alignment is told by that of the class whose values it holds
align_agrees : (g h : ℕ → Extent) (f : Form) → ((e : ℕ) → held_form f ≡ Some e → (g e).align ≡ (h e).align) → (form_extent g f).align ≡ (form_extent h f).align
align_agrees g h void p = refl
align_agrees g h (int k) p = refl
align_agrees g h (enum n s) p = refl
align_agrees g h null p = refl
align_agrees g h (ptr t) p = refl
align_agrees g h (ref t) p = refl
align_agrees g h (array (typ f c v) n) p = align_agrees g h f p
align_agrees g h (func s) p = refl
align_agrees g h (class n) p = p n refl
align_agrees g h (closure n) p = p n refl
align_agrees g h (tx_ex (typ f c v)) p = align_agrees g h f p

pub aligned_by : (g : ℕ → Extent) (f : Form) (o : Option ℕ) (p a : ℕ) → o ≡ Some p → o ≡ held_form f → a ≡ (g p).align
    → (form_extent (λ n. scalar a) f).align ≡ (form_extent g f).align
aligned_by g f o p a q h e = align_agrees (λ n. scalar a) g f (λ x r. let k : p ≡ x = cc in e ∙ ap (λ (z : ℕ). (g z).align) k)

pub aligned_alone : (g : ℕ → Extent) (f : Form) (o : Option ℕ) (a : ℕ) → o ≡ None → o ≡ held_form f
    → (form_extent (λ n. scalar a) f).align ≡ (form_extent g f).align
aligned_alone g f o a q h = align_agrees (λ n. scalar a) g f (λ x r. absurd cc)

-- Answers

abbrev pub Answers : Option SizeAlign → Extent → Type 0
Answers o e = MatchOption o (GREATEST_SIZE < e.size) (λ s. Measured e s)

pub shown_is : (e : Extent) (s : SizeAlign) → Measured e s → shown s ≡ e
shown_is e s m = ap (λ (z : ℕ). let x : Extent = record { size = z; align = s.align } in x) m.size
    ∙ ap (λ (z : ℕ). let x : Extent = record { size = e.size; align = z } in x) m.align

pub self_measured : (e : Extent) (s : SizeAlign) → Measured e s → Measured (shown s) s
self_measured e s m = let p = m.size in let q = m.align in let w = m.within in let l = m.low in let h = m.high in
    record { size = refl; align = refl; within = omega arith; low = omega arith; high = omega arith }

pub answers_along : (o : Option SizeAlign) (x y : Extent) → x ≡ y → Answers o x → Answers o y
answers_along o x y e a = subst (λ (z : Extent). Answers o z) e a

pub answers_by : (g : ℕ → Extent) (f : Form) (h : Option ℕ) (p : ℕ) (o : Option SizeAlign) (s : SizeAlign) → h ≡ Some p → h ≡ held_form f → Measured (g p) s
    → Answers o (form_extent (λ n. shown s) f) → Answers o (form_extent g f)
answers_by g f h p o s q e m a = answers_along o (form_extent (λ n. shown s) f) (form_extent g f)
    (form_agrees (λ n. shown s) g f (λ x r. let k : p ≡ x = cc in shown_is (g p) s m ∙ ap g k)) a

pub answers_alone : (g : ℕ → Extent) (f : Form) (h : Option ℕ) (o : Option SizeAlign) (s : SizeAlign) → h ≡ None → h ≡ held_form f
    → Answers o (form_extent (λ n. shown s) f) → Answers o (form_extent g f)
answers_alone g f h o s q e a = answers_along o (form_extent (λ n. shown s) f) (form_extent g f) (form_agrees (λ n. shown s) g f (λ x r. absurd cc)) a

pub none_answers : (o : Option SizeAlign) (e : Extent) → o ≡ None → GREATEST_SIZE < e.size → Answers o e
none_answers o e p l = subst (λ (z : Option SizeAlign). Answers z e) (sym p) l

pub large_part : (g : ℕ → Extent) (f : Form) (h : Option ℕ) (p : ℕ) → h ≡ Some p → h ≡ held_form f → is_vacant f ≡ false → GREATEST_SIZE < (g p).size
    → GREATEST_SIZE < (form_extent g f).size
large_part g f h p q e v l = let k : held_form f ≡ Some p = cc in let m = part_size g f p v k in omega arith

pub large_elements : (g : ℕ → Extent) (f : Form) (t : Form) (c v : Bool) (n : ℕ) → f ≡ array (typ t c v) n → is_vacant f ≡ false
    → GREATEST_SIZE < (form_extent g t).size → GREATEST_SIZE < (form_extent g f).size
large_elements g f t c v n e p l =
    let q : (n == 0 || is_vacant t) ≡ false = ap is_vacant (sym e) ∙ p in
    let m : 1048577 ≤ n * (form_extent g t).size = array_part n (form_extent g t).size 1048577 (is_vacant t) q (λ z. omega arith) in
    let s : (form_extent g f).size ≡ n * (form_extent g t).size = ap (λ (z : Form). (form_extent g z).size) e in
    omega arith

pub vacant_measured : (g : ℕ → Extent) (f : Form) (a : ℕ) → is_vacant f ≡ true → a ≡ (form_extent g f).align → 1 ≤ a → a ≤ 8
    → Measured (form_extent g f) (record { size = 0; align = a })
vacant_measured g f a v e l h = let s = vacant_size g f v in record { size = sym s; align = e; within = omega arith; low = omega arith; high = omega arith }
