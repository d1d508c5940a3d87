-- A table in which the functions in slots are marked says of each function whether it stands in a slot.
use Rattle.std.proofs.Common.{◌≡◌, ◌<◌, ◌+◌, ◌∙◌, ◌==◌, ℕ, zero, suc, Bool, true, false, ◌&&◌, ◌||◌, List, [], ◌∷◌, length, get_or, slice_get, map, Option}
use Rattle.std.proofs.Common.{Some, None, if◌then◌else◌, refl, sym, ap, arith}
use Rattle.std.proofs.lemmas.Bool.{eqb-true, eq-eqb}
use Rattle.std.specs.List.{list_any}
use Rattle.elab_entry.specs.cpp_tree.Units.{SlotFunc}
use Rattle.elab_entry.specs.elab_ctx.Ctx.{Ctx, Func, func_of}
use Rattle.elab_entry.specs.elab_ctx.Places.{places_where, is_member_of, is_number}
use Rattle.elab_entry.specs.elab_ctx.declared.env.FuncDecl.{FuncDecl}
use Rattle.elab_entry.specs.elab_rules.Initialising.{func_at, same_number}
use Rattle.elab_entry.specs.elab_rules.Calls.{count_before, is_of_class, index_in_class}
use Rattle.elab_entry.specs.elab_rules.Implicit.{index_of, is_in_slot}
use Rattle.elab_implicit.specs.Marks.{place_marked, slot_marked, slots_marked, all_slots_marked}
use Rattle.elab_implicit.proofs.TableMarks.{or_false, or_twice, set_length, set_says}

number_is : (n : ℕ) (o : Option ℕ) → is_number n o ≡ same_number n o
number_is n None = refl
number_is n (Some m) = refl

differs : (i k : ℕ) (b : Bool) → (i == k) ≡ b → (i ≡ k → true ≡ false) → (i == k) ≡ false
differs i k false e h = e
differs i k true e h = let q : true ≡ false = h (eqb-true i k e) in absurd cc

lower : (i k : ℕ) → k < i → (i == k) ≡ false
lower i k h = differs i k (i == k) refl (λ e. absurd (omega (arith, h, e)))

upper : (i k : ℕ) → i < k → (i == k) ≡ false
upper i k h = differs i k (i == k) refl (λ e. absurd (omega (arith, h, e)))

late_step : (i k j : ℕ) (rest : List ℕ) (b : Bool) → k < i → ((m : ℕ) → is_number k (slice_get rest m) ≡ false)
    → is_number k (slice_get (if b then i ∷ rest else rest) j) ≡ false
late_step i k zero rest true h e = lower i k h
late_step i k (suc j) rest true h e = e j
late_step i k j rest false h e = e j

-- places stand at the beginning of their list or behind it
late : (n i k j : ℕ) (fs : List FuncDecl) → k < i → is_number k (slice_get (places_where (is_member_of n) i fs) j) ≡ false
late n i k j [] h = refl
late n i k j (f ∷ fs) h = late_step i k j (places_where (is_member_of n) (suc i) fs) (is_number n f.class) h (λ m. late n (suc i) k m fs (omega (arith, h)))

and_false : (a : Bool) → (a && false) ≡ false
and_false true = refl
and_false false = refl

zero_more : (n : ℕ) → 0 + n ≡ n
zero_more n = omega arith

same_test : (a b c d : ℕ) (x y : Bool) → (a == b) ≡ x → (c == d) ≡ y → (a ≡ b → c ≡ d) → (c ≡ d → a ≡ b) → x ≡ y
same_test a b c d true true e g f h = refl
same_test a b c d true false e g f h = sym (eq-eqb c d (f (eqb-true a b e))) ∙ g
same_test a b c d false true e g f h = sym e ∙ eq-eqb a b (h (eqb-true c d g))
same_test a b c d false false e g f h = refl

one_later : (j c d : ℕ) → d ≡ suc c → (j == c) ≡ (suc j == d)
one_later j c d h = same_test j c (suc j) d (j == c) (suc j == d) refl refl (λ e. omega (arith, e, h)) (λ e. omega (arith, e, h))

-- the place of the function with an index among those of a class
abbrev has_index : ℕ → ℕ → ℕ → List Func → Bool
has_index n j k fs = same_number n (func_at fs k).class && j == count_before (is_of_class n) k fs

first_place : (n i p j : ℕ) (fs : List FuncDecl) (b : Bool) → p ≡ i
    → is_number p (slice_get (if b then i ∷ places_where (is_member_of n) (suc i) fs else places_where (is_member_of n) (suc i) fs) j) ≡ (b && j == 0)
first_place n i p zero fs true e = eq-eqb i p (sym e) ∙ sym (eq-eqb 0 0 refl)
first_place n i p (suc j) fs true e = late n (suc i) p j fs (omega (arith, e)) ∙ sym (lower (suc j) 0 (omega arith))
first_place n i p j fs false e = late n (suc i) p j fs (omega (arith, e))

next_place : (i p j c : ℕ) (rest : List ℕ) (own b : Bool) → i < p → ((m : ℕ) → is_number p (slice_get rest m) ≡ (own && m == c))
    → is_number p (slice_get (if b then i ∷ rest else rest) j) ≡ (own && j == (if b then 1 else 0) + c)
next_place i p zero c rest own true h e =
    let past : (0 == 1 + c) ≡ false = upper 0 (1 + c) (omega arith) in
    upper i p h ∙ sym (ap (λ (z : Bool). own && z) past ∙ and_false own)
next_place i p (suc j) c rest own true h e = e j ∙ ap (λ (z : Bool). own && z) (one_later j c (1 + c) (omega arith))
next_place i p j c rest own false h e = e j ∙ ap (λ (z : ℕ). own && j == z) (sym (zero_more c))

at_place : (n i k p j : ℕ) (fs : List FuncDecl) → p ≡ i + k → is_number p (slice_get (places_where (is_member_of n) i fs) j) ≡ has_index n j k (map func_of fs)
at_place n i k p j [] e = refl
at_place n i zero p j (f ∷ fs) e = ap (λ (b : Bool). is_number p
    (slice_get (if b then i ∷ places_where (is_member_of n) (suc i) fs else places_where (is_member_of n) (suc i) fs) j)) (number_is n f.class)
    ∙ first_place n i p j fs (same_number n f.class) (omega (arith, e))
at_place n i (suc k) p j (f ∷ fs) e = ap (λ (b : Bool). is_number p
    (slice_get (if b then i ∷ places_where (is_member_of n) (suc i) fs else places_where (is_member_of n) (suc i) fs) j)) (number_is n f.class)
    ∙ next_place i p j (count_before (is_of_class n) k (map func_of fs)) (places_where (is_member_of n) (suc i) fs)
    (same_number n (func_at (map func_of fs) k).class) (same_number n f.class) (omega (arith, e)) (λ m. at_place n (suc i) k p m fs (omega (arith, e)))

-- One slot

place_length : (o : Option ℕ) (ms : List Bool) → length (place_marked o ms) ≡ length ms
place_length (Some p) ms = set_length ms p
place_length None ms = refl

place_says : (o : Option ℕ) (ms : List Bool) (k : ℕ) → k < length ms → get_or (place_marked o ms) k false ≡ (get_or ms k false || is_number k o)
place_says (Some p) ms k h = set_says ms p k h
place_says None ms k h = sym (or_false (get_or ms k false))

-- the function with an index among those of its class
abbrev pub index_of_class : ℕ → Option ℕ → List Func → ℕ
index_of_class k (Some n) fs = index_in_class n k fs
index_of_class k None fs = 0

abbrev is_of_slot : Option ℕ → ℕ → SlotFunc → Bool
is_of_slot o i x = same_number x.class o && x.func == i

same_index : (n m k j : ℕ) (fs : List Func) (b : Bool) → (m == n) ≡ b → (b && j == count_before (is_of_class n) k fs) ≡ (b && j == index_in_class m k fs)
same_index n m k j fs true e = ap (λ (z : ℕ). j == count_before (is_of_class z) k fs) (sym (eqb-true m n e))
same_index n m k j fs false e = refl

own_index : (n k j : ℕ) (o : Option ℕ) (fs : List Func)
    → (same_number n o && j == count_before (is_of_class n) k fs) ≡ (same_number n o && j == index_of_class k o fs)
own_index n k j None fs = refl
own_index n k j (Some m) fs = same_index n m k j fs (m == n) refl

abbrev in_this : List FuncDecl → ℕ → SlotFunc → Bool
in_this fs k x = is_of_slot (func_at (map func_of fs) k).class (index_of_class k (func_at (map func_of fs) k).class (map func_of fs)) x

slot_length : (fs : List FuncDecl) (x : SlotFunc) (ms : List Bool) → length (slot_marked fs ms x) ≡ length ms
slot_length fs x ms = place_length (slice_get (places_where (is_member_of x.class) 0 fs) x.func) ms

slot_says : (fs : List FuncDecl) (x : SlotFunc) (ms : List Bool) (k : ℕ) → k < length ms
    → get_or (slot_marked fs ms x) k false ≡ (get_or ms k false || in_this fs k x)
slot_says fs x ms k h =
    place_says (slice_get (places_where (is_member_of x.class) 0 fs) x.func) ms k h
    ∙ ap (λ (z : Bool). get_or ms k false || z) (at_place x.class 0 k k x.func fs (omega arith) ∙ own_index x.class k x.func (func_at (map func_of fs) k).class
    (map func_of fs))

-- The slots of a class, and of all classes

list_length : (fs : List FuncDecl) (xs : List SlotFunc) (ms : List Bool) → length (slots_marked fs ms xs) ≡ length ms
list_length fs [] ms = refl
list_length fs (x ∷ xs) ms = list_length fs xs (slot_marked fs ms x) ∙ slot_length fs x ms

list_says : (fs : List FuncDecl) (xs : List SlotFunc) (ms : List Bool) (k : ℕ) → k < length ms
    → get_or (slots_marked fs ms xs) k false ≡ (get_or ms k false || list_any (in_this fs k) xs)
list_says fs [] ms k h = sym (or_false (get_or ms k false))
list_says fs (x ∷ xs) ms k h =
    let there : k < length (slot_marked fs ms x) = rw (slot_length fs x ms) h in
    list_says fs xs (slot_marked fs ms x) k there ∙ ap (λ (z : Bool). z || list_any (in_this fs k) xs) (slot_says fs x ms k h)
    ∙ or_twice (get_or ms k false) (in_this fs k x) (list_any (in_this fs k) xs)

pub slots_length : (fs : List FuncDecl) (xss : List (List SlotFunc)) (ms : List Bool) → length (all_slots_marked fs ms xss) ≡ length ms
slots_length fs [] ms = refl
slots_length fs (xs ∷ xss) ms = slots_length fs xss (slots_marked fs ms xs) ∙ list_length fs xs ms

pub slots_say : (fs : List FuncDecl) (xss : List (List SlotFunc)) (ms : List Bool) (k : ℕ) → k < length ms
    → get_or (all_slots_marked fs ms xss) k false ≡ (get_or ms k false || list_any (λ (xs : List SlotFunc). list_any (in_this fs k) xs) xss)
slots_say fs [] ms k h = sym (or_false (get_or ms k false))
slots_say fs (xs ∷ xss) ms k h =
    let there : k < length (slots_marked fs ms xs) = rw (list_length fs xs ms) h in
    slots_say fs xss (slots_marked fs ms xs) k there ∙ ap (λ (z : Bool). z || list_any (λ (ys : List SlotFunc). list_any (in_this fs k) ys) xss)
    (list_says fs xs ms k h) ∙ or_twice (get_or ms k false) (list_any (in_this fs k) xs) (list_any (λ (ys : List SlotFunc). list_any (in_this fs k) ys) xss)

pub index_is : (c : Ctx) (k : ℕ) (o : Option ℕ) → index_of_class k o c.funcs ≡ index_of c k o
index_is c k (Some n) = refl
index_is c k None = refl

pub slots_stand : (c : Ctx) (fs : List FuncDecl) (ms : List Bool) (k : ℕ) → c.funcs ≡ map func_of fs → k < length ms
    → get_or (all_slots_marked fs ms c.slots) k false
    ≡ (get_or ms k false || is_in_slot (func_at c.funcs k).class (index_of c k (func_at c.funcs k).class) c.slots)
slots_stand c fs ms k e h =
    slots_say fs c.slots ms k h
    ∙ ap (λ (z : List Func). get_or ms k false || is_in_slot (func_at z k).class (index_of_class k (func_at z k).class z) c.slots) (sym e)
    ∙ ap (λ (z : ℕ). get_or ms k false || is_in_slot (func_at c.funcs k).class z c.slots) (index_is c k (func_at c.funcs k).class)
