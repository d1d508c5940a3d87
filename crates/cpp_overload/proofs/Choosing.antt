-- The candidate that is found by computation is the one that a call means.
use Rattle.std.proofs.Common.{◌≡◌, ◌==◌, ℕ, zero, suc, ◌+◌, ◌<◌, Bool, true, false, not, ◌&&◌, ◌||◌, List, [], ◌∷◌, length, Some, None, Ok, Err, Result, refl}
use Rattle.std.proofs.Common.{sym, ◌∙◌, subst, ap, arith, rules, slice_get, is_some, ◌⊎◌, inl, inr, eq-eqb}
use Rattle.std.proofs.lemmas.Bool.{cases_lt}
use Rattle.cpp_types.specs.Class.{Class}
use Rattle.cpp_overload.specs.Overload.{Candidate, Argument, conversion_at, better_at, count_of, parameters_of, IsViable, IsBetter, IsBest, IsChosen}
use Rattle.cpp_overload.specs.declared.calls.NoBest.{NoBest}
use Rattle.cpp_overload.specs.declared.calls.NoBest.TheVariants.{NoViable, Ambiguous}
use Rattle.cpp_overload.specs.Choosing.{best, all_below, some_below, is_viable, is_better, beats_from, best_from, any_viable, chosen, choice_of}

-- Tests

both : {a b : Bool} → a ≡ true → b ≡ true → (a && b) ≡ true
both h g = rw (h, g) refl

first : (a b : Bool) → (a && b) ≡ true → a ≡ true
first true b h = refl
first false b h = absurd cc

second : (a b : Bool) → (a && b) ≡ true → b ≡ true
second true b h = h
second false b h = absurd cc

not_true : (b : Bool) → (b ≡ true → ⊥) → b ≡ false
not_true true h = absurd (h refl)
not_true false h = refl

one_of : (a b : Bool) → (a || b) ≡ true → (a ≡ true) ⊎ (b ≡ true)
one_of true b h = inl refl
one_of false b h = inr h

of_three : (a b c : Bool) → (a ≡ false → b ≡ true → c ≡ true) → (a || not b || c) ≡ true
of_three true b c h = refl
of_three false true c h = h refl refl
of_three false false c h = refl

last_of_three : (a b c : Bool) → a ≡ false → b ≡ true → (a || not b || c) ≡ true → c ≡ true
last_of_three a b c e f h = rw (e, f) at h

all_true : (p : ℕ → Bool) (n : ℕ) → ((i : ℕ) → i < n → p i ≡ true) → all_below p n ≡ true
all_true p zero h = refl
all_true p (suc n) h = both (all_true p n (λ i l. h i (omega arith))) (h n (omega arith))

all_is : (p : ℕ → Bool) (n i : ℕ) → all_below p n ≡ true → i < n → p i ≡ true
all_is p zero i h l = absurd (omega arith)
all_is p (suc n) i h l = elim (cases_lt i n) [
  | inl a ↦ all_is p n i (first (all_below p n) (p n) h) a
  | inr a ↦ let e : i ≡ n = omega arith in rw e (second (all_below p n) (p n) h)
]

left_or : (a b : Bool) → a ≡ true → (a || b) ≡ true
left_or a b h = rw h refl

right_or : (a b : Bool) → b ≡ true → (a || b) ≡ true
right_or true b h = refl
right_or false b h = h

some_true : (p : ℕ → Bool) (n i : ℕ) → i < n → p i ≡ true → some_below p n ≡ true
some_true p zero i l h = absurd (omega arith)
some_true p (suc n) i l h = elim (cases_lt i n) [
  | inl a ↦ left_or (some_below p n) (p n) (some_true p n i a h)
  | inr a ↦ right_or (some_below p n) (p n) (let e : i ≡ n = omega arith in rw e at h)
]

record SomeAt (p : ℕ → Bool) (n : ℕ) : Type 0 where
  place : ℕ
  within : place < n
  holds : p place ≡ true

some_is : (p : ℕ → Bool) (n : ℕ) → some_below p n ≡ true → SomeAt p n
some_is p zero h = absurd cc
some_is p (suc n) h = elim (one_of (some_below p n) (p n) h) [
  | inl a ↦ let s : SomeAt p n = some_is p n a in let l : s.place < n = s.within in record { place = s.place; within = omega arith; holds = s.holds }
  | inr a ↦ record { place = n; within = omega arith; holds = a }
]

not_false : (b : Bool) → b ≡ false → not b ≡ true
not_false b h = rw h refl

is_false : (b : Bool) → not b ≡ true → b ≡ false
is_false true h = absurd cc
is_false false h = refl

eq_is : (a b : ℕ) → (a == b) ≡ true → a ≡ b
eq_is a b h = search (rules, h)

-- Candidates

viable_true : (classes : List Class) (args : List Argument) (p : Candidate) → IsViable classes args p → is_viable classes args p ≡ true
viable_true classes args p v = both (eq-eqb (count_of (parameters_of p)) (length args) v.count)
    (all_true (λ i. is_some (conversion_at classes args p i)) (length args) v.each)

viable_is : (classes : List Class) (args : List Argument) (p : Candidate) → is_viable classes args p ≡ true → IsViable classes args p
viable_is classes args p h = record {
  count = eq_is _ _ (first (count_of (parameters_of p) == length args) (all_below (λ i. is_some (conversion_at classes args p i)) (length args)) h);
  each = λ i l. all_is (λ j. is_some (conversion_at classes args p j)) (length args) i
      (second (count_of (parameters_of p) == length args) (all_below (λ j. is_some (conversion_at classes args p j)) (length args)) h) l;
}

better_true : (classes : List Class) (args : List Argument) (p q : Candidate) → IsBetter classes args p q → is_better classes args p q ≡ true
better_true classes args p q b = both (all_true (λ i. not (better_at classes args q p i)) (length args)
    (λ i l. not_false (better_at classes args q p i) (b.no_worse i l)))
    (some_true (λ i. better_at classes args p q i) (length args) b.index b.within b.some_better)

better_is : (classes : List Class) (args : List Argument) (p q : Candidate) → is_better classes args p q ≡ true → IsBetter classes args p q
better_is classes args p q h =
    let worse : Bool = all_below (λ i. not (better_at classes args q p i)) (length args) in
    let one : Bool = some_below (λ i. better_at classes args p q i) (length args) in
    let s : SomeAt (λ i. better_at classes args p q i) (length args) = some_is (λ i. better_at classes args p q i) (length args) (second worse one h) in
    record {
      no_worse = λ i l. is_false (better_at classes args q p i) (all_is (λ j. not (better_at classes args q p j)) (length args) i (first worse one h) l);
      index = s.place;
      within = s.within;
      some_better = s.holds;
    }

beats_true : (classes : List Class) (args : List Argument) (i : ℕ) (p : Candidate) (j : ℕ) (qs : List Candidate)
    → ((k : ℕ) (q : Candidate) → slice_get qs k ≡ Some q → (j + k ≡ i → ⊥) → IsViable classes args q → IsBetter classes args p q)
    → beats_from classes args i p j qs ≡ true
beats_true classes args i p j [] h = refl
beats_true classes args i p j (q ∷ qs) h = both
    (of_three (i == j) (is_viable classes args q) (is_better classes args p q)
    (λ e v. better_true classes args p q (h 0 q refl (λ f. let g : (i == j) ≡ true = eq-eqb i j (omega arith) in cc) (viable_is classes args q v))))
    (beats_true classes args i p (suc j) qs (λ k r g n v. h (suc k) r g (λ f. n (omega arith)) v))

beats_is : (classes : List Class) (args : List Argument) (i : ℕ) (p : Candidate) (j : ℕ) (qs : List Candidate) → beats_from classes args i p j qs ≡ true
    → (k : ℕ) (q : Candidate) → slice_get qs k ≡ Some q → (j + k ≡ i → ⊥) → IsViable classes args q → IsBetter classes args p q
beats_is classes args i p j [] h k q g n v = absurd cc
beats_is classes args i p j (r ∷ qs) h zero q g n v =
    let e : r ≡ q = cc in
    better_is classes args p q (subst (λ (z : Candidate). is_better classes args p z ≡ true) e
    (last_of_three (i == j) (is_viable classes args r) (is_better classes args p r)
    (not_true (i == j) (λ f. n (let t : i ≡ j = eq_is i j f in omega arith))) (rw e (viable_true classes args q v))
    (first (i == j || not (is_viable classes args r) || is_better classes args p r) (beats_from classes args i p (suc j) qs) h)))
beats_is classes args i p j (r ∷ qs) h (suc k) q g n v =
    beats_is classes args i p (suc j) qs (second (i == j || not (is_viable classes args r) || is_better classes args p r)
    (beats_from classes args i p (suc j) qs) h) k q g (λ f. n (omega arith)) v

-- the test of a candidate in a place
abbrev passes : List Class → List Argument → List Candidate → ℕ → Candidate → Bool
passes classes args all i p = is_viable classes args p && beats_from classes args i p 0 all

passes_is : (classes : List Class) (args : List Argument) (all : List Candidate) (i : ℕ) (p : Candidate) → slice_get all i ≡ Some p
    → passes classes args all i p ≡ true → IsBest classes all args i
passes_is classes args all i p g h = record {
  candidate = p;
  here = record { there = g; viable = viable_is classes args p (first (is_viable classes args p) (beats_from classes args i p 0 all) h) };
  beats = record {
    each = λ j q n v. beats_is classes args i p 0 all (second (is_viable classes args p) (beats_from classes args i p 0 all) h) j q v.there
        (λ f. n (omega arith)) v.viable;
  };
}

passes_true : (classes : List Class) (args : List Argument) (all : List Candidate) (i : ℕ) (b : IsBest classes all args i)
    → passes classes args all i b.candidate ≡ true
passes_true classes args all i b = both (viable_true classes args b.candidate b.here.viable)
    (beats_true classes args i b.candidate 0 all (λ k q g n v. b.beats.each k q (λ f. n (omega arith)) (record { there = g; viable = v })))

found : (classes : List Class) (args : List Argument) (all : List Candidate) (i : ℕ) (ps : List Candidate) (k : ℕ) (p : Candidate) → slice_get ps k ≡ Some p
    → passes classes args all (i + k) p ≡ true → ((m : ℕ) (q : Candidate) → m < k → slice_get ps m ≡ Some q → passes classes args all (i + m) q ≡ false)
    → best_from classes args all i ps ≡ Some (i + k)
found classes args all i [] k p g h low = absurd cc
found classes args all i (q ∷ ps) zero p g h low =
    let e : q ≡ p = cc in
    let t : passes classes args all i q ≡ true = rw e (subst (λ (z : ℕ). passes classes args all z p ≡ true) (let f : i + 0 ≡ i = omega arith in f) h) in
    rw t (ap Some (let f : i ≡ i + 0 = omega arith in f))
found classes args all i (q ∷ ps) (suc k) p g h low =
    let t : passes classes args all i q ≡ false = subst (λ (z : ℕ). passes classes args all z q ≡ false) (let f : i + 0 ≡ i = omega arith in f)
    (low 0 q (omega arith) refl) in
    rw t (found classes args all (suc i) ps k p g (subst (λ (z : ℕ). passes classes args all z p ≡ true) (let f : i + suc k ≡ suc i + k = omega arith in f) h)
    (λ m r l s. subst (λ (z : ℕ). passes classes args all z r ≡ false) (let f : i + suc m ≡ suc i + m = omega arith in f) (low (suc m) r (omega arith) s))
    ∙ ap Some (let f : suc i + k ≡ i + suc k = omega arith in f))

none_found : (classes : List Class) (args : List Argument) (all : List Candidate) (i : ℕ) (ps : List Candidate)
    → ((m : ℕ) (q : Candidate) → slice_get ps m ≡ Some q → passes classes args all (i + m) q ≡ false) → best_from classes args all i ps ≡ None
none_found classes args all i [] h = refl
none_found classes args all i (q ∷ ps) h =
    let t : passes classes args all i q ≡ false = subst (λ (z : ℕ). passes classes args all z q ≡ false) (let f : i + 0 ≡ i = omega arith in f) (h 0 q refl) in
    rw t (none_found classes args all (suc i) ps (λ m r s. subst (λ (z : ℕ). passes classes args all z r ≡ false)
    (let f : i + suc m ≡ suc i + m = omega arith in f) (h (suc m) r s)))

-- no two are best
one_best : (classes : List Class) (args : List Argument) (all : List Candidate) (i m : ℕ) → IsBest classes all args i → IsBest classes all args m → (m ≡ i → ⊥)
    → ⊥
one_best classes args all i m b d n =
    let pq : IsBetter classes args b.candidate d.candidate = b.beats.each m d.candidate n d.here in
    let qp : IsBetter classes args d.candidate b.candidate = d.beats.each i b.candidate (λ e. n (sym e)) b.here in
    let e : better_at classes args d.candidate b.candidate qp.index ≡ false = pq.no_worse qp.index qp.within in
    let f : better_at classes args d.candidate b.candidate qp.index ≡ true = qp.some_better in
    cc

no_viable : (classes : List Class) (args : List Argument) (ps : List Candidate)
    → ((m : ℕ) (q : Candidate) → slice_get ps m ≡ Some q → is_viable classes args q ≡ false) → any_viable classes args ps ≡ false
no_viable classes args [] h = refl
no_viable classes args (p ∷ ps) h = rw (h 0 p refl) (no_viable classes args ps (λ m q g. h (suc m) q g))

some_viable : (classes : List Class) (args : List Argument) (ps : List Candidate) (k : ℕ) (p : Candidate) → slice_get ps k ≡ Some p
    → is_viable classes args p ≡ true → any_viable classes args ps ≡ true
some_viable classes args [] k p g h = absurd cc
some_viable classes args (q ∷ ps) zero p g h = let e : q ≡ p = cc in left_or (is_viable classes args q) (any_viable classes args ps) (rw e h)
some_viable classes args (q ∷ ps) (suc k) p g h = right_or (is_viable classes args q) (any_viable classes args ps) (some_viable classes args ps k p g h)

pub chosen_is_meant : (classes : List Class) (cands : List Candidate) (args : List Argument) (r : Result ℕ NoBest) → IsChosen classes cands args r
    → chosen classes cands args ≡ choice_of r
chosen_is_meant classes cands args (Ok i) b =
    let t : best_from classes args cands 0 cands ≡ Some (0 + i) =
    found classes args cands 0 cands i b.candidate b.here.there
    (subst (λ (z : ℕ). passes classes args cands z b.candidate ≡ true) (let f : i ≡ 0 + i = omega arith in f) (passes_true classes args cands i b))
    (λ m q l g. not_true (passes classes args cands (0 + m) q)
    (λ h. one_best classes args cands i m b (passes_is classes args cands m q g
    (subst (λ (z : ℕ). passes classes args cands z q ≡ true) (let f : 0 + m ≡ m = omega arith in f) h)) (λ e. absurd (omega arith)))) in
    rw t (ap (λ (z : ℕ). best z) (let f : 0 + i ≡ i = omega arith in f))
chosen_is_meant classes cands args (Err NoViable) h =
    let no : (m : ℕ) (q : Candidate) → slice_get cands m ≡ Some q → is_viable classes args q ≡ false =
    λ m q g. not_true (is_viable classes args q) (λ v. h.each m q (record { there = g; viable = viable_is classes args q v })) in
    let t : best_from classes args cands 0 cands ≡ None = none_found classes args cands 0 cands (λ m q g. rw (no m q g) refl) in
    let u : any_viable classes args cands ≡ false = no_viable classes args cands no in
    rw (t, u) refl
chosen_is_meant classes cands args (Err (Ambiguous a b)) h =
    let t : best_from classes args cands 0 cands ≡ None =
    none_found classes args cands 0 cands (λ m q g. not_true (passes classes args cands (0 + m) q)
    (λ e. h.none_best m (passes_is classes args cands m q g
    (subst (λ (z : ℕ). passes classes args cands z q ≡ true) (let f : 0 + m ≡ m = omega arith in f) e)))) in
    let u : any_viable classes args cands ≡ true = some_viable classes args cands a h.candidate h.lowest.here.there
    (viable_true classes args h.candidate h.lowest.here.viable) in
    rw (t, u) refl
