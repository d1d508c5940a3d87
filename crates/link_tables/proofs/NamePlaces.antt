-- Places of names among the names of all objects.
use Rattle.std.proofs.Common.{Bool, true, false, ◌≡◌, ◌≢◌, ◌<◌, ◌≤◌, ℕ, suc, zero, ◌+◌, List, [], ◌∷◌, ◌++◌, map, length, refl, sym, ap, ◌∙◌, arith, Some, None}
use Rattle.std.proofs.Common.{◌&&◌, nat_eq, nat_lt, slice_get, unwrap_or, eq-eqb}
use Rattle.std.specs.List.{flat_map}
use Rattle.std.specs.Option.{option_map}
use borrow.Author.Tests.{eqb-true, eqb-false, ltb-true, ltb-false}
use Rattle.tx_code.specs.Objects.{ObjectView}
use Rattle.link_faults.specs.Ranks.{names_of}
use Rattle.link_faults.proofs.FirstClaims.{inside}
use Rattle.link_tables.specs.Homes.{HomeView, homes, names_at, start_of}

-- an object stands at this position
pub record StandsAt (os : List ObjectView) (at : ℕ) (o : ObjectView) : Type 0 where
  pub is : slice_get os at ≡ Some o

pub data Each {A : Type 0} (P : A → Type 0) : List A → Type 0 where
  nil : Each P []
  also : {x : A} {xs : List A} → P x → Each P xs → Each P (x ∷ xs)

pub each_append : {A : Type 0} (P : A → Type 0) (xs ys : List A) → Each P xs → Each P ys → Each P (xs ++ ys)
each_append P [] ys h g = g
each_append P (x ∷ xs) ys (also p h) g = also p (each_append P xs ys h g)

-- ---- the start of each object

start_zero : (o : ObjectView) (os : List ObjectView) → start_of (o ∷ os) 0 ≡ 0
start_zero o os = refl

start_suc : (o : ObjectView) (os : List ObjectView) (at : ℕ) → start_of (o ∷ os) (suc at) ≡ length o.names + start_of os at
start_suc o os at = refl

unequal : (a b : ℕ) → (a ≡ b → ⊥) → nat_eq a b ≡ false
unequal a b n = by (nat_eq a b) refl
  where
    by : (t : Bool) → nat_eq a b ≡ t → t ≡ false
    by true e = absurd (n (eqb-true a b e))
    by false e = refl

-- the names of an object that stands behind the first begin behind the first one's
behind : (o p : ObjectView) (os : List ObjectView) (at x y : ℕ) → x < length o.names → (x ≡ length o.names + start_of os at + y → ⊥)
behind o p os at x y l e = omega arith

eq_left : (n a b : ℕ) → nat_eq (n + a) (n + b) ≡ nat_eq a b
eq_left n a b = by (nat_eq a b) refl
  where
    by : (t : Bool) → nat_eq a b ≡ t → nat_eq (n + a) (n + b) ≡ t
    by true e = let same : a ≡ b = eqb-true a b e in rw same (eq-eqb (n + b) (n + b) refl)
    by false e = unequal (n + a) (n + b) (λ f. let n : a ≢ b = eqb-false a b e in n (omega (arith, f)))

same_place : (os : List ObjectView) (a b x y : ℕ) (o p : ObjectView) → slice_get os a ≡ Some o → slice_get os b ≡ Some p → x < length o.names
    → y < length p.names
    → nat_eq (start_of os a + x) (start_of os b + y) ≡ (nat_eq a b && nat_eq x y)
same_place [] a b x y o p ea eb lx ly = cc
same_place (q ∷ qs) zero zero x y o p ea eb lx ly = eq_left (start_of (q ∷ qs) 0) x y ∙ sym (ap (λ t. t && nat_eq x y) (eq-eqb 0 0 refl))
same_place (q ∷ qs) zero (suc b) x y o p ea eb lx ly =
    let q-is : q ≡ o = inside q o ea in
    let z = start_zero q qs in
    let s = start_suc q qs b in
    let l : length q.names ≡ length o.names = ap (λ (v : ObjectView). length v.names) q-is in
    unequal (start_of (q ∷ qs) 0 + x) (start_of (q ∷ qs) (suc b) + y) (λ e. omega (arith, z, s, l, e))
    ∙ sym (ap (λ t. t && nat_eq x y) (unequal 0 (suc b) (λ e. omega (arith, e))))
same_place (q ∷ qs) (suc a) zero x y o p ea eb lx ly =
    let q-is : q ≡ p = inside q p eb in
    let z = start_zero q qs in
    let s = start_suc q qs a in
    let l : length q.names ≡ length p.names = ap (λ (v : ObjectView). length v.names) q-is in
    unequal (start_of (q ∷ qs) (suc a) + x) (start_of (q ∷ qs) 0 + y) (λ e. omega (arith, z, s, l, e))
    ∙ sym (ap (λ t. t && nat_eq x y) (unequal (suc a) 0 (λ e. omega (arith, e))))
same_place (q ∷ qs) (suc a) (suc b) x y o p ea eb lx ly =
    let sa = start_suc q qs a in
    let sb = start_suc q qs b in
    let ra : start_of (q ∷ qs) (suc a) + x ≡ length q.names + (start_of qs a + x) = omega (arith, sa) in
    let rb : start_of (q ∷ qs) (suc b) + y ≡ length q.names + (start_of qs b + y) = omega (arith, sb) in
    rw (ra, rb) (eq_left (length q.names) (start_of qs a + x) (start_of qs b + y) ∙ same_place qs a b x y o p ea eb lx ly ∙ ap (λ t. t && nat_eq x y)
    (sym (eq_suc a b)))
  where
    eq_suc : (a b : ℕ) → nat_eq (suc a) (suc b) ≡ nat_eq a b
    eq_suc a b = by (nat_eq a b) refl
      where
        by : (t : Bool) → nat_eq a b ≡ t → nat_eq (suc a) (suc b) ≡ t
        by true e = eq-eqb (suc a) (suc b) (ap suc (eqb-true a b e))
        by false e = unequal (suc a) (suc b) (λ f. let n : a ≢ b = eqb-false a b e in n (omega (arith, f)))

pub same_places : (os : List ObjectView) (a b x y : ℕ) (o p : ObjectView) → StandsAt os a o → StandsAt os b p → x < length o.names → y < length p.names
    → nat_eq (start_of os a + x) (start_of os b + y) ≡ (nat_eq a b && nat_eq x y)
same_places os a b x y o p ea eb lx ly = same_place os a b x y o p ea.is eb.is lx ly

-- ---- homes

pub record IsPlaced (os : List ObjectView) (h : HomeView) : Type 0 where
  pub here : StandsAt os h.at h.object
  pub start : h.start ≡ start_of os h.at

get_same : (os : List ObjectView) (i j : ℕ) → i ≡ j → slice_get os i ≡ slice_get os j
get_same os i j e = ap (slice_get os) e

placed_from : (os rest : List ObjectView) (at start : ℕ) → ((k : ℕ) → slice_get os (at + k) ≡ slice_get rest k)
    → ((k : ℕ) → start_of os (at + k) ≡ start + start_of rest k) → Each (IsPlaced os) (homes at start rest)
placed_from os [] at start g s = nil
placed_from os (o ∷ rest) at start g s =
    let z = start_zero o rest in
    let i : at ≡ at + 0 = omega arith in
    also (record {
      here = record { is = ap (slice_get os) i ∙ g 0 };
      start =
          sym (ap (start_of os) i ∙ s 0 ∙ (let e : start + start_of (o ∷ rest) 0 ≡ start = omega (arith, z) in e));
    })
    (placed_from os rest (at + 1) (start + length o.names)
    (λ k. (let e : at + 1 + k ≡ at + suc k = omega arith in ap (slice_get os) e) ∙ g (suc k))
    (λ k. (let e : at + 1 + k ≡ at + suc k = omega arith in ap (start_of os) e) ∙ s (suc k) ∙ (let t = start_suc o rest k in omega (arith, t))))

pub all_placed : (os : List ObjectView) → Each (IsPlaced os) (homes 0 0 os)
all_placed os = placed_from os os 0 0
    (λ k. let e : 0 + k ≡ k = omega arith in ap (slice_get os) e)
    (λ k. let e : 0 + k ≡ k = omega arith in ap (start_of os) e ∙ (let f : start_of os k ≡ 0 + start_of os k = omega arith in f))

-- ---- the name at a place

get_front : {A : Type 0} (xs ys : List A) (i : ℕ) → i < length xs → slice_get (xs ++ ys) i ≡ slice_get xs i
get_front [] ys i l = absurd (omega arith)
get_front (x ∷ xs) ys zero l = refl
get_front (x ∷ xs) ys (suc i) l = get_front xs ys i (omega arith)

get_back : {A : Type 0} (xs ys : List A) (i j : ℕ) → j ≡ length xs + i → slice_get (xs ++ ys) j ≡ slice_get ys i
get_back [] ys i j e = let f : j ≡ i = omega (arith, e) in ap (slice_get ys) f
get_back (x ∷ xs) ys i zero e = absurd (omega arith)
get_back (x ∷ xs) ys i (suc j) e = get_back xs ys i j (omega arith)

pub name_at_place : (os : List ObjectView) (at n : ℕ) (o : ObjectView) → slice_get os at ≡ Some o → n < length o.names
    → slice_get (flat_map names_of os) (start_of os at + n) ≡ slice_get o.names n
name_at_place [] at n o e l = cc
name_at_place (p ∷ os) zero n o e l =
    let p-is : p ≡ o = inside p o e in
    let z = start_zero p os in
    let i : start_of (p ∷ os) 0 + n ≡ n = omega (arith, z) in
    let w : n < length p.names = let g = ap (λ (v : ObjectView). length v.names) p-is in omega (arith, g) in
    ap (slice_get (flat_map names_of (p ∷ os))) i ∙ get_front p.names (flat_map names_of os) n w ∙ ap (λ (v : ObjectView). slice_get v.names n) p-is
name_at_place (p ∷ os) (suc at) n o e l =
    let s = start_suc p os at in
    get_back p.names (flat_map names_of os) (start_of os at + n) (start_of (p ∷ os) (suc at) + n) (omega (arith, s)) ∙ name_at_place os at n o e l

pub place_within : (os : List ObjectView) (at n : ℕ) (o : ObjectView) → slice_get os at ≡ Some o → n < length o.names
    → start_of os at + n < length (flat_map names_of os)
place_within os at n o e l = within (flat_map names_of os) (start_of os at + n) o.names n l (name_at_place os at n o e l)
  where
    get_some : {A : Type 0} (xs : List A) (i : ℕ) → i < length xs → slice_get xs i ≡ None → ⊥
    get_some [] i l e = omega arith
    get_some (x ∷ xs) zero l e = cc
    get_some (x ∷ xs) (suc i) l e = get_some xs i (omega arith) e

    get_none : {A : Type 0} (xs : List A) (i : ℕ) → length xs ≤ i → slice_get xs i ≡ None
    get_none [] i l = refl
    get_none (x ∷ xs) zero l = absurd (omega arith)
    get_none (x ∷ xs) (suc i) l = get_none xs i (omega arith)

    within : {A : Type 0} (xs : List A) (i : ℕ) (ys : List A) (j : ℕ) → j < length ys → slice_get xs i ≡ slice_get ys j → i < length xs
    within xs i ys j l e = by (nat_lt i (length xs)) refl
      where
        by : (t : Bool) → nat_lt i (length xs) ≡ t → i < length xs
        by true f = ltb-true i (length xs) f
        by false f = absurd (get_some ys j l (sym e ∙ get_none xs i (ltb-false i (length xs) f)))

pub names_flat : (at start : ℕ) (os : List ObjectView) → flat_map names_at (homes at start os) ≡ flat_map names_of os
names_flat at start [] = refl
names_flat at start (o ∷ os) = ap (λ ns. o.names ++ ns) (names_flat (at + 1) (start + length o.names) os)

pub get_map : {A B : Type 0} (f : A → B) (xs : List A) (i : ℕ) → slice_get (map f xs) i ≡ option_map f (slice_get xs i)
get_map f [] i = refl
get_map f (x ∷ xs) zero = refl
get_map f (x ∷ xs) (suc i) = get_map f xs i

-- an element that is there
pub get_there : {A : Type 0} (xs : List A) (i : ℕ) (d : A) → i < length xs → slice_get xs i ≡ Some (unwrap_or (slice_get xs i) d)
get_there [] i d l = absurd (omega arith)
get_there (x ∷ xs) zero d l = refl
get_there (x ∷ xs) (suc i) d l = get_there xs i d (omega arith)
