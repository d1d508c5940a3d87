-- Ascending lists of names.
use Rattle.std.proofs.Common.{Bool, true, false, ◌≡◌, ◌<◌, ◌≤◌, ℕ, suc, zero, ◌+◌, List, [], ◌∷◌, map, length, refl, sym, ap, ◌∙◌, arith, Option, Some, ◌&&◌}
use Rattle.std.proofs.Common.{◌||◌, get_or, cond, unwrap_or, nat_lt, add-one}
use borrow.Author.Tests.{ltb-true, ltb-false}
use Rattle.std.specs.Prelude.{slice_index_or}
use Rattle.std.specs.List.{list_all, position_from, AllByRecursion, Contains, dedup, dedup_from}
use Rattle.std.specs.List.Sorted.{IsStrictlySortedBy, IsSorted, IsSortedBy, IsPermutation, IsPartitionPoint, IsNonDecreasingBy}
use Rattle.std.specs.Ordering.{is_lt, is_eq, nat_cmp, ordering_reverse, eq_by_cmp, ordering_index}
use Rattle.std.specs.declared.cmp.Ordering.{Ordering}
use Rattle.std.specs.declared.cmp.Ordering.TheVariants.{Less, Equal, Greater}
use Rattle.std.specs.Cmp.{IsTotalOrder, IsEquivalence, on_total, on_equiv}
use Rattle.std.specs.Cmp.Lexicographic.{slice_cmp, nat_list_cmp_total, nat_list_eq_equiv}
use Rattle.std.specs.Str.{bytes_eq}
use Rattle.std.specs.Global.{Vec}
use Rattle.std.proofs.lemmas.List.Kept.{Any-dedup, IsStrictlySortedBy-dedup}
use Rattle.std.proofs.lemmas.List.Sorted.{Contains-permutation, searchable_from_sorted}
use Rattle.std.proofs.lemmas.List.{length-map}
use Rattle.std.proofs.lemmas.Map.Lookups.{exact_bytes}
use Rattle.std.proofs.lemmas.Slice.Eq.{bytes_eq-Decides}
use Rattle.std.proofs.lemmas.Map.Text.{is_eq-slice_cmp}
use Rattle.tx_code.specs.Objects.{bytes_of}
use Rattle.tx_code.specs.WellFormed.{ascends, ascends_from, bytes_lt}
use Rattle.link_faults.specs.Ranks.{is_listed, rank_of}

pub and_left : (a b : Bool) → (a && b) ≡ true → a ≡ true
and_left true b h = refl
and_left false b h = cc

pub and_right : (a b : Bool) → (a && b) ≡ true → b ≡ true
and_right true b h = h
and_right false b h = cc

pub or_right : (a b : Bool) → b ≡ true → (a || b) ≡ true
or_right true b h = refl
or_right false b h = h

pub same_bytes : (a b : List ℕ) → bytes_eq a b ≡ true → a ≡ b
same_bytes a b h = (bytes_eq-Decides a b).0 h

pub equals_itself : (a : List ℕ) → bytes_eq a a ≡ true
equals_itself a = (bytes_eq-Decides a a).1 refl

pub other_bytes : (a b : List ℕ) → (a ≡ b → ⊥) → bytes_eq a b ≡ false
other_bytes a b n = by (bytes_eq a b) refl
  where
    by : (t : Bool) → bytes_eq a b ≡ t → t ≡ false
    by true e = absurd (n (same_bytes a b e))
    by false e = refl

lt_less : (r : Ordering) → is_lt r ≡ true → r ≡ Less
lt_less Less h = refl
lt_less Equal h = cc
lt_less Greater h = cc

pub below_less : (a b : List ℕ) → bytes_lt a b ≡ true → slice_cmp nat_cmp a b ≡ Less
below_less a b h = lt_less (slice_cmp nat_cmp a b) h

pub below_not_same : (a b : List ℕ) → bytes_lt a b ≡ true → a ≡ b → ⊥
below_not_same a b h e =
    let t : is_eq (slice_cmp nat_cmp a b) ≡ true = is_eq-slice_cmp a b ∙ (bytes_eq-Decides a b).1 e in
    let l : is_eq (slice_cmp nat_cmp a b) ≡ false = ap is_eq (below_less a b h) in
    cc

pub below_trans : (a b c : List ℕ) → bytes_lt a b ≡ true → bytes_lt b c ≡ true → bytes_lt a c ≡ true
below_trans a b c h g = ap is_lt (nat_list_cmp_total.trans a b c (below_less a b h) (below_less b c g))

-- the other way round
pub not_above : (a b : List ℕ) → bytes_lt a b ≡ true → bytes_lt b a ≡ false
not_above a b h = ap is_lt (nat_list_cmp_total.antisymm b a ∙ ap ordering_reverse (below_less a b h))

-- ---- positions

pub head_below : (x : List ℕ) (xs : List (List ℕ)) (i : ℕ) → ascends_from bytes_lt x xs ≡ true → i < length xs → bytes_lt x (get_or xs i []) ≡ true
head_below x [] i h l = absurd (omega arith)
head_below x (y ∷ ys) zero h l = and_left _ _ h
head_below x (y ∷ ys) (suc i) h l = below_trans x y _ (and_left _ _ h) (head_below y ys i (and_right _ _ h) (omega arith))

pub tail_ascends : (x : List ℕ) (xs : List (List ℕ)) → ascends_from bytes_lt x xs ≡ true → ascends bytes_lt xs ≡ true
tail_ascends x [] h = refl
tail_ascends x (y ∷ ys) h = and_right _ _ h

-- a name stands at one place alone
pub position_at : (all : List (List ℕ)) (n i : ℕ) (name : List ℕ) → ascends bytes_lt all ≡ true → i < length all → get_or all i [] ≡ name
    → position_from (bytes_eq name) n all ≡ Some (n + i)
position_at [] n i name h l e = absurd (omega arith)
position_at (x ∷ xs) n zero name h l e = rw (← e, equals_itself x) (ap (λ k. Some k) (omega arith))
position_at (x ∷ xs) n (suc i) name h l e =
    let o : bytes_eq name x ≡ false = other_bytes name x (λ p. below_not_same x (get_or xs i []) (head_below x xs i h (omega arith)) (sym p ∙ sym e)) in
    rw o (position_at xs (n + 1) i name (tail_ascends x xs h) (omega arith) e ∙ ap (λ k. Some k) (omega arith))

pub rank_at : (all : List (List ℕ)) (i : ℕ) (name : List ℕ) → ascends bytes_lt all ≡ true → i < length all → get_or all i [] ≡ name → rank_of all name ≡ i
rank_at all i name h l e = ap (λ (o : Option ℕ). unwrap_or o 0) (position_at all 0 i name h l e) ∙ omega arith

-- where a listed name stands
pub record StandsAt (all : List (List ℕ)) (name : List ℕ) (i : ℕ) : Type 0 where
  pub within : i < length all
  pub is : get_or all i [] ≡ name

pub where_listed : (all : List (List ℕ)) (name : List ℕ) → is_listed all name ≡ true → (i : ℕ) × StandsAt all name i
where_listed [] name h = cc
where_listed (x ∷ xs) name h = by (bytes_eq name x) refl (where_listed xs name)
  where
    by : (t : Bool) → bytes_eq name x ≡ t → (is_listed xs name ≡ true → (i : ℕ) × StandsAt xs name i) → (i : ℕ) × StandsAt (x ∷ xs) name i
    by true e f = (0, record { within = omega arith; is = sym (same_bytes name x e) })
    by false e f =
        let w = f (rw e at h) in
        (suc w.0, record { within = omega (arith, w.1.within); is = w.1.is })

pub listed_at : (all : List (List ℕ)) (i : ℕ) → i < length all → is_listed all (get_or all i []) ≡ true
listed_at [] i l = absurd (omega arith)
listed_at (x ∷ xs) zero l = rw (equals_itself x) refl
listed_at (x ∷ xs) (suc i) l = or_right (bytes_eq (get_or xs i []) x) _ (listed_at xs i (omega arith))

-- ---- rows of bytes

pub items_at : (vs : List (Vec ℕ)) (i : ℕ) (d : Vec ℕ) → i < length vs → get_or (map bytes_of vs) i [] ≡ (slice_index_or vs i d).items
items_at [] i d l = absurd (omega arith)
items_at (v ∷ vs) zero d l = refl
items_at (v ∷ vs) (suc i) d l = items_at vs i d (omega arith)

abbrev pub items_cmp : Vec ℕ → Vec ℕ → Ordering
items_cmp x y = slice_cmp nat_cmp x.items y.items

heads : (v : Vec ℕ) (vs : List (Vec ℕ)) → AllByRecursion (λ y. items_cmp v y ≡ Less) vs → IsStrictlySortedBy items_cmp vs
    → ascends_from bytes_lt v.items (map bytes_of vs) ≡ true
unfolding IsStrictlySortedBy
heads v [] a s = refl
heads v (w ∷ vs) a s = rw (ap is_lt a.0) (heads w vs s.0 s.1)

pub strict_ascends : (vs : List (Vec ℕ)) → IsStrictlySortedBy items_cmp vs → ascends bytes_lt (map bytes_of vs) ≡ true
unfolding IsStrictlySortedBy
strict_ascends [] s = refl
strict_ascends (v ∷ vs) s = heads v vs s.0 s.1

-- ---- what sorting leaves

pub items_total : IsTotalOrder items_cmp
items_total = on_total (λ (x : Vec ℕ). x.items) nat_list_cmp_total

abbrev pub items_eq : Vec ℕ → Vec ℕ → Bool
items_eq x y = bytes_eq x.items y.items

pub items_equiv : IsEquivalence items_eq
items_equiv = on_equiv (λ (x : Vec ℕ). x.items) nat_list_eq_equiv

pub ties : (x y : Vec ℕ) → items_eq x y ≡ eq_by_cmp items_cmp x y
ties x y = sym (is_eq-slice_cmp x.items y.items)

pub listed_in : (vs : List (Vec ℕ)) (v : Vec ℕ) (i : ℕ) (d : Vec ℕ) → i < length vs → items_eq v (slice_index_or vs i d) ≡ true
    → is_listed (map bytes_of vs) v.items ≡ true
listed_in [] v i d l e = absurd (omega arith)
listed_in (w ∷ vs) v zero d l e = rw e refl
listed_in (w ∷ vs) v (suc i) d l e = or_right (bytes_eq v.items w.items) _ (listed_in vs v i d (omega arith) e)

pub dedup_lists : (vs : List (Vec ℕ)) (v : Vec ℕ) → Contains vs v → is_listed (map bytes_of (dedup items_eq vs)) v.items ≡ true
dedup_lists vs v h =
    let a = Any-dedup items_equiv vs v h in
    listed_in (dedup items_eq vs) v a.0 a.1 a.2 (ap (items_eq v) a.3 ∙ a.4)

pub all_of : (all : List (List ℕ)) (vs : List (Vec ℕ)) → ((v : Vec ℕ) → Contains vs v → is_listed all v.items ≡ true)
    → list_all (is_listed all) (map bytes_of vs) ≡ true
all_of all [] f = refl
all_of all (v ∷ vs) f = rw (f v (0, omega arith, refl)) (all_of all vs (λ w c. f w (suc c.0, omega (arith, c.1), c.2)))

rest_shorter : (v : Vec ℕ) (vs : List (Vec ℕ)) → length (dedup_from items_eq v vs) ≤ suc (length vs)
rest_shorter v [] = omega arith
rest_shorter v (w ∷ vs) = by (items_eq w v) (rest_shorter v vs) (rest_shorter w vs)
  where
    by : (t : Bool) → length (dedup_from items_eq v vs) ≤ suc (length vs) → length (dedup_from items_eq w vs) ≤ suc (length vs)
        → length (cond t (dedup_from items_eq v vs) (v ∷ dedup_from items_eq w vs)) ≤ suc (suc (length vs))
    by true a b = omega arith
    by false a b = omega arith

pub dedup_shorter : (vs : List (Vec ℕ)) → length (dedup items_eq vs) ≤ length vs
dedup_shorter [] = omega arith
dedup_shorter (v ∷ vs) = rest_shorter v vs

pub all_listed : (vs ws : List (Vec ℕ)) → IsPermutation vs ws → list_all (is_listed (map bytes_of (dedup items_eq ws))) (map bytes_of vs) ≡ true
all_listed vs ws p = all_of _ vs (λ v c. dedup_lists ws v (Contains-permutation vs ws v p c))

pub dedup_ascends : (vs : List (Vec ℕ)) → IsSorted items_cmp vs → ascends bytes_lt (map bytes_of (dedup items_eq vs)) ≡ true
dedup_ascends vs s = strict_ascends _ (IsStrictlySortedBy-dedup items_total ties vs s)

-- ---- what a search finds

neighbours : (all : List (List ℕ)) (k : ℕ) → ascends bytes_lt all ≡ true → suc k < length all → bytes_lt (get_or all k []) (get_or all (suc k) []) ≡ true
neighbours [] k h l = absurd (omega arith)
neighbours (x ∷ xs) zero h l = head_below x xs 0 h (omega arith)
neighbours (x ∷ xs) (suc k) h l = neighbours xs k (tail_ascends x xs h) (omega arith)

sorted : (vs : List (Vec ℕ)) → ascends bytes_lt (map bytes_of vs) ≡ true → IsSortedBy (λ a b. is_lt (slice_cmp nat_cmp a.items b.items)) vs
sorted vs h k d l m =
    let long = length-map vs bytes_of in
    let n = neighbours (map bytes_of vs) k h (omega (arith, long, m)) in
    let a : get_or (map bytes_of vs) k [] ≡ (slice_index_or vs k d).items = items_at vs k d (omega arith) in
    let b : get_or (map bytes_of vs) (suc k) [] ≡ (slice_index_or vs (suc k) d).items = items_at vs (suc k) d (omega arith) in
    let t : bytes_lt (slice_index_or vs k d).items (slice_index_or vs (suc k) d).items ≡ true = rw (← a, ← b) n in
    rw add-one (not_above (slice_index_or vs k d).items (slice_index_or vs (suc k) d).items t)

equal_is : (r : Ordering) → is_eq r ≡ true → r ≡ Equal
equal_is Less h = cc
equal_is Equal h = refl
equal_is Greater h = cc

is_equal : (a : List ℕ) → slice_cmp nat_cmp a a ≡ Equal
is_equal a = equal_is _ (is_eq-slice_cmp a a ∙ equals_itself a)

pub found : (vs : List (Vec ℕ)) (name : List ℕ) (i : ℕ) → ascends bytes_lt (map bytes_of vs) ≡ true → i < length vs
    → ((d : Vec ℕ) → slice_cmp nat_cmp (slice_index_or vs i d).items name ≡ Equal) → (d : Vec ℕ) → i ≡ rank_of (map bytes_of vs) name
found vs name i h l e d =
    let long = length-map vs bytes_of in
    sym (rank_at (map bytes_of vs) i name h (omega (arith, long)) (items_at vs i d l ∙ exact_bytes _ _ (e d)))

pub not_missed : (vs : List (Vec ℕ)) (name : List ℕ) (i : ℕ) → ascends bytes_lt (map bytes_of vs) ≡ true → is_listed (map bytes_of vs) name ≡ true
    → (IsNonDecreasingBy (λ y. ordering_index (slice_cmp nat_cmp y.items name)) vs
    → IsPartitionPoint (λ y. slice_cmp nat_cmp y.items name ≡ Less) (λ y. slice_cmp nat_cmp y.items name ≡ Greater) vs i)
    → (d : Vec ℕ) → ⊥
not_missed vs name i h l f d =
    let long = length-map vs bytes_of in
    let p = f (searchable_from_sorted nat_list_cmp_total (λ (v : Vec ℕ). v.items) vs name (sorted vs h)) in
    let w = where_listed (map bytes_of vs) name l in
    let at : (slice_index_or vs w.0 d).items ≡ name = sym (items_at vs w.0 d (omega (arith, w.1.within, long))) ∙ w.1.is in
    let same : slice_cmp nat_cmp (slice_index_or vs w.0 d).items name ≡ Equal = rw at (is_equal name) in
    by (nat_lt w.0 i) refl p same w.1.within
  where
    by : (t : Bool) → nat_lt (where_listed (map bytes_of vs) name l).0 i ≡ t
        → IsPartitionPoint (λ (y : Vec ℕ). slice_cmp nat_cmp y.items name ≡ Less) (λ (y : Vec ℕ). slice_cmp nat_cmp y.items name ≡ Greater) vs i
        → slice_cmp nat_cmp (slice_index_or vs (where_listed (map bytes_of vs) name l).0 d).items name ≡ Equal
        → (where_listed (map bytes_of vs) name l).0 < length (map bytes_of vs) → ⊥
    by true e p same within = let less = p.0 (where_listed (map bytes_of vs) name l).0 d (omega arith) (ltb-true _ _ e) in cc
    by false e p same within = let long = length-map vs bytes_of in let more =
        p.1 (where_listed (map bytes_of vs) name l).0 d (ltb-false _ _ e) (omega (arith, within, long)) in cc
