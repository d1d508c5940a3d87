-- The types of an image are the names that bodies name as types.
use Rattle.std.proofs.Common.{Bool, true, false, ◌≡◌, ◌≢◌, ◌<◌, ◌≤◌, ℕ, suc, ◌+◌, List, [], ◌∷◌, ◌++◌, map, filter, length, refl, sym, ap, ◌∙◌, arith, Some}
use Rattle.std.proofs.Common.{None, ◌&&◌, ◌||◌, nat_eq, cond, slice_get, slice_set, get_or, length-set}
use Rattle.std.specs.List.{list_all, list_any, position_from}
use Rattle.std.specs.Str.{bytes_eq}
use borrow.Author.Tests.{eqb-true}
use Rattle.tx_code.specs.WellFormed.{ascends, ascends_from, bytes_lt}
use Rattle.link_faults.specs.Ranks.{is_listed, rank_of}
use Rattle.link_faults.specs.Unlisted.{AreMarks, is_symbol}
use Rattle.link_faults.proofs.Ascending.{and_left, and_right, same_bytes, equals_itself, below_trans, rank_at, listed_at}
use Rattle.link_faults.proofs.ByRank.{equal_ranks}
use Rattle.link_faults.proofs.FirstClaims.{any_of_append}
use Rattle.link_faults.proofs.Marks.{marked as marked_one}
use Rattle.link_parts.specs.Types.{Adds, marked}
use Rattle.link_parts.specs.Told.{AreTypes}

-- ---- marks

append_nil : {A : Type 0} (xs : List A) → xs ++ [] ≡ xs
append_nil [] = refl
append_nil (x ∷ xs) = ap (λ ys. x ∷ ys) (append_nil xs)

append_assoc : {A : Type 0} (xs ys zs : List A) → (xs ++ ys) ++ zs ≡ xs ++ (ys ++ zs)
append_assoc [] ys zs = refl
append_assoc (x ∷ xs) ys zs = ap (λ ws. x ∷ ws) (append_assoc xs ys zs)

pub adds_none : (marks : List Bool) → Adds [] marks marks
adds_none marks = record { marks = λ before h. rw (append_nil before) h; long = refl }

pub adds_more : (xs ys : List ℕ) (old mid new : List Bool) → Adds xs old mid → Adds ys mid new → Adds (xs ++ ys) old new
adds_more xs ys old mid new a b = record {
  marks = λ before h. rw (← append_assoc before xs ys) (b.marks (before ++ xs) (a.marks before h));
  long = b.long
      ∙ a.long;
}

pub adds_one : (marks : List Bool) (rank : ℕ) → rank < length marks → Adds (rank ∷ []) marks (slice_set marks rank true)
adds_one marks rank l = record { marks = λ before h. marked_one before marks rank l h; long = length-set marks rank true }

pub adds_beyond : (marks : List Bool) (rank : ℕ) → length marks ≤ rank → Adds (rank ∷ []) marks marks
adds_beyond marks rank l = record {
  marks = λ before h k w. h k w ∙ sym
      (ap (λ b. Some b) (any_of_append (λ s. nat_eq s k) before (rank ∷ []) ∙
      (let n : rank ≢ k = omega arith in rw (unequal rank k n) (or_no (is_symbol before k)))));
  long = refl;
}
  where
    or_no : (a : Bool) → (a || (false || false)) ≡ a
    or_no true = refl
    or_no false = refl

    unequal : (a b : ℕ) → (a ≡ b → ⊥) → nat_eq a b ≡ false
    unequal a b n = by (nat_eq a b) refl
      where
        by : (t : Bool) → nat_eq a b ≡ t → t ≡ false
        by true e = absurd (n (eqb-true a b e))
        by false e = refl

-- ---- the marked names

pub marked_snoc : (ns : List (List ℕ)) (n : List ℕ) (ms : List Bool) (b : Bool) → slice_get ms (length ns) ≡ Some b
    → marked (ns ++ n ∷ []) ms ≡ marked ns ms ++ cond b (n ∷ []) []
marked_snoc [] n [] b e = cc
marked_snoc [] n (m ∷ ms) b e = let s : m ≡ b = inside_bool m b e in rw s (by b)
  where
    inside_bool : (x y : Bool) → Some x ≡ Some y → x ≡ y
    inside_bool x y f = cc

    by : (b : Bool) → cond b (n ∷ []) [] ≡ [] ++ cond b (n ∷ []) []
    by true = refl
    by false = refl
marked_snoc (x ∷ xs) n [] b e = cc
marked_snoc (x ∷ xs) n (m ∷ ms) b e = by m (marked_snoc xs n ms b e)
  where
    by : (c : Bool) → marked (xs ++ n ∷ []) ms ≡ marked xs ms ++ cond b (n ∷ []) []
        → cond c (x ∷ marked (xs ++ n ∷ []) ms) (marked (xs ++ n ∷ []) ms) ≡ cond c (x ∷ marked xs ms) (marked xs ms) ++ cond b (n ∷ []) []
    by true f = ap (λ ys. x ∷ ys) f
    by false f = f

marked_is_filter : (q : List ℕ → Bool) (ns : List (List ℕ)) (ms : List Bool) → ((k : ℕ) → k < length ns → slice_get ms k ≡ Some (q (get_or ns k [])))
    → marked ns ms ≡ filter q ns
marked_is_filter q [] ms h = refl
marked_is_filter q (n ∷ ns) [] h = let e = h 0 (omega arith) in cc
marked_is_filter q (n ∷ ns) (m ∷ ms) h =
    let s : m ≡ q n = inside_bool m (q n) (h 0 (omega arith)) in
    ap (λ b. cond b (n ∷ marked ns ms) (marked ns ms)) s ∙ ap (λ ys. cond (q n) (n ∷ ys) ys) (marked_is_filter q ns ms (λ k l. h (suc k) (omega arith)))
  where
    inside_bool : (x y : Bool) → Some x ≡ Some y → x ≡ y
    inside_bool x y f = cc

-- a part of an ascending list ascends
filter_below : (q : List ℕ → Bool) (x : List ℕ) (ns : List (List ℕ)) → ascends_from bytes_lt x ns ≡ true → ascends_from bytes_lt x (filter q ns) ≡ true
filter_below q x [] h = refl
filter_below q x (n ∷ ns) h = by (q n) (filter_below q n ns (and_right (bytes_lt x n) _ h))
  where
    less : bytes_lt x n ≡ true
    less = and_left (bytes_lt x n) _ h

    lower : (ys : List (List ℕ)) → ascends_from bytes_lt n ys ≡ true → ascends_from bytes_lt x ys ≡ true
    lower [] g = refl
    lower (y ∷ ys) g = rw (below_trans x n y less (and_left (bytes_lt n y) _ g)) (and_right (bytes_lt n y) _ g)

    by : (b : Bool) → ascends_from bytes_lt n (filter q ns) ≡ true → ascends_from bytes_lt x (cond b (n ∷ filter q ns) (filter q ns)) ≡ true
    by true f = rw less f
    by false f = lower (filter q ns) f

filter_ascends : (q : List ℕ → Bool) (ns : List (List ℕ)) → ascends bytes_lt ns ≡ true → ascends bytes_lt (filter q ns) ≡ true
filter_ascends q [] h = refl
filter_ascends q (n ∷ ns) h = by (q n)
  where
    from : (ys : List (List ℕ)) → ascends_from bytes_lt n ys ≡ true → ascends bytes_lt ys ≡ true
    from [] g = refl
    from (y ∷ ys) g = and_right (bytes_lt n y) _ g

    by : (b : Bool) → ascends bytes_lt (cond b (n ∷ filter q ns) (filter q ns)) ≡ true
    by true = filter_below q n ns h
    by false = from (filter q ns) (filter_below q n ns h)

and_false : (b : Bool) → (b && false) ≡ false
and_false true = refl
and_false false = refl

-- a name is among a part where it is among all and passes
any_filter : (q : List ℕ → Bool) (ty : List ℕ) (ns : List (List ℕ)) → list_any (bytes_eq ty) (filter q ns) ≡ (q ty && list_any (bytes_eq ty) ns)
any_filter q ty [] = sym (and_false (q ty))
any_filter q ty (n ∷ ns) = by (bytes_eq ty n) refl (q n) refl (any_filter q ty ns)
  where
    true_or : (b : Bool) → (b && true) ≡ b
    true_or true = refl
    true_or false = refl

    by : (e : Bool) → bytes_eq ty n ≡ e → (b : Bool) → q n ≡ b → list_any (bytes_eq ty) (filter q ns) ≡ (q ty && list_any (bytes_eq ty) ns)
        → list_any (bytes_eq ty) (cond b (n ∷ filter q ns) (filter q ns)) ≡ (q ty && (e || list_any (bytes_eq ty) ns))
    by true f true g h = let s : ty ≡ n = same_bytes ty n f in let t : q ty ≡ true = ap q s ∙ g in rw (f, t) refl
    by true f false g h = let s : ty ≡ n = same_bytes ty n f in let t : q ty ≡ false = ap q s ∙ g in h ∙ rw t refl
    by false f true g h = rw f h
    by false f false g h = h

-- ---- by names

-- the marks are those of the ranks of these names
mark_by_name : (all : List (List ℕ)) (mentions : List (List ℕ)) → ascends bytes_lt all ≡ true → list_all (is_listed all) mentions ≡ true → (name : List ℕ)
    → is_listed all name ≡ true
    → is_symbol (map (rank_of all) mentions) (rank_of all name) ≡ list_any (bytes_eq name) mentions
mark_by_name all [] h l name n = refl
mark_by_name all (m ∷ ms) h l name n =
    ap (λ b. b || is_symbol (map (rank_of all) ms) (rank_of all name)) (equal_ranks all h m name (and_left (is_listed all m) _ l) n ∙ swap m name)
    ∙ ap (λ b. bytes_eq name m || b) (mark_by_name all ms h (and_right (is_listed all m) _ l) name n)
  where
    swap : (a b : List ℕ) → bytes_eq a b ≡ bytes_eq b a
    swap a b = by (bytes_eq a b) refl (bytes_eq b a) refl
      where
        by : (t : Bool) → bytes_eq a b ≡ t → (u : Bool) → bytes_eq b a ≡ u → t ≡ u
        by true e true f = refl
        by false e false f = refl
        by true e false f = let s : a ≡ b = same_bytes a b e in sym (sym f ∙ ap (λ c. bytes_eq b c) s ∙ equals_itself b)
        by false e true f = let s : b ≡ a = same_bytes b a f in sym e ∙ ap (λ c. bytes_eq a c) s ∙ equals_itself a

listed_mention : (all : List (List ℕ)) (mentions : List (List ℕ)) (ty : List ℕ) → list_all (is_listed all) mentions ≡ true
    → list_any (bytes_eq ty) mentions ≡ true → is_listed all ty ≡ true
listed_mention all [] ty l e = cc
listed_mention all (m ∷ ms) ty l e = by (bytes_eq ty m) refl e (λ g. listed_mention all ms ty (and_right (is_listed all m) _ l) g)
  where
    by : (b : Bool) → bytes_eq ty m ≡ b → (b || list_any (bytes_eq ty) ms) ≡ true → (list_any (bytes_eq ty) ms ≡ true → is_listed all ty ≡ true)
        → is_listed all ty ≡ true
    by true f g r = let s : ty ≡ m = same_bytes ty m f in ap (is_listed all) s ∙ and_left (is_listed all m) _ l
    by false f g r = r g

pub types_by_name : (all mentions : List (List ℕ)) (marks : List Bool) → ascends bytes_lt all ≡ true → list_all (is_listed all) mentions ≡ true
    → length marks ≡ length all → AreMarks (map (rank_of all) mentions) marks
    → AreTypes mentions (marked all marks)
types_by_name all mentions marks h l long m =
    let q : List ℕ → Bool = λ name. list_any (bytes_eq name) mentions in
    let is : marked all marks ≡ filter q all = marked_is_filter q all marks (λ k w.
    let r : rank_of all (get_or all k []) ≡ k = rank_at all k (get_or all k []) h w refl in
    m k (omega (arith, long)) ∙ ap (λ b. Some b) (ap (is_symbol (map (rank_of all) mentions)) (sym r) ∙ mark_by_name all mentions h l (get_or all k [])
    (listed_at all k w))) in
    record {
      ascend = ap (ascends bytes_lt) is ∙ filter_ascends q all h;
      same = λ ty. ap (list_any (bytes_eq ty)) is ∙ any_filter q ty all ∙ by ty (q ty) refl;
    }
  where
    by : (ty : List ℕ) (b : Bool) → list_any (bytes_eq ty) mentions ≡ b → (b && list_any (bytes_eq ty) all) ≡ list_any (bytes_eq ty) mentions
    by ty true e = listed_mention all mentions ty l e ∙ sym e
    by ty false e = sym e

-- ---- the number of a type

pub no_position : (name : List ℕ) (n : ℕ) (types : List (List ℕ)) → is_listed types name ≡ false → position_from (bytes_eq name) n types ≡ None
no_position name n [] e = refl
no_position name n (t ∷ ts) e = by (bytes_eq name t) e (no_position name (n + 1) ts)
  where
    by : (b : Bool) → (b || is_listed ts name) ≡ false → (is_listed ts name ≡ false → position_from (bytes_eq name) (n + 1) ts ≡ None)
        → cond b (Some n) (position_from (bytes_eq name) (n + 1) ts) ≡ None
    by true f r = cc
    by false f r = r f
