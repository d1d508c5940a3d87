-- Tests of entries by ranks.
use Rattle.std.proofs.Common.{Bool, true, false, ◌≡◌, ◌<◌, ◌≤◌, ◌≢◌, ℕ, suc, zero, List, [], ◌∷◌, map, filter, length, refl, sym, ap, ◌∙◌, arith, Option, Some}
use Rattle.std.proofs.Common.{None, ◌&&◌, ◌||◌, not, nat_eq, cond, get_or, unwrap_or, is_some, IfSome}
use Rattle.std.specs.List.{list_any, list_all}
use Rattle.std.specs.Option.{option_map, option_map_or}
use Rattle.std.specs.Str.{bytes_eq}
use borrow.Author.Tests.{eqb-true, eqb-false}
use Rattle.tx_code.specs.WellFormed.{ascends, bytes_lt}
use Rattle.link_faults.specs.declared.disputes.Claim.{Claim}
use Rattle.link_faults.specs.declared.entries.RankedEntry.{RankedEntry}
use Rattle.link_faults.specs.Faults.{Entry, any_two, clash, types_differ, texts_differ, is_other_text}
use Rattle.link_faults.specs.Ranks.{is_listed, rank_of}
use Rattle.link_faults.specs.Ranked.{ranked}
use Rattle.link_faults.specs.Claims.{is_definition, definition, is_seen, said_type, is_inline, said_text}
use Rattle.link_faults.specs.Disputes.{disputes, is_disputed, IsLeast}
use Rattle.link_faults.specs.Tests.{IsByRank, is_listed_entry, IsFirst}
use Rattle.link_faults.proofs.Ascending.{and_left, and_right, same_bytes, equals_itself, other_bytes, where_listed, listed_at, rank_at, head_below}
use Rattle.link_faults.proofs.Ascending.{tail_ascends, below_not_same, not_above}

-- ---- ranks

pub equal_ranks : (all : List (List ℕ)) → ascends bytes_lt all ≡ true → (a b : List ℕ) → is_listed all a ≡ true → is_listed all b ≡ true
    → nat_eq (rank_of all a) (rank_of all b) ≡ bytes_eq a b
equal_ranks all h a b la lb =
    let wa = where_listed all a la in
    let wb = where_listed all b lb in
    rw (rank_at all wa.0 a h wa.1.within wa.1.is, rank_at all wb.0 b h wb.1.within wb.1.is) (by (nat_eq wa.0 wb.0) refl wa.1.is wb.1.is (bytes_eq a b) refl)
  where
    by : (t : Bool) → nat_eq (where_listed all a la).0 (where_listed all b lb).0 ≡ t → get_or all (where_listed all a la).0 [] ≡ a
        → get_or all (where_listed all b lb).0 [] ≡ b → (u : Bool) → bytes_eq a b ≡ u → t ≡ bytes_eq a b
    by true e p q u g = let same = eqb-true _ _ e in let s : a ≡ b = sym p ∙ ap (λ i. get_or all i []) same ∙ q in
        sym (ap (bytes_eq a) (sym s) ∙ equals_itself a)
    by false e p q true g =
        let s : a ≡ b = same_bytes a b g in
        let wa = where_listed all a la in
        let wb = where_listed all b lb in
        let r : wa.0 ≡ wb.0 = sym (rank_at all wa.0 a h wa.1.within wa.1.is) ∙ rank_at all wb.0 a h wb.1.within (q ∙ sym s) in
        absurd (eqb-false _ _ e r)
    by false e p q false g = sym g

-- a name beside a listed one is listed
pub listed_too : (all : List (List ℕ)) (a b : List ℕ) → is_listed all a ≡ true → is_listed all b ≡ false → bytes_eq a b ≡ false
listed_too all a b la lb = other_bytes a b (λ e. let t : is_listed all b ≡ true = rw (← e) la in cc)

below_index : (all : List (List ℕ)) (i j : ℕ) → ascends bytes_lt all ≡ true → i < j → j < length all → bytes_lt (get_or all i []) (get_or all j []) ≡ true
below_index [] i j h l m = absurd (omega arith)
below_index (x ∷ xs) i zero h l m = absurd (omega arith)
below_index (x ∷ xs) zero (suc j) h l m = head_below x xs j h (omega arith)
below_index (x ∷ xs) (suc i) (suc j) h l m = below_index xs i j (tail_ascends x xs h) (omega arith) (omega arith)

not_below_itself : (a : List ℕ) → bytes_lt a a ≡ false
not_below_itself a = by (bytes_lt a a) refl
  where
    by : (t : Bool) → bytes_lt a a ≡ t → t ≡ false
    by true e = absurd (below_not_same a a e refl)
    by false e = refl

not_less : (all : List (List ℕ)) (i j : ℕ) → ascends bytes_lt all ≡ true → i ≤ j → j < length all → bytes_lt (get_or all j []) (get_or all i []) ≡ false
not_less all i j h l m = by (nat_eq i j) refl
  where
    by : (t : Bool) → nat_eq i j ≡ t → bytes_lt (get_or all j []) (get_or all i []) ≡ false
    by true e = let same : i ≡ j = eqb-true i j e in rw same (not_below_itself (get_or all j []))
    by false e = let n : i ≢ j = eqb-false i j e in not_above (get_or all i []) (get_or all j []) (below_index all i j h (omega arith) m)

pub first_by_rank : (all : List (List ℕ)) (test : List ℕ → Bool) (by_rank : ℕ → Bool) → ascends bytes_lt all ≡ true → IsByRank all test by_rank → (o : Option ℕ)
    → IfSome o (λ k. k < length all) → IsLeast by_rank o → IsFirst test all o
first_by_rank all test by_rank h s None w l = record {
  none = λ name. s.same name ∙ ap (λ b. is_listed all name && b) (l.none (rank_of all name)) ∙ nothing
      (is_listed all name);
}
  where
    nothing : (b : Bool) → (b && false) ≡ false
    nothing true = refl
    nothing false = refl
first_by_rank all test by_rank h s (Some k) w l = (
  w,
  record {
    holds = s.same (get_or all k []) ∙ rw (listed_at all k w, rank_at all k (get_or all k []) h w refl) l.holds;
    least = λ other e.
        let both : (is_listed all other && by_rank (rank_of all other)) ≡ true = sym (s.same other) ∙ e in
        let at = where_listed all other (and_left _ _ both) in
        let r : rank_of all other ≡ at.0 = rank_at all at.0 other h at.1.within at.1.is in
        let far : k ≤ rank_of all other = l.least (rank_of all other) (and_right (is_listed all other) _ both) in
        rw (← at.1.is) (not_less all k at.0 h (omega (arith, r)) at.1.within);
  },
)

pub either_by_rank : (all : List (List ℕ)) (p q : List ℕ → Bool) (r s : ℕ → Bool) → IsByRank all p r → IsByRank all q s
    → IsByRank all (λ name. p name || q name) (λ k. r k || s k)
either_by_rank all p q r s f g = record {
  same = λ name. rw (f.same name, g.same name)
      (over (is_listed all name) (r (rank_of all name)) (s (rank_of all name)));
}
  where
    over : (l a b : Bool) → ((l && a) || (l && b)) ≡ (l && (a || b))
    over true a b = refl
    over false a b = refl

-- ---- claims

-- the claims of these two entries dispute where the entries differ
abbrev pub Claims : (all : List (List ℕ)) (name : List ℕ) (t : Entry → Entry → Bool) (p : RankedEntry → Bool) (f : RankedEntry → Claim) → Type 0
Claims all name t p f = (x y : Entry) → is_listed_entry all x ≡ true → is_listed_entry all y ≡ true
    → t x y ≡ (is_listed all name && (p (ranked all x) && (p (ranked all y) && disputes (rank_of all name) (f (ranked all x)) (f (ranked all y)))))

spread : (l a b c d : Bool) → ((l && (a && (b && c))) || (l && (a && d))) ≡ (l && (a && ((b && c) || d)))
spread true true b c d = refl
spread true false b c d = refl
spread false a b c d = refl

join : (l a b c : Bool) → ((l && (a && b)) || (l && c)) ≡ (l && ((a && b) || c))
join true a b c = refl
join false a b c = refl

nothing_left : (l a : Bool) → false ≡ (l && (a && false))
nothing_left true true = refl
nothing_left true false = refl
nothing_left false a = refl

abbrev pub claims_of : (List (List ℕ)) → (RankedEntry → Bool) → (RankedEntry → Claim) → List Entry → List Claim
claims_of all p f es = map f (filter p (map (ranked all) es))

one_entry : (all : List (List ℕ)) (name : List ℕ) (t : Entry → Entry → Bool) (p : RankedEntry → Bool) (f : RankedEntry → Claim) → Claims all name t p f
    → (x : Entry) → is_listed_entry all x ≡ true → (ys : List Entry) → list_all (is_listed_entry all) ys ≡ true
    → list_any (t x) ys ≡ (is_listed all name && (p (ranked all x) && list_any (disputes (rank_of all name) (f (ranked all x))) (claims_of all p f ys)))
one_entry all name t p f h x lx [] l = nothing_left (is_listed all name) (p (ranked all x))
one_entry all name t p f h x lx (y ∷ ys) l =
    rw (h x y lx (and_left _ _ l), one_entry all name t p f h x lx ys (and_right (is_listed_entry all y) _ l))
    (spread (is_listed all name) (p (ranked all x)) (p (ranked all y)) _ _ ∙ ap (λ b. is_listed all name && (p (ranked all x) && b)) (by (p (ranked all y))))
  where
    by : (b : Bool) → ((b && disputes (rank_of all name) (f (ranked all x)) (f (ranked all y))) || list_any (disputes (rank_of all name) (f (ranked all x)))
        (claims_of all p f ys))
        ≡ list_any (disputes (rank_of all name) (f (ranked all x)))
        (map f (cond b (ranked all y ∷ filter p (map (ranked all) ys)) (filter p (map (ranked all) ys))))
    by true = refl
    by false = refl

all_entries : (all : List (List ℕ)) (name : List ℕ) (t : Entry → Entry → Bool) (p : RankedEntry → Bool) (f : RankedEntry → Claim) → Claims all name t p f
    → (es : List Entry) → list_all (is_listed_entry all) es ≡ true
    → any_two t es ≡ (is_listed all name && is_disputed (claims_of all p f es) (rank_of all name))
all_entries all name t p f h [] l = by (is_listed all name)
  where
    by : (b : Bool) → false ≡ (b && false)
    by true = refl
    by false = refl
all_entries all name t p f h (x ∷ xs) l =
    rw (
      one_entry all name t p f h x (and_left _ _ l) xs (and_right (is_listed_entry all x) _ l),
      all_entries all name t p f h xs (and_right (is_listed_entry all x) _ l),
    )
    (join (is_listed all name) (p (ranked all x)) _ _ ∙ ap (λ b. is_listed all name && b) (by (p (ranked all x))))
  where
    by : (b : Bool) → ((b && list_any (disputes (rank_of all name) (f (ranked all x))) (claims_of all p f xs)) || is_disputed (claims_of all p f xs)
        (rank_of all name))
        ≡ is_disputed (map f (cond b (ranked all x ∷ filter p (map (ranked all) xs)) (filter p (map (ranked all) xs)))) (rank_of all name)
    by true = refl
    by false = refl

-- ---- the three sorts of claims

twice_parts : (dx ix nx dy iy ny ex ey : Bool) → ((dx && (ix && nx)) && (dy && (iy && ny)) && (ex || ey))
    ≡ (true && ((dx && ix) && ((dy && iy) && ((nx && ny) && (ex || ey || false)))))
twice_parts false ix nx dy iy ny ex ey = refl
twice_parts true false nx dy iy ny ex ey = refl
twice_parts true true nx false iy ny ex ey = by nx
  where
    by : (b : Bool) → (b && false && (ex || ey)) ≡ false
    by true = refl
    by false = refl
twice_parts true true nx true false ny ex ey = by nx
  where
    by : (b : Bool) → (b && false && (ex || ey)) ≡ false
    by true = refl
    by false = refl
twice_parts true true false true true ny ex ey = refl
twice_parts true true true true true false ex ey = refl
twice_parts true true true true true true true ey = refl
twice_parts true true true true true true false true = refl
twice_parts true true true true true true false false = refl

type_parts : (ix nx iy ny d : Bool) → ((ix && nx) && (iy && ny) && d) ≡ (true && (ix && (iy && ((nx && ny) && (false || false || d)))))
type_parts false nx iy ny d = refl
type_parts true true true true d = refl
type_parts true true true false d = refl
type_parts true true false ny d = refl
type_parts true false true ny d = refl
type_parts true false false ny d = refl

-- no entry is of a name that is not listed
pub unlisted_entry : (all : List (List ℕ)) (name : List ℕ) (e : Entry) → is_listed_entry all e ≡ true → is_listed all name ≡ false
    → bytes_eq e.symbol name ≡ false
unlisted_entry all name e l n = listed_too all e.symbol name (and_left _ _ (and_left _ _ l)) n

pub by_listed : (all : List (List ℕ)) (name : List ℕ) (a b : Bool) → (is_listed all name ≡ true → a ≡ (true && b)) → (is_listed all name ≡ false → a ≡ false)
    → a ≡ (is_listed all name && b)
by_listed all name a b f g = by (is_listed all name) refl
  where
    by : (l : Bool) → is_listed all name ≡ l → a ≡ (l && b)
    by true e = f e
    by false e = g e

pub symbol_rank : (all : List (List ℕ)) → ascends bytes_lt all ≡ true → (name : List ℕ) → is_listed all name ≡ true → (e : Entry) → is_listed_entry all e ≡ true
    → bytes_eq e.symbol name ≡ nat_eq (rank_of all e.symbol) (rank_of all name)
symbol_rank all h name n e l = sym (equal_ranks all h e.symbol name (and_left _ _ (and_left _ _ l)) n)

none_defined : (d i q r : Bool) → ((d && (i && false)) && q && r) ≡ false
none_defined true true q r = refl
none_defined true false q r = refl
none_defined false i q r = refl

none_shown : (i q r : Bool) → ((i && false) && q && r) ≡ false
none_shown true q r = refl
none_shown false q r = refl

text_parts : (dx ix nx dy iy ny d : Bool) → ((dx && (ix && nx)) && (dy && (iy && ny)) && d)
    ≡ (true && (((dx && ix) && true) && (((dy && iy) && true) && ((nx && ny) && (false || false || d)))))
text_parts false ix nx dy iy ny d = refl
text_parts true false nx dy iy ny d = refl
text_parts true true true false iy ny d = refl
text_parts true true true true false ny d = refl
text_parts true true true true true true d = refl
text_parts true true true true true false d = refl
text_parts true true false false iy ny d = refl
text_parts true true false true false ny d = refl
text_parts true true false true true ny d = refl

last_false : (a : Bool) → (a && false) ≡ false
last_false true = refl
last_false false = refl

no_text : (a b r : Bool) → (a && false) ≡ (true && ((b && false) && r))
no_text a b r = last_false a ∙ sym (ap (λ z. z && r) (last_false b))

no_second_text : (a b c r : Bool) → (a && false) ≡ (true && (b && ((c && false) && r)))
no_second_text a b c r = last_false a ∙ sym (ap (λ z. b && (z && r)) (last_false c) ∙ last_false b)

pub definitions_claim : (all : List (List ℕ)) → ascends bytes_lt all ≡ true → (name : List ℕ) → Claims all name (clash name) is_definition definition
definitions_claim all h name x y lx ly = by_listed all name _ _
    (λ n. rw (symbol_rank all h name n x lx, symbol_rank all h name n y ly)
    (twice_parts x.defined (not (nat_eq x.linkage 1)) _ y.defined (not (nat_eq y.linkage 1)) _ (nat_eq x.linkage 0) (nat_eq y.linkage 0)))
    (λ n. rw (unlisted_entry all name x lx n) (none_defined x.defined (not (nat_eq x.linkage 1)) _ _))

pub types_claim : (all : List (List ℕ)) → ascends bytes_lt all ≡ true → (name : List ℕ) → Claims all name (types_differ name) is_seen said_type
types_claim all h name x y lx ly = by_listed all name _ _
    (λ n. rw (
      symbol_rank all h name n x lx,
      symbol_rank all h name n y ly,
      ← equal_ranks all h x.ty y.ty
          (and_right (is_listed all x.symbol) _ (and_left _ _ lx)) (and_right (is_listed all y.symbol) _ (and_left _ _ ly)),
    )
    (type_parts (not (nat_eq x.linkage 1)) _ (not (nat_eq y.linkage 1)) _ _))
    (λ n. rw (unlisted_entry all name x lx n) (none_shown (not (nat_eq x.linkage 1)) _ _))

pub texts_claim : (all : List (List ℕ)) → ascends bytes_lt all ≡ true → (name : List ℕ) → Claims all name (texts_differ name) is_inline said_text
texts_claim all h name x y lx ly = by_listed all name _ _
    (λ n. rw (symbol_rank all h name n x lx, symbol_rank all h name n y ly)
    (by x.text y.text (and_right (is_listed all x.symbol && is_listed all x.ty) _ lx) (and_right (is_listed all y.symbol && is_listed all y.ty) _ ly)))
    (λ n. rw (unlisted_entry all name x lx n) (none_defined x.defined (not (nat_eq x.linkage 1)) _ _))
  where
    by : (tx ty : Option (List ℕ)) → option_map_or (is_listed all) tx true ≡ true → option_map_or (is_listed all) ty true ≡ true
        → ((x.defined && (not (nat_eq x.linkage 1) && nat_eq (rank_of all x.symbol) (rank_of all name)))
        && (y.defined && (not (nat_eq y.linkage 1) && nat_eq (rank_of all y.symbol) (rank_of all name))) && is_other_text tx ty)
        ≡ (true && (((x.defined && not (nat_eq x.linkage 1)) && is_some (option_map (rank_of all) tx)) &&
        (((y.defined && not (nat_eq y.linkage 1)) && is_some (option_map (rank_of all) ty))
        && ((nat_eq (rank_of all x.symbol) (rank_of all name) && nat_eq (rank_of all y.symbol) (rank_of all name))
        && (false || false || not (nat_eq (unwrap_or (option_map (rank_of all) tx) 0) (unwrap_or (option_map (rank_of all) ty) 0)))))))
    by None ty a b = no_text _ (x.defined && not (nat_eq x.linkage 1)) _
    by (Some tx) None a b = no_second_text _ _ (y.defined && not (nat_eq y.linkage 1)) _
    by (Some tx) (Some ty) a b = rw (← equal_ranks all h tx ty a b) (text_parts x.defined (not (nat_eq x.linkage 1)) _ y.defined (not (nat_eq y.linkage 1)) _ _)

pub claims_by_rank : (all : List (List ℕ)) (t : List ℕ → Entry → Entry → Bool) (p : RankedEntry → Bool) (f : RankedEntry → Claim)
    → ((name : List ℕ) → Claims all name (t name) p f)
    → (es : List Entry) → list_all (is_listed_entry all) es ≡ true → IsByRank all (λ name. any_two (t name) es) (is_disputed (claims_of all p f es))
claims_by_rank all t p f h es l = record { same = λ name. all_entries all name (t name) p f (h name) es l }
