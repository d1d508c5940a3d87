-- Tables of kept definitions.
use Rattle.std.proofs.Common.{Bool, true, false, ◌≡◌, ◌<◌, ◌≤◌, ℕ, suc, zero, ◌+◌, List, [], ◌∷◌, ◌++◌, map, filter, take, length, refl, sym, ap, ◌∙◌, arith}
use Rattle.std.proofs.Common.{Option, Some, None, ◌&&◌, ◌||◌, nat_eq, cond, slice_get, get_or, add-one}
use Rattle.std.specs.List.{list_any}
use borrow.Author.Tests.{eqb-true}
use Rattle.std.specs.Option.{option_map}
use Rattle.link_faults.specs.declared.disputes.Claim.{Claim}
use Rattle.link_faults.specs.declared.entries.RankedEntry.{RankedEntry}
use Rattle.link_faults.specs.Faults.{first_of}
use Rattle.link_faults.specs.Claims.{is_definition, is_seen}
use Rattle.link_faults.specs.Disputes.{AreFirst, is_of, IsLeast}
use Rattle.link_faults.specs.Kept.{defines_rank, kept, ArePlaces, is_missing_rank}
use Rattle.link_faults.proofs.FirstClaims.{inside, same_least, any_of_append}

pub whole : {A : Type 0} (xs : List A) (i : ℕ) → length xs ≤ i → take i xs ≡ xs
whole [] zero l = refl
whole [] (suc i) l = refl
whole (x ∷ xs) zero l = absurd (omega arith)
whole (x ∷ xs) (suc i) l = ap (λ ys. x ∷ ys) (whole xs i (omega arith))

pub take_step : {A : Type 0} (xs : List A) (i : ℕ) (d : A) → i < length xs → take (suc i) xs ≡ take i xs ++ get_or xs i d ∷ []
take_step [] i d l = absurd (omega arith)
take_step (x ∷ xs) zero d l = refl
take_step (x ∷ xs) (suc i) d l = ap (λ ys. x ∷ ys) (take_step xs i d (omega arith))

pub first_step : (claims : List Claim) (i : ℕ) (d : Claim) (first : List (Option Claim)) → i < length claims
    → AreFirst (take i claims ++ get_or claims i d ∷ []) first → AreFirst (take (i + 1) claims) first
first_step claims i d first l h = rw (add-one, take_step claims i d l) h

pub or_nothing : (a b : Bool) → (a || (b || false)) ≡ (a || b)
or_nothing true b = refl
or_nothing false true = refl
or_nothing false false = refl

pub symbol_step : (t : RankedEntry → Bool) (entries : List RankedEntry) (i : ℕ) (d : RankedEntry) (r : Option ℕ) (b : Bool) → i < length entries
    → b ≡ t (get_or entries i d)
    → IsLeast (λ k. list_any (λ e. nat_eq e.symbol k && t e) (take i entries) || (nat_eq (get_or entries i d).symbol k && b)) r
    → IsLeast (λ k. list_any (λ e. nat_eq e.symbol k && t e) (take (i + 1) entries)) r
symbol_step t entries i d r b l e h =
    rw (add-one, take_step entries i d l)
    (same_least _ (λ k. list_any (λ e. nat_eq e.symbol k && t e) (take i entries ++ get_or entries i d ∷ []))
    (λ k. rw (any_of_append (λ e. nat_eq e.symbol k && t e) (take i entries) (get_or entries i d ∷ []), e) (sym (or_nothing _ _))) r h)

pub none_defines : (t : RankedEntry → Bool) (xs : List RankedEntry) → None ≡ option_map kept (first_of t xs) → list_any t xs ≡ false
none_defines t [] e = refl
none_defines t (x ∷ xs) e = by (t x) e (none_defines t xs)
  where
    by : (b : Bool) → None ≡ option_map kept (cond b (Some x) (first_of t xs)) → (None ≡ option_map kept (first_of t xs) → list_any t xs ≡ false)
        → (b || list_any t xs) ≡ false
    by true e f = cc
    by false e f = f e

pub some_defines : (t : RankedEntry → Bool) (xs : List RankedEntry) (c : Claim) → Some c ≡ option_map kept (first_of t xs) → list_any t xs ≡ true
some_defines t [] c e = cc
some_defines t (x ∷ xs) c e = by (t x) e (some_defines t xs c)
  where
    by : (b : Bool) → Some c ≡ option_map kept (cond b (Some x) (first_of t xs)) → (Some c ≡ option_map kept (first_of t xs) → list_any t xs ≡ true)
        → (b || list_any t xs) ≡ true
    by true e f = refl
    by false e f = f e

regroup : (a b c : Bool) → (a && (b && c)) ≡ ((a && b) && c)
regroup true b c = refl
regroup false b c = refl

first_kept : (k : ℕ) (xs : List RankedEntry) → first_of (is_of k) (map kept (filter is_definition xs)) ≡ option_map kept (first_of (defines_rank k) xs)
first_kept k [] = refl
first_kept k (x ∷ xs) = rw (regroup x.defined (is_seen x) (nat_eq x.symbol k)) (by (is_definition x) (nat_eq x.symbol k) refl (first_kept k xs))
  where
    by : (d n : Bool) → nat_eq x.symbol k ≡ n → first_of (is_of k) (map kept (filter is_definition xs)) ≡ option_map kept (first_of (defines_rank k) xs)
        → first_of (is_of k) (map kept (cond d (x ∷ filter is_definition xs) (filter is_definition xs)))
        ≡ option_map kept (cond (d && nat_eq x.symbol k) (Some x) (first_of (defines_rank k) xs))
    by false n e f = f
    by true true e f = rw e refl
    by true false e f = rw e f

pub places_of : (entries : List RankedEntry) (first : List (Option Claim)) → AreFirst (map kept (filter is_definition entries)) first → ArePlaces entries first
places_of entries first h k l = h k l ∙ ap (λ o. Some o) (first_kept k entries)

pub place_at : (entries : List RankedEntry) (first : List (Option Claim)) (k : ℕ) (o : Option Claim) → ArePlaces entries first → k < length first
    → slice_get first k ≡ Some o → o ≡ option_map kept (first_of (defines_rank k) entries)
place_at entries first k o h l e = inside _ _ (sym e ∙ h k l)

unequal : (a b : ℕ) → (a ≡ b → ⊥) → nat_eq a b ≡ false
unequal a b n = by (nat_eq a b) refl
  where
    by : (t : Bool) → nat_eq a b ≡ t → t ≡ false
    by true e = absurd (n (eqb-true a b e))
    by false e = refl

pub missing_none : (entries : List RankedEntry) (e : RankedEntry) (o : Option Claim) → e.defined ≡ false → (e.linkage ≡ 1 → ⊥) → o ≡ None
    → o ≡ option_map kept (first_of (defines_rank e.symbol) entries) → true ≡ is_missing_rank entries e
missing_none entries e o d n i h = rw (d, unequal e.linkage 1 n, none_defines (defines_rank e.symbol) entries (sym i ∙ h)) refl

pub missing_some : (entries : List RankedEntry) (e : RankedEntry) (o : Option Claim) (c : Claim) → e.defined ≡ false → (e.linkage ≡ 1 → ⊥) → o ≡ Some c
    → o ≡ option_map kept (first_of (defines_rank e.symbol) entries) → false ≡ is_missing_rank entries e
missing_some entries e o c d n i h = rw (d, unequal e.linkage 1 n, some_defines (defines_rank e.symbol) entries c (sym i ∙ h)) refl
