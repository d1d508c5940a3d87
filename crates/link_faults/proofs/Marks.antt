-- Marks on the names of an object.
use Rattle.std.proofs.Common.{Bool, true, false, ◌≡◌, ◌<◌, ◌≤◌, ℕ, suc, zero, ◌+◌, List, [], ◌∷◌, ◌++◌, map, take, length, refl, sym, ap, ◌∙◌, arith, Option}
use Rattle.std.proofs.Common.{Some, ◌||◌, nat_eq, if◌then◌else◌, slice_get, slice_set, get_or, length-set, add-one}
use Rattle.std.specs.List.{list_any, list_all}
use borrow.Author.Tests.{eqb-true, eqb-false}
use Rattle.link_faults.specs.Disputes.{IsLeast}
use Rattle.link_faults.specs.Unlisted.{is_symbol, AreMarks, is_unlisted, rank_below, func_symbols, global_symbols}
use Rattle.tx_code.specs.declared.object.ObjCell.{ObjCell}
use Rattle.tx_code.specs.Objects.{ObjectView}
use Rattle.tx_code.specs.Linked.{name_in}
use Rattle.link_faults.specs.Ranks.{Known}
use Rattle.link_faults.proofs.Ascending.{and_left, and_right}
use Rattle.link_faults.proofs.NameRanks.{listed_name}
use Rattle.link_faults.proofs.ListedEntries.{rank_within}
use Rattle.link_faults.proofs.FirstClaims.{get_set_same, get_set_other, any_of_append, same_least, or_assoc}
use Rattle.link_faults.proofs.KeptDefinitions.{or_nothing, take_step}

or_true : (a : Bool) → (a || (true || false)) ≡ true
or_true true = refl
or_true false = refl

or_no : (a : Bool) → (a || (false || false)) ≡ a
or_no true = refl
or_no false = refl

pub marked : (symbols : List ℕ) (marks : List Bool) (name : ℕ) → name < length marks → AreMarks symbols marks
    → AreMarks (symbols ++ name ∷ []) (slice_set marks name true)
marked symbols marks name w h n l = by (nat_eq name n) refl
  where
    by : (b : Bool) → nat_eq name n ≡ b → slice_get (slice_set marks name true) n ≡ Some (is_symbol (symbols ++ name ∷ []) n)
    by true e = get_set_same marks name n true (eqb-true name n e) w
        ∙ sym (ap (λ b. Some b) (any_of_append (λ s. nat_eq s n) symbols (name ∷ []) ∙ rw e (or_true (is_symbol symbols n))))
    by false e =
        let within : n < length marks = let m = length-set marks name true in omega arith in
        get_set_other marks name n true (eqb-false name n e) ∙ h n within
        ∙ sym (ap (λ b. Some b) (any_of_append (λ s. nat_eq s n) symbols (name ∷ []) ∙ rw e (or_no (is_symbol symbols n))))

pub any_step : {A : Type 0} (t : ℕ → A → Bool) (xs : List A) (i : ℕ) (d x : A) (p : ℕ → Bool) (r : Option ℕ) → i < length xs → get_or xs i d ≡ x
    → IsLeast (λ k. p k || list_any (t k) (take i xs) || t k x) r → IsLeast (λ k. p k || list_any (t k) (take (i + 1) xs)) r
any_step t xs i d x p r l e h =
    rw (add-one, take_step xs i d l)
    (same_least _ (λ k. p k || list_any (t k) (take i xs ++ get_or xs i d ∷ []))
    (λ k. rw (any_of_append (t k) (take i xs) (get_or xs i d ∷ []), e) (or_assoc (p k) _ _ ∙ ap (λ b. p k || b) (sym (or_nothing _ _)))) r h)

pub any_begins : {A : Type 0} (t : ℕ → A → Bool) (xs : List A) (p : ℕ → Bool) (r : Option ℕ) → IsLeast p r → IsLeast (λ k. p k || list_any (t k) (take 0 xs)) r
any_begins t xs p r h = same_least p _ (λ k. sym (no (p k))) r h
  where
    no : (b : Bool) → (b || false) ≡ b
    no true = refl
    no false = refl

pub any_map : {A B : Type 0} (f : A → B) (t : B → Bool) (xs : List A) → list_any t (map f xs) ≡ list_any (λ x. t (f x)) xs
any_map f t [] = refl
any_map f t (x ∷ xs) = ap (λ b. t (f x) || b) (any_map f t xs)

pub below_within : (all : List (List ℕ)) (o : ObjectView) (symbols : List ℕ) (name : ℕ) → Known all o → name ≤ length o.names → is_unlisted symbols name ≡ true
    → rank_below all o name < length all
below_within all o symbols zero h l e = cc
below_within all o symbols (suc name) h l e = rank_within all (name_in o name) h.ascend (listed_name all o.names name h.listed (omega arith))

pub cell_below_within : (all : List (List ℕ)) (o : ObjectView) (c : ObjCell) → Known all o → c.symbol ≤ length o.names
    → (if nat_eq c.what 2 then is_unlisted (func_symbols o) c.symbol else is_unlisted (global_symbols o) c.symbol) ≡ true
    → rank_below all o c.symbol < length all
cell_below_within all o c h l e = by (nat_eq c.what 2) e
  where
    by : (b : Bool) → (if b then is_unlisted (func_symbols o) c.symbol else is_unlisted (global_symbols o) c.symbol) ≡ true
        → rank_below all o c.symbol < length all
    by true g = below_within all o (func_symbols o) c.symbol h l g
    by false g = below_within all o (global_symbols o) c.symbol h l g

pub fits_index : {A : Type 0} (t : A → Bool) (xs : List A) (i : ℕ) (d : A) → list_all t xs ≡ true → i < length xs → t (get_or xs i d) ≡ true
fits_index t [] i d h l = absurd (omega arith)
fits_index t (x ∷ xs) zero d h l = and_left _ _ h
fits_index t (x ∷ xs) (suc i) d h l = fits_index t xs i d (and_right (t x) _ h) (omega arith)
