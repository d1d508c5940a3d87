-- Lists with one item more.
use Rattle.std.proofs.Common.{◌≡◌, ℕ, ◌+◌, ◌-◌, ◌^◌, suc, Bool, true, List, [], ◌∷◌, ◌++◌, length, map, Option, Some, None, refl, sym, ap, subst, ◌∙◌, arith}
use Rattle.std.proofs.Common.{append-nil, length-append}
use Rattle.std.specs.Prelude.{nat_lt}
use Rattle.std.specs.List.{list_all, flat_map}
use Rattle.std.specs.Option.{option_map}
use Rattle.std.proofs.lemmas.Bool.{and_parts, and_from, ltb-true, lt-ltb, eqb-true}
use Rattle.std.proofs.lemmas.List.{map-append, nil_from_length}
use Rattle.std.proofs.lemmas.List.Concat.{flat_map-append}
use Rattle.std.proofs.lemmas.List.Folds.{list_all-append}
use Rattle.tx_code.specs.WellFormed.{is_count, ascends, ascends_from, ascends_by}
use Rattle.object_bytes.specs.Fields.{above}
use Rattle.code_asm.specs.Steps.{has_room, is_nil, last_of}

pub nil_is : {A : Type 0} (xs : List A) → is_nil xs ≡ true → xs ≡ []
nil_is xs h = nil_from_length xs (eqb-true _ _ h)

pub all_more : {A : Type 0} (p : A → Bool) (xs : List A) (x : A) → list_all p xs ≡ true → p x ≡ true → list_all p (xs ++ x ∷ []) ≡ true
all_more p xs x h k = list_all-append p xs (x ∷ []) ∙ and_from _ _ h (and_from _ _ k refl)

pub flat_more : {A B : Type 0} (f : A → List B) (xs : List A) (x : A) → flat_map f (xs ++ x ∷ []) ≡ flat_map f xs ++ f x
flat_more f xs x = flat_map-append f xs (x ∷ []) ∙ ap (λ ys. flat_map f xs ++ ys) (append-nil (f x))

pub all_flat_more : {A B : Type 0} (p : B → Bool) (f : A → List B) (xs : List A) (x : A) → list_all p (flat_map f xs) ≡ true → list_all p (f x) ≡ true
    → list_all p (flat_map f (xs ++ x ∷ [])) ≡ true
all_flat_more p f xs x h k = ap (list_all p) (flat_more f xs x) ∙ list_all-append p (flat_map f xs) (f x) ∙ and_from _ _ h k

pub map_more : {A B : Type 0} (f : A → B) (xs : List A) (x : A) → map f (xs ++ x ∷ []) ≡ map f xs ++ f x ∷ []
map_more f xs x = map-append f xs (x ∷ [])

pub count_more : {A : Type 0} (xs : List A) (x : A) → has_room xs ≡ true → is_count (xs ++ x ∷ []) ≡ true
count_more xs x h =
    let lt = ltb-true (length xs + 1) (2 ^ 32) h in
    lt-ltb (length (xs ++ x ∷ [])) (2 ^ 32) (omega (arith, length-append xs (x ∷ [])))

-- ---- order

unfoldable pub last_from : {A : Type 0} → A → List A → A
last_from x [] = x
last_from x (y ∷ ys) = last_from y ys

pub last_is : {A : Type 0} (x : A) (xs : List A) → last_of (x ∷ xs) ≡ Some (last_from x xs)
unfolding last_from
last_is x [] = refl
last_is x (y ∷ ys) =
    let k : suc (suc (length ys)) - 1 ≡ suc (suc (length ys) - 1) = omega arith in
    rw k (last_is y ys)

from_more : {A : Type 0} (below : A → A → Bool) (a : A) (xs : List A) (x : A) → ascends_from below a xs ≡ true → below (last_from a xs) x ≡ true
    → ascends_from below a (xs ++ x ∷ []) ≡ true
unfolding last_from
from_more below a [] x h k = and_from _ _ k refl
from_more below a (y ∷ ys) x h k =
    let p = and_parts (below a y) (ascends_from below y ys) h in
    and_from _ _ p.0 (from_more below y ys x p.1 k)

pub ascends_more : {A : Type 0} (below : A → A → Bool) (xs : List A) (x : A) → ascends below xs ≡ true → above below (last_of xs) x ≡ true
    → ascends below (xs ++ x ∷ []) ≡ true
ascends_more below [] x h k = refl
ascends_more below (a ∷ xs) x h k = from_more below a xs x h (subst (λ o. above below o x ≡ true) (last_is a xs) k)

pub above_key : {A : Type 0} (key : A → ℕ) (o : Option A) (x : A) → above nat_lt (option_map key o) (key x) ≡ above (λ a b. nat_lt (key a) (key b)) o x
above_key key None x = refl
above_key key (Some a) x = refl

pub ascends_key : {A : Type 0} (key : A → ℕ) (xs : List A) (x : A) → ascends_by key xs ≡ true → above nat_lt (option_map key (last_of xs)) (key x) ≡ true
    → ascends_by key (xs ++ x ∷ []) ≡ true
ascends_key key xs x h k = ascends_more (λ a b. nat_lt (key a) (key b)) xs x h (sym (above_key key (last_of xs) x) ∙ k)
