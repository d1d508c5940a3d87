-- Lists that ascend, item by item, and by keys.
use Rattle.std.proofs.Common.{◌≡◌, refl, ap, Bool, true, ◌&&◌, nat_lt, map, ℕ, List, [], ◌∷◌, Option, Some, None}
use Rattle.tx_code.specs.WellFormed.{ascends, ascends_from, ascends_by}
use Rattle.object_check.specs.Order.{follows, ascends_behind}

pub behind_more : {A : Type 0} (below : A → A → Bool) (o : Option A) (x : A) (xs : List A)
    → ascends_behind below o (x ∷ xs) ≡ (follows below o x && ascends_behind below (Some x) xs)
behind_more below None x xs = refl
behind_more below (Some b) x xs = refl

pub behind_none : {A : Type 0} (below : A → A → Bool) (o : Option A) → ascends_behind below o [] ≡ true
behind_none below None = refl
behind_none below (Some b) = refl

-- the items, shown as records with keys, ascend by these where the keys ascend
keyed_from : {A B : Type 0} (view : A → B) (key : B → ℕ) (a : A) (xs : List A)
    → ascends_from (λ a b. nat_lt (key a) (key b)) (view a) (map view xs) ≡ ascends_from nat_lt (key (view a)) (map (λ x. key (view x)) xs)
keyed_from view key a [] = refl
keyed_from view key a (x ∷ xs) = ap (λ b. nat_lt (key (view a)) (key (view x)) && b) (keyed_from view key x xs)

pub keyed : {A B : Type 0} (view : A → B) (key : B → ℕ) (xs : List A) → ascends_by key (map view xs) ≡ ascends nat_lt (map (λ x. key (view x)) xs)
keyed view key [] = refl
keyed view key (x ∷ xs) = keyed_from view key x xs
