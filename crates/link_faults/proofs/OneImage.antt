-- Two images of the same objects are the same.
use Rattle.std.proofs.Common.{Bool, true, false, ◌≡◌, ℕ, List, [], ◌∷◌, map, refl, sym, ap, ◌∙◌, Some, ◌||◌, get_or}
use Rattle.std.specs.Str.{bytes_eq}
use Rattle.tx_code.specs.Objects.{ObjectView}
use Rattle.tx_code.specs.WellFormed.{ascends, ascends_from, bytes_lt}
use Rattle.tx_code.specs.Images.{ImageView}
use Rattle.tx_code.specs.Linked.{ImageOf, image_func, kept_funcs}
use Rattle.link_faults.specs.Ranks.{is_listed}
use Rattle.link_faults.proofs.Ascending.{same_bytes, equals_itself, head_below, tail_ascends, below_not_same, not_above, where_listed}

-- a name below all others of a list is not among them
not_among : (x : List ℕ) (xs : List (List ℕ)) → ascends_from bytes_lt x xs ≡ true → is_listed xs x ≡ false
not_among x xs h = by (is_listed xs x) refl
  where
    by : (b : Bool) → is_listed xs x ≡ b → b ≡ false
    by true e = let w = where_listed xs x e in absurd (below_not_same x (get_or xs w.0 []) (head_below x xs w.0 h w.1.within) (sym w.1.is))
    by false e = refl

-- one that is among a list and not its head comes after the head
after_head : (x y : List ℕ) (ys : List (List ℕ)) → ascends_from bytes_lt y ys ≡ true → (bytes_eq x y || is_listed ys x) ≡ true → bytes_eq x y ≡ false
    → bytes_lt y x ≡ true
after_head x y ys h e n = let l : is_listed ys x ≡ true = rw n at e in let w = where_listed ys x l in rw (← w.1.is) (head_below y ys w.0 h w.1.within)

first_listed : (x : List ℕ) (xs : List (List ℕ)) → is_listed (x ∷ xs) x ≡ true
first_listed x xs = rw (equals_itself x) refl

same_heads : (x y : List ℕ) (xs ys : List (List ℕ)) → ascends_from bytes_lt x xs ≡ true → ascends_from bytes_lt y ys ≡ true
    → ((n : List ℕ) → is_listed (x ∷ xs) n ≡ is_listed (y ∷ ys) n) → x ≡ y
same_heads x y xs ys h g s = by (bytes_eq x y) refl (bytes_eq y x) refl
  where
    by : (b : Bool) → bytes_eq x y ≡ b → (c : Bool) → bytes_eq y x ≡ c → x ≡ y
    by true e c f = same_bytes x y e
    by false e true f = sym (same_bytes y x f)
    by false e false f =
        let below : bytes_lt y x ≡ true = after_head x y ys g (sym (s x) ∙ first_listed x xs) e in
        let above : bytes_lt x y ≡ true = after_head y x xs h (s y ∙ first_listed y ys) f in
        let n : bytes_lt x y ≡ false = not_above y x below in
        cc

same_tails : (x : List ℕ) (xs ys : List (List ℕ)) → ascends_from bytes_lt x xs ≡ true → ascends_from bytes_lt x ys ≡ true
    → ((n : List ℕ) → is_listed (x ∷ xs) n ≡ is_listed (x ∷ ys) n) → (n : List ℕ) → is_listed xs n ≡ is_listed ys n
same_tails x xs ys h g s n = by (bytes_eq n x) refl (s n)
  where
    by : (b : Bool) → bytes_eq n x ≡ b → (bytes_eq n x || is_listed xs n) ≡ (bytes_eq n x || is_listed ys n) → is_listed xs n ≡ is_listed ys n
    by true e r = let same : n ≡ x = same_bytes n x e in rw same (not_among x xs h ∙ sym (not_among x ys g))
    by false e r = rw e at r

pub same_names : (xs ys : List (List ℕ)) → ascends bytes_lt xs ≡ true → ascends bytes_lt ys ≡ true → ((n : List ℕ) → is_listed xs n ≡ is_listed ys n) → xs ≡ ys
same_names [] [] h g s = refl
same_names [] (y ∷ ys) h g s = let e = s y ∙ first_listed y ys in cc
same_names (x ∷ xs) [] h g s = let e = sym (s x) ∙ first_listed x xs in cc
same_names (x ∷ xs) (y ∷ ys) h g s =
    let heads : x ≡ y = same_heads x y xs ys h g s in
    let g' : ascends_from bytes_lt x ys ≡ true = rw heads g in
    let s' : (n : List ℕ) → is_listed (x ∷ xs) n ≡ is_listed (x ∷ ys) n = λ n. rw heads (rw heads at (s n)) in
    let tails : xs ≡ ys = same_names xs ys (tail_ascends x xs h) (tail_ascends y ys g) (same_tails x xs ys h g' s') in
    cc

inside : (a b : ℕ) → Some a ≡ Some b → a ≡ b
inside a b e = cc

pub one : (os : List ObjectView) (i j : ImageView) → ImageOf os i → ImageOf os j → i ≡ j
one os i j p q =
    let types : i.types ≡ j.types = same_names i.types j.types p.types_ascend q.types_ascend (λ n. p.types n ∙ sym (q.types n)) in
    let funcs : i.funcs ≡ j.funcs = p.funcs ∙ ap (λ ts. map (image_func os ts) (kept_funcs os)) types ∙ sym q.funcs in
    let classes : i.classes ≡ j.classes = p.classes ∙ sym q.classes in
    let globals : i.globals ≡ j.globals = p.globals ∙ sym q.globals in
    let size : i.size ≡ j.size = p.size ∙ sym q.size in
    let main : i.main ≡ j.main = inside i.main j.main (sym p.main ∙ q.main) in
    λ t. record { types = types t; funcs = funcs t; classes = classes t; globals = globals t; size = size t; main = main t }
