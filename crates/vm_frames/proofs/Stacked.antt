-- Stacks as lists with the top last.
use Rattle.std.proofs.Common.{◌≡◌, ◌<◌, ◌≤◌, ℕ, zero, suc, ◌+◌, ◌-◌, List, [], ◌∷◌, ◌++◌, length, take, drop, reverse, refl, sym, ap, ◌∙◌, arith, length-drop}
use Rattle.std.proofs.Common.{get_or}
use Rattle.std.proofs.lemmas.List.{reverse-append, length-reverse, take-append-le, take-append-drop, length-take-le, get_or-take, take_all, drop_all}
use Rattle.std.proofs.Math.Seq.{take-length, take-suc, take-append_seam}
use Rattle.std.specs.Prelude.{false}
use Rattle.vm_frames.specs.Stacks.{above, has_two}

drop_pushed : {A : Type 0} (n : ℕ) (xs : List A) (x : A) → n ≤ length xs → drop n (xs ++ x ∷ []) ≡ drop n xs ++ x ∷ []
drop_pushed zero xs x h = refl
drop_pushed (suc n) [] x h = absurd (omega arith)
drop_pushed (suc n) (y ∷ xs) x h = drop_pushed n xs x (omega arith)

pub above_pushed : {A : Type 0} (n : ℕ) (xs : List A) (x : A) → n ≤ length xs → above n (xs ++ x ∷ []) ≡ x ∷ above n xs
unfolding above
above_pushed n xs x h = ap reverse (drop_pushed n xs x h) ∙ reverse-append (drop n xs) (x ∷ [])

pub take_pushed : {A : Type 0} (n : ℕ) (xs : List A) (x : A) → n ≤ length xs → take n (xs ++ x ∷ []) ≡ take n xs
take_pushed n xs x h = take-append-le n xs (x ∷ []) h

pub above_length : {A : Type 0} (n : ℕ) (xs : List A) → length (above n xs) ≡ length xs - n
unfolding above
above_length n xs = length-reverse (drop n xs) ∙ length-drop n xs

the_nil : (A : Type 0) → List A
the_nil A = []

take_nil : {A : Type 0} (k : ℕ) → take k (the_nil A) ≡ the_nil A
unfolding the_nil
take_nil zero = refl
take_nil (suc k) = refl

drop_of_take : {A : Type 0} (n m : ℕ) (xs : List A) → drop n (take m xs) ≡ take (m - n) (drop n xs)
unfolding the_nil
drop_of_take zero m xs = let e : m ≡ m - 0 = omega arith in ap (λ z. take z xs) e
drop_of_take (suc n) zero xs = let e : 0 ≡ 0 - suc n = omega arith in ap (λ z. take z (drop (suc n) xs)) e
drop_of_take (suc n) (suc m) [] = sym (take_nil (suc m - suc n))
drop_of_take (suc n) (suc m) (x ∷ xs) = let e : m - n ≡ suc m - suc n = omega arith in drop_of_take n m xs ∙ ap (λ z. take z (drop n xs)) e

-- the first ones of a list, seen from its end
drop_reversed : {A : Type 0} (k : ℕ) (ys : List A) → k ≤ length ys → drop (length ys - k) (reverse ys) ≡ reverse (take k ys)
drop_reversed k ys h =
    let e : reverse ys ≡ reverse (drop k ys) ++ reverse (take k ys) = ap reverse (sym (take-append-drop k ys)) ∙ reverse-append (take k ys) (drop k ys) in
    let l : length (reverse (drop k ys)) ≡ length ys - k = length-reverse (drop k ys) ∙ length-drop k ys in
    ap (drop (length ys - k)) e ∙ ap (λ z. drop z (reverse (drop k ys) ++ reverse (take k ys))) (sym l)
    ∙ dropped (reverse (drop k ys)) (reverse (take k ys)) where
      dropped : {A : Type 0} (us vs : List A) → drop (length us) (us ++ vs) ≡ vs
      dropped [] vs = refl
      dropped (u ∷ us) vs = dropped us vs

-- the top ones taken off
pub above_cut : {A : Type 0} (n m : ℕ) (xs : List A) → n ≤ m → m ≤ length xs → above n (take m xs) ≡ drop (length xs - m) (above n xs)
unfolding above
above_cut n m xs h k =
    let l : length (drop n xs) ≡ length xs - n = length-drop n xs in
    let e : length (drop n xs) - (m - n) ≡ length xs - m = omega arith in
    ap reverse (drop_of_take n m xs) ∙ sym (drop_reversed (m - n) (drop n xs) (omega arith)) ∙ ap (λ z. drop z (reverse (drop n xs))) e

-- so many taken off, or all
pub taken_off : {A : Type 0} (n count m : ℕ) (xs : List A) → m + count ≡ length xs → n ≤ m → above n (take m xs) ≡ drop count (above n xs)
taken_off n count m xs h k = let e : length xs - m ≡ count = omega arith in above_cut n m xs k (omega arith) ∙ ap (λ z. drop z (above n xs)) e

pub all_off : {A : Type 0} (n count : ℕ) (xs : List A) → n ≤ length xs → length xs - n ≤ count → above n (take n xs) ≡ drop count (above n xs)
all_off n count xs h k = above_cut n n xs (omega arith) h ∙ drop_all (length xs - n) (above n xs) (omega (arith, above_length n xs))
    ∙ sym (drop_all count (above n xs) (omega (arith, above_length n xs)))

take_twice : {A : Type 0} (n m : ℕ) (xs : List A) → n ≤ m → take n (take m xs) ≡ take n xs
take_twice zero m xs h = refl
take_twice (suc n) zero xs h = absurd (omega arith)
take_twice (suc n) (suc m) [] h = refl
take_twice (suc n) (suc m) (x ∷ xs) h = ap (λ z. x ∷ z) (take_twice n m xs (omega arith))

pub take_cut : {A : Type 0} (n m : ℕ) (xs : List A) → n ≤ m → take n (take m xs) ≡ take n xs
take_cut n m xs h = take_twice n m xs h

pub above_none : {A : Type 0} (n : ℕ) (xs : List A) → length xs ≤ n → above n xs ≡ []
unfolding above
above_none n xs h = ap reverse (drop_all n xs h)

pub split_last : {A : Type 0} (xs : List A) (d : A) → 0 < length xs → xs ≡ take (length xs - 1) xs ++ get_or xs (length xs - 1) d ∷ []
split_last xs d h =
    let e : suc (length xs - 1) ≡ length xs = omega arith in
    sym (take-length xs) ∙ ap (λ z. take z xs) (sym e) ∙ take-suc xs (length xs - 1) d (omega arith)

-- the top item
pub top_is : {A : Type 0} (n : ℕ) (xs : List A) (x : A) → n < length xs → x ≡ get_or xs (length xs - 1) x → above n xs ≡ x ∷ drop 1 (above n xs)
top_is {A} n xs x h e =
    let front : List A = take (length xs - 1) xs in
    let whole : xs ≡ front ++ x ∷ [] = split_last xs x (omega arith) ∙ ap (λ z. front ++ z ∷ []) (sym e) in
    let k : length front ≡ length xs - 1 = length-take-le (length xs - 1) xs (omega arith) in
    let a : above n xs ≡ x ∷ above n front = ap (above n) whole ∙ above_pushed n front x (omega arith) in
    a ∙ ap (λ z. x ∷ drop 1 z) (sym a)

-- ---- a frame that begins with the last ones, turned round

pub front_kept : {A : Type 0} (n m : ℕ) (xs ys : List A) → m ≤ length xs → n ≤ m → take n (take m (take m xs ++ ys)) ≡ take n xs
front_kept n m xs ys h k = ap (take n) (take-append-le m (take m xs) ys (omega (arith, length-take-le m xs h)) ∙ take_all m (take m xs)
    (omega (arith, length-take-le m xs h))) ∙ take_twice n m xs k

pub front_cut : {A : Type 0} (m : ℕ) (xs ys : List A) → m ≤ length xs → take m (take m xs ++ ys) ≡ take m xs
front_cut m xs ys h = let l : length (take m xs) ≡ m = length-take-le m xs h in take-append-le m (take m xs) ys (omega arith)
    ∙ take_all m (take m xs) (omega arith)

drop_seam : {A : Type 0} (us vs : List A) → drop (length us) (us ++ vs) ≡ vs
drop_seam [] vs = refl
drop_seam (u ∷ us) vs = drop_seam us vs

drop_nil : {A : Type 0} (k : ℕ) → drop k (the_nil A) ≡ the_nil A
unfolding the_nil
drop_nil zero = refl
drop_nil (suc k) = refl

drop_twice : {A : Type 0} (n m : ℕ) (xs : List A) → n ≤ m → drop (m - n) (drop n xs) ≡ drop m xs
unfolding the_nil
drop_twice zero m xs h = let e : m - 0 ≡ m = omega arith in ap (λ z. drop z xs) e
drop_twice (suc n) zero xs h = absurd (omega arith)
drop_twice (suc n) (suc m) [] h = drop_nil (suc m - suc n)
drop_twice (suc n) (suc m) (x ∷ xs) h = let e : suc m - suc n ≡ m - n = omega arith in ap (λ z. drop z (drop n xs)) e ∙ drop_twice n m xs (omega arith)

take_reversed : {A : Type 0} (k : ℕ) (ys : List A) → k ≤ length ys → take (length ys - k) (reverse ys) ≡ reverse (drop k ys)
take_reversed k ys h =
    let e : reverse ys ≡ reverse (drop k ys) ++ reverse (take k ys) = ap reverse (sym (take-append-drop k ys)) ∙ reverse-append (take k ys) (drop k ys) in
    let l : length (reverse (drop k ys)) ≡ length ys - k = length-reverse (drop k ys) ∙ length-drop k ys in
    ap (take (length ys - k)) e ∙ ap (λ z. take z (reverse (drop k ys) ++ reverse (take k ys))) (sym l)
    ∙ take-append_seam (reverse (drop k ys)) (reverse (take k ys))

pub turned : {A : Type 0} (n count m : ℕ) (xs : List A) → n ≤ m → m + count ≡ length xs
    → above m (take m xs ++ reverse (drop m xs)) ≡ reverse (take count (above n xs))
unfolding above
turned n count m xs h e =
    let l : length (take m xs) ≡ m = length-take-le m xs (omega arith) in
    let a : drop m (take m xs ++ reverse (drop m xs)) ≡ reverse (drop m xs) = ap (λ z. drop z (take m xs ++ reverse (drop m xs))) (sym l)
    ∙ drop_seam (take m xs) (reverse (drop m xs)) in
    let k : length (drop n xs) ≡ length xs - n = length-drop n xs in
    let j : count ≡ length (drop n xs) - (m - n) = omega arith in
    let b : take count (reverse (drop n xs)) ≡ reverse (drop m xs) = ap (λ z. take z (reverse (drop n xs))) j ∙ take_reversed (m - n) (drop n xs) (omega arith)
    ∙ ap reverse (drop_twice n m xs h) in
    ap reverse (a ∙ sym b)

-- the two top items
pub top_two_are : {A : Type 0} (n : ℕ) (xs : List A) (x y : A) → n + 2 ≤ length xs → x ≡ get_or xs (length xs - 1) x → y ≡ get_or xs (length xs - 2) y
    → above n xs ≡ x ∷ y ∷ drop 2 (above n xs)
top_two_are {A} n xs x y h e f =
    let front : List A = take (length xs - 1) xs in
    let whole : xs ≡ front ++ x ∷ [] = split_last xs x (omega arith) ∙ ap (λ z. front ++ z ∷ []) (sym e) in
    let k : length front ≡ length xs - 1 = length-take-le (length xs - 1) xs (omega arith) in
    let j : length front - 1 ≡ length xs - 2 = omega arith in
    let a : above n xs ≡ x ∷ above n front = ap (above n) whole ∙ above_pushed n front x (omega arith) in
    let l : y ≡ get_or front (length front - 1) y = f ∙ sym (get_or-take (length xs - 1) xs (length xs - 2) y (omega arith))
    ∙ ap (λ z. get_or front z y) (sym j) in
    let b : above n front ≡ y ∷ drop 1 (above n front) = top_is n front y (omega arith) l in
    let w : above n xs ≡ x ∷ y ∷ drop 1 (above n front) = a ∙ ap (λ z. x ∷ z) b in
    w ∙ ap (λ z. x ∷ y ∷ drop 2 z) (sym w)

pub no_two : {A : Type 0} (xs : List A) → length xs < 2 → has_two xs ≡ false
no_two [] h = refl
no_two (x ∷ []) h = refl
no_two (x ∷ y ∷ xs) h = absurd (omega arith)

-- the item below the first so many comes to the top
pub one_more_turned : {A : Type 0} (n : ℕ) (xs : List A) → n < length xs → drop 1 (reverse (take (n + 1) xs)) ≡ reverse (take n xs)
one_more_turned n [] h = absurd (omega arith)
one_more_turned n (x ∷ xs) h =
    let e : n + 1 ≡ suc n = omega arith in
    ap (λ z. drop 1 (reverse (take z (x ∷ xs)))) e ∙ ap (λ z. drop 1 (reverse z)) (take-suc (x ∷ xs) n x h)
    ∙ ap (drop 1) (reverse-append (take n (x ∷ xs)) (get_or (x ∷ xs) n x ∷ []))

drop_more : {A : Type 0} (j k : ℕ) (xs : List A) → drop j (drop k xs) ≡ drop (k + j) xs
unfolding the_nil
drop_more j zero xs = let e : 0 + j ≡ j = omega arith in sym (ap (λ z. drop z xs) e)
drop_more {A} j (suc k) [] = drop_nil j ∙ sym (drop_nil (suc k + j))
drop_more j (suc k) (x ∷ xs) = let e : suc k + j ≡ suc (k + j) = omega arith in drop_more j k xs ∙ sym (ap (λ z. drop z (x ∷ xs)) e)

-- the item under the first so many
pub item_is : {A : Type 0} (n k : ℕ) (xs : List A) (x : A) → n + k < length xs → x ≡ get_or xs (length xs - 1 - k) x
    → drop k (above n xs) ≡ x ∷ drop (k + 1) (above n xs)
item_is {A} n k xs x h e =
    let front : List A = take (length xs - k) xs in
    let l : length front ≡ length xs - k = length-take-le (length xs - k) xs (omega arith) in
    let j : length front - 1 ≡ length xs - 1 - k = omega arith in
    let a : above n front ≡ drop k (above n xs) = taken_off n k (length xs - k) xs (omega arith) (omega arith) in
    let t : above n front ≡ x ∷ drop 1 (above n front) =
    top_is n front x (omega arith) (e ∙ sym (get_or-take (length xs - k) xs (length xs - 1 - k) x (omega arith)) ∙ ap (λ z. get_or front z x) (sym j)) in
    sym a ∙ t ∙ ap (λ z. x ∷ drop 1 z) a ∙ ap (λ z. x ∷ z) (drop_more 1 k (above n xs))
