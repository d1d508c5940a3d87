-- The items that are still to be written, of which the code has the next one last.
use Rattle.std.proofs.Common.{◌≡◌, ◌∙◌, ℕ, suc, ◌+◌, ◌-◌, ◌<◌, ◌≤◌, Bool, true, false, cond, List, [], ◌∷◌, ◌++◌, length, get_or, take, drop, sym, ap, refl, arith}
use Rattle.std.specs.Prelude.{reverse}
use Rattle.std.proofs.lemmas.List.{reverse-append, length-reverse, take-append-drop, take_at, drop_at, take_more, length-drop, drop-append-le}
use Rattle.unwind_lower.specs.declared.items.Item.{Item}
use Rattle.unwind_lower.specs.Conditions.{is_end, up_to_end, with_behind}

pub reverse_push : {A : Type 0} (xs : List A) (x : A) → reverse (xs ++ x ∷ []) ≡ x ∷ reverse xs
reverse_push xs x = reverse-append xs (x ∷ [])

-- ---- up to the end of the full-expression

up_to_by : (item : Item) (rest : List Item) (b : Bool) → is_end item ≡ b → length (up_to_end (item ∷ rest)) ≡ cond b 1 (suc (length (up_to_end rest)))
unfolding up_to_end
up_to_by item rest true e = rw e refl
up_to_by item rest false e = rw e refl

last_first : (items : List Item) (k : ℕ) (d : Item) → k < length items → reverse (take (k + 1) items) ≡ get_or items k d ∷ reverse (take k items)
last_first items k d h = ap reverse (take_more items k d h) ∙ reverse_push (take k items) (get_or items k d)

-- what is found at the last of the items that are left
pub end_found : (items : List Item) (k : ℕ) (d : Item) → k < length items → is_end (get_or items k d) ≡ true
    → length (up_to_end (reverse (take (k + 1) items))) ≡ 1
end_found items k d h e = ap (λ z. length (up_to_end z)) (last_first items k d h) ∙ up_to_by (get_or items k d) (reverse (take k items)) true e

pub end_below : (items : List Item) (k : ℕ) (d : Item) → k < length items → is_end (get_or items k d) ≡ false
    → length (up_to_end (reverse (take (k + 1) items))) ≡ suc (length (up_to_end (reverse (take k items))))
end_below items k d h e = ap (λ z. length (up_to_end z)) (last_first items k d h) ∙ up_to_by (get_or items k d) (reverse (take k items)) false e

-- the items up to the end are the first ones
up_to_take : (items : List Item) → up_to_end items ≡ take (length (up_to_end items)) items
unfolding up_to_end
up_to_take [] = refl
up_to_take (item ∷ items) = elim (is_end item) as (λ b. cond b (item ∷ []) (item ∷ up_to_end items)
    ≡ take (length (cond b (item ∷ []) (item ∷ up_to_end items))) (item ∷ items)) [
      | true ↦ refl
      | false ↦ ap (λ (z : List Item). item ∷ z) (up_to_take items)
    ]

behind_take : (new : Item) (items : List Item) → with_behind new items
    ≡ take (length (up_to_end items)) items ++ new ∷ drop (length (up_to_end items)) items
unfolding up_to_end with_behind
behind_take new [] = refl
behind_take new (item ∷ items) = elim (is_end item) as (λ b. cond b (item ∷ new ∷ items) (item ∷ with_behind new items)
    ≡ take (length (cond b (item ∷ []) (item ∷ up_to_end items))) (item ∷ items)
    ++ new ∷ drop (length (cond b (item ∷ []) (item ∷ up_to_end items))) (item ∷ items)) [
      | true ↦ refl
      | false ↦ ap (λ (z : List Item). item ∷ z) (behind_take new items)
    ]

-- ---- the same in the order of the code

split_reverse : (items : List Item) (k : ℕ) → reverse items ≡ reverse (drop k items) ++ reverse (take k items)
split_reverse items k = ap reverse (sym (take-append-drop k items)) ∙ reverse-append (take k items) (drop k items)

long_enough : (items : List Item) (rest : ℕ) → rest ≤ length items → length (reverse (drop (length items - rest) items)) ≡ rest
long_enough items rest h = length-reverse (drop (length items - rest) items) ∙ omega (arith, length-drop (length items - rest) items)

pub take_reverse : (items : List Item) (rest : ℕ) → rest ≤ length items → take rest (reverse items) ≡ reverse (drop (length items - rest) items)
take_reverse items rest h = ap (take rest) (split_reverse items (length items - rest))
    ∙ take_at (reverse (drop (length items - rest) items)) (reverse (take (length items - rest) items)) rest (long_enough items rest h)

pub drop_reverse : (items : List Item) (rest : ℕ) → rest ≤ length items → drop rest (reverse items) ≡ reverse (take (length items - rest) items)
drop_reverse items rest h = ap (drop rest) (split_reverse items (length items - rest))
    ∙ drop_at (reverse (drop (length items - rest) items)) (reverse (take (length items - rest) items)) rest (long_enough items rest h)

-- the last items are put behind an item once more
pub repeated_work : (items after : List Item) (item : Item) (rest : ℕ) → rest ≤ length items → rest ≡ length (up_to_end (reverse items))
    → after ≡ (items ++ item ∷ []) ++ drop (length items - rest) items
    → reverse after ≡ up_to_end (reverse items) ++ item ∷ reverse items
repeated_work items after item rest h r e =
    ap reverse e ∙ (reverse-append (items ++ item ∷ []) (drop (length items - rest) items)
    ∙ (ap (λ z. z ++ reverse (items ++ item ∷ [])) (sym (take_reverse items rest h) ∙ (ap (λ k. take k (reverse items)) r ∙ sym (up_to_take (reverse items))))
    ∙ ap (λ z. up_to_end (reverse items) ++ z) (reverse_push items item)))

-- an item is put below them
pub behind_work : (items after : List Item) (item : Item) (rest : ℕ) → rest ≤ length items → rest ≡ length (up_to_end (reverse items))
    → after ≡ take (length items - rest) items ++ item ∷ drop (length items - rest) items
    → reverse after ≡ with_behind item (reverse items)
behind_work items after item rest h r e =
    let k = length items - rest in
    let front : take (length (up_to_end (reverse items))) (reverse items) ≡ reverse (drop k items) =
    ap (λ n. take n (reverse items)) (sym r) ∙ take_reverse items rest h in
    let back : drop (length (up_to_end (reverse items))) (reverse items) ≡ reverse (take k items) =
    ap (λ n. drop n (reverse items)) (sym r) ∙ drop_reverse items rest h in
    ap reverse e ∙ (reverse-append (take k items) (item ∷ drop k items)
    ∙ (ap (λ z. z ++ reverse (take k items)) (reverse_cons item (drop k items))
    ∙ (append_one (reverse (drop k items)) item (reverse (take k items))
    ∙ (ap (λ z. z ++ item ∷ reverse (take k items)) (sym front)
    ∙ (ap (λ z. take (length (up_to_end (reverse items))) (reverse items) ++ item ∷ z) (sym back) ∙ sym (behind_take item (reverse items)))))))
  where
    reverse_cons : (x : Item) (xs : List Item) → reverse (x ∷ xs) ≡ reverse xs ++ x ∷ []
    reverse_cons x xs = reverse-append (x ∷ []) xs

    append_one : (xs : List Item) (x : Item) (ys : List Item) → (xs ++ x ∷ []) ++ ys ≡ xs ++ x ∷ ys
    append_one [] x ys = refl
    append_one (y ∷ xs) x ys = ap (λ (z : List Item). y ∷ z) (append_one xs x ys)

-- the slice that is copied
pub copied_slice : (items : List Item) (item : Item) (rest : ℕ) → rest ≤ length items
    → take (length items - (length items - rest)) (drop (length items - rest) (items ++ item ∷ [])) ≡ drop (length items - rest) items
copied_slice items item rest h =
    let k = length items - rest in
    ap (take (length items - k)) (drop-append-le k items (item ∷ []) (omega arith))
    ∙ take_at (drop k items) (item ∷ []) (length items - k) (length-drop k items)
