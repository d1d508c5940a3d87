-- Members of a class, one behind the other.
use Rattle.std.proofs.Common.{◌≡◌, ℕ, zero, suc, ◌+◌, List, [], ◌∷◌, ◌++◌, map, take, drop, refl, sym, ◌∙◌, ap, append-nil, append_assoc, Some, None, slice_get}
use Rattle.cpp_types.specs.Class.{Class, Member}
use Rattle.elab_conv.specs.cpp_layout.Layout.{Extent, extent_of, class_extent, member_extent, head_items, end_from, next_multiple}
use Rattle.elab_conv.specs.cpp_layout.Measured.{member_extents}
use Rattle.elab_conv.proofs.cpp_layout.Ends.{end_append}
use Rattle.elab_conv.specs.elab_rules.Objects.{members_from, base_part, parts_of, parts_in}
use Rattle.elab_init.specs.Parts.{placed}

take_more : {A : Type 0} (xs : List A) (i : ℕ) (x : A) (rest : List A) → drop i xs ≡ x ∷ rest → take (suc i) xs ≡ take i xs ++ x ∷ []
take_more [] zero x rest h = absurd cc
take_more [] (suc i) x rest h = absurd cc
take_more (y ∷ ys) zero x rest h = let e : y ≡ x = cc in ap (λ z. z ∷ []) e
take_more (y ∷ ys) (suc i) x rest h = ap (λ zs. y ∷ zs) (take_more ys i x rest h)

drop_more : {A : Type 0} (xs : List A) (i : ℕ) (x : A) (rest : List A) → drop i xs ≡ x ∷ rest → drop (suc i) xs ≡ rest
drop_more [] zero x rest h = absurd cc
drop_more [] (suc i) x rest h = absurd cc
drop_more (y ∷ ys) zero x rest h = cc
drop_more (y ∷ ys) (suc i) x rest h = drop_more ys i x rest h

map_append : {A B : Type 0} (f : A → B) (xs ys : List A) → map f (xs ++ ys) ≡ map f xs ++ map f ys
map_append f [] ys = refl
map_append f (x ∷ xs) ys = ap (λ zs. f x ∷ zs) (map_append f xs ys)

-- where the member of this index begins to be placed
abbrev begin_at : List Class → ℕ → Class → ℕ → ℕ
begin_at classes n c i = end_from 0 (head_items (class_extent classes) classes n c ++ member_extents classes (take i c.members))

begin_next : (classes : List Class) (n : ℕ) (c : Class) (i : ℕ) (m : Member) (ms : List Member) → drop i c.members ≡ m ∷ ms
    → begin_at classes n c (suc i) ≡ next_multiple (begin_at classes n c i) (extent_of classes m.typ).align + (extent_of classes m.typ).size
begin_next classes n c i m ms h =
    let head : List Extent = head_items (class_extent classes) classes n c in
    let more : member_extents classes (take (suc i) c.members) ≡ member_extents classes (take i c.members) ++ member_extent (class_extent classes) m ∷ [] =
    ap (member_extents classes) (take_more c.members i m ms h) ∙ map_append (member_extent (class_extent classes)) (take i c.members) (m ∷ []) in
    ap (λ z. end_from 0 (head ++ z)) more ∙ ap (end_from 0)
    (sym (append_assoc head (member_extents classes (take i c.members)) (member_extent (class_extent classes) m ∷ [])))
    ∙ end_append 0 (head ++ member_extents classes (take i c.members)) (member_extent (class_extent classes) m ∷ [])

placed_at : (classes : List Class) (n : ℕ) (c : Class) (i : ℕ) (ms : List Member) → drop i c.members ≡ ms
    → members_from classes n c i ms ≡ placed classes (begin_at classes n c i) ms
placed_at classes n c i [] h = refl
placed_at classes n c i (m ∷ ms) h =
    let others : members_from classes n c (suc i) ms ≡ placed classes (begin_at classes n c (suc i)) ms =
    placed_at classes n c (suc i) ms (drop_more c.members i m ms h) in
    ap (λ zs. record { offset = next_multiple (begin_at classes n c i) (extent_of classes m.typ).align; typ = m.typ } ∷ zs)
    (others ∙ ap (λ z. placed classes z ms) (begin_next classes n c i m ms h))

pub parts_placed : (classes : List Class) (n : ℕ) (c : Class) → slice_get classes n ≡ Some c
    → parts_of classes n ≡ base_part c.base ++ placed classes (end_from 0 (head_items (class_extent classes) classes n c)) c.members
parts_placed classes n c h =
    let start : begin_at classes n c 0 ≡ end_from 0 (head_items (class_extent classes) classes n c) =
    ap (end_from 0) (append-nil (head_items (class_extent classes) classes n c)) in
    ap (parts_in classes n) h ∙ ap (λ zs. base_part c.base ++ zs) (placed_at classes n c 0 c.members refl ∙ ap (λ z. placed classes z c.members) start)

pub no_parts : (classes : List Class) (n : ℕ) → slice_get classes n ≡ None → parts_of classes n ≡ []
no_parts classes n h = ap (parts_in classes n) h
