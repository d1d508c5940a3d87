-- The words of a call, one by one, and types of functions.
use Rattle.std.proofs.Common.{◌≡◌, ◌∙◌, ◌<◌, ◌+◌, ◌-◌, ℕ, zero, suc, false, List, [], ◌∷◌, ◌++◌, map, drop, length, get_or, nat_lt, refl, sym, ap, arith, Vec}
use Rattle.std.proofs.Common.{Global}
use Rattle.std.proofs.lemmas.Bool.{ltb-false}
use Rattle.std.proofs.lemmas.List.{drop_more, append-nil, append_assoc, map-append}
use Rattle.std.proofs.Math.ListN.{drop_of_length-le}
use Rattle.cpp_tree.specs.cpp_types.Typ.{Typ, typ_of, typs_of, signature, signature_of}
use Rattle.cpp_tree.specs.cpp_types.declared.types.Ty.{Ty}
use Rattle.cpp_tree.specs.cpp_types.declared.types.FnTy.{FnTy, out-FnTy, roll-FnTy, out-roll-FnTy}
use Rattle.cpp_tree.proofs.cpp_types.Views.{signature_view}
use Rattle.src_mean.specs.Linked.{WordPlace}
use Rattle.src_bind.specs.declared.infos.WordAt.{WordAt}
use Rattle.src_bind.specs.Infos.{word_of}
use Rattle.src_mean.specs.Links.{word_places, word_kind, is_marked, unsafe}

nil_offsets : (n : ℕ) (items : List Typ) → word_places n [] items ≡ []
nil_offsets zero items = refl
nil_offsets (suc n) items = refl

nil_items : (n : ℕ) (offsets : List ℕ) → word_places n offsets [] ≡ []
nil_items zero offsets = refl
nil_items (suc n) [] = refl
nil_items (suc n) (o ∷ os) = refl

stop : (xs ys all : List WordPlace) → ys ≡ [] → xs ++ ys ≡ all → xs ≡ all
stop xs ys all e h = sym (append-nil xs) ∙ sym (ap (λ z. xs ++ z) e) ∙ h

pub no_offset : (xs all : List WordPlace) (n i : ℕ) (offsets : List ℕ) (items : List Typ) → false ≡ nat_lt i (length offsets)
    → xs ++ word_places n (drop i offsets) items ≡ all → xs ≡ all
no_offset xs all n i offsets items h = stop xs (word_places n (drop i offsets) items) all
    (ap (λ z. word_places n z items) (drop_of_length-le offsets (ltb-false i (length offsets) (sym h))) ∙ nil_offsets n items)

pub no_item : (xs all : List WordPlace) (n i : ℕ) (offsets : List ℕ) (items : List Ty) → false ≡ nat_lt i (length items)
    → xs ++ word_places n offsets (map typ_of (drop i items)) ≡ all → xs ≡ all
no_item xs all n i offsets items h = stop xs (word_places n offsets (map typ_of (drop i items))) all
    (ap (λ z. word_places n offsets (map typ_of z)) (drop_of_length-le items (ltb-false i (length items) (sym h))) ∙ nil_items n offsets)

-- what is left of a list begins with the element at hand
pub item_first : {A : Type 0} (xs : List A) (i : ℕ) (o : A) → i < length xs → o ≡ get_or xs i o → drop i xs ≡ o ∷ drop (i + 1) xs
item_first xs i o h e = drop_more xs i o h ∙ ap (λ z. z ∷ drop (i + 1) xs) (sym e)

places_more : (n i : ℕ) (offsets more : List ℕ) (items rest : List Ty) (o : ℕ) (t : Ty) → i < n → offsets ≡ o ∷ more → items ≡ t ∷ rest
    → word_places (n - i) offsets (map typ_of items) ≡ record { offset = o; kind = word_kind (typ_of t); volatile = is_marked (typ_of t) }
    ∷ word_places (n - (i + 1)) more (map typ_of rest)
places_more n i offsets more items rest o t h e f =
    let g : n - i ≡ suc (n - (i + 1)) = omega (arith, h) in
    ap (λ z. word_places z offsets (map typ_of items)) g ∙ ap (λ z. word_places (suc (n - (i + 1))) z (map typ_of items)) e
    ∙ ap (λ z. word_places (suc (n - (i + 1))) (o ∷ more) (map typ_of z)) f

pub one_more : (xs new : List WordAt) (all : List WordPlace) (w : WordAt) (n i : ℕ) (offsets : List ℕ) (items : List Ty) (o : ℕ) (t : Ty) → i < n
    → drop i offsets ≡ o ∷ drop (i + 1) offsets → drop i items ≡ t ∷ drop (i + 1) items
    → word_of w ≡ record { offset = o; kind = word_kind (typ_of t); volatile = is_marked (typ_of t) } → new ≡ xs ++ w ∷ []
    → map word_of xs ++ word_places (n - i) (drop i offsets) (map typ_of (drop i items)) ≡ all
    → map word_of new ++ word_places (n - (i + 1)) (drop (i + 1) offsets) (map typ_of (drop (i + 1) items)) ≡ all
one_more xs new all w n i offsets items o t h e f g k l =
    let rest : List WordPlace = word_places (n - (i + 1)) (drop (i + 1) offsets) (map typ_of (drop (i + 1) items)) in
    ap (λ z. map word_of z ++ rest) k ∙ ap (λ z. z ++ rest) (map-append word_of xs (w ∷ [])) ∙ append_assoc (map word_of xs) (word_of w ∷ []) rest
    ∙ ap (λ z. map word_of xs ++ z ∷ rest) g ∙ sym
    (ap (λ z. map word_of xs ++ z) (places_more n i (drop i offsets) (drop (i + 1) offsets) (drop i items) (drop (i + 1) items) o t h e f)) ∙ l

-- a type of functions that is made anew is of its parts
pub bared : (ps : Vec Ty Global) (t : Ty) (f : FnTy) → typs_of ps.items ≡ typs_of (out-FnTy f).params.items → typ_of t ≡ typ_of (out-FnTy f).ret
    → signature_of (roll-FnTy (record { params = ps; ret = t; safe = false })) ≡ unsafe (signature_of f)
bared ps t f e g =
    signature_view (roll-FnTy (record { params = ps; ret = t; safe = false }))
    ∙ ap (λ z. signature (typs_of z.params.items) (typ_of z.ret) z.safe) (out-roll-FnTy (record { params = ps; ret = t; safe = false }))
    ∙ ap (λ z. signature z (typ_of t) false) e ∙ ap (λ z. signature (typs_of (out-FnTy f).params.items) z false) g ∙ sym (ap unsafe (signature_view f))
