-- The items of a frame.
use Rattle.std.proofs.Common.{◌≡◌, ◌∙◌, ℕ, ◌<◌, ◌+◌, length, get_or, List, [], ◌∷◌, ◌++◌, map, take, drop, Some, sym, ap, arith, append_assoc}
use Rattle.std.proofs.lemmas.List.{take_more, map-append, take-append-drop, append-nil}
use Rattle.std.proofs.lemmas.Option.{slice_get-map, slice_get-get_or}
use Rattle.std.specs.Option.{option_map}
use Rattle.cpp_types.specs.declared.types.Ty.{Ty}
use Rattle.cpp_types.specs.Typ.{typ_of, shape_form}
use Rattle.cpp_types.specs.Class.{Class}
use Rattle.cpp_layout.specs.declared.frames.PlacedItem.{PlacedItem}
use Rattle.cpp_layout.specs.Layout.{Extent, extent_of, class_extent, end_from, offset_after, next_multiple, frame_size}
use Rattle.cpp_layout.specs.Measured.{HoldsComplete}
use Rattle.cpp_layout.specs.Frames.{AllComplete, IsPlaced, offsets_after, item_extents}
use Rattle.cpp_layout.proofs.Ends.{Aligned, end_low, end_append, next_low}
use Rattle.cpp_layout.proofs.Forms.{form_low}
use Rattle.cpp_layout.proofs.Nesting.{class_low}
use Rattle.cpp_layout.specs.declared.frames.TheConstants.{GREATEST_FRAME}

offsets_push : (b xs : List Extent) (e : Extent) → offsets_after b (xs ++ e ∷ []) ≡ offsets_after b xs ++ offset_after (b ++ xs) e ∷ []
offsets_push b [] e = ap (λ (z : List Extent). offset_after z e ∷ []) (sym (append-nil b))
offsets_push b (x ∷ xs) e = ap (λ (z : List ℕ). offset_after b x ∷ z)
    (offsets_push (b ++ x ∷ []) xs e ∙ ap (λ (z : List Extent). offsets_after (b ++ x ∷ []) xs ++ offset_after z e ∷ []) (append_assoc b (x ∷ []) xs))

module _ (classes : List Class) where
  abbrev pub extents_at : List Ty → List Extent
  extents_at ts = item_extents classes (map typ_of ts)

  items_aligned : (ts : List Ty) → Aligned (extents_at ts)
  items_aligned [] = tt
  items_aligned (t ∷ ts) = (form_low (class_extent classes) (class_low classes) (shape_form t.shape), items_aligned ts)

  pub one_item : (ts : List Ty) (i : ℕ) (t : Ty) → i < length ts → t ≡ get_or ts i t
      → extents_at (take (i + 1) ts) ≡ extents_at (take i ts) ++ extent_of classes (typ_of t) ∷ []
  one_item ts i t h e =
      let p : take (i + 1) ts ≡ take i ts ++ t ∷ [] = take_more ts i t h ∙ ap (λ (z : Ty). take i ts ++ z ∷ []) (sym e) in
      ap extents_at p ∙ simp map-append

  pub item_complete : (ts : List Ty) (i : ℕ) (t : Ty) → AllComplete classes (map typ_of ts) → i < length ts → t ≡ get_or ts i t
      → HoldsComplete classes (shape_form t.shape)
  item_complete ts i t a h e = a.item i (typ_of t) (slice_get-map typ_of ts i ∙ ap (option_map typ_of) (slice_get-get_or ts i t h ∙ ap Some (sym e)))

  all_items : (ts : List Ty) (i : ℕ) → extents_at ts ≡ extents_at (take i ts) ++ extents_at (drop i ts)
  all_items ts i = ap extents_at (sym (take-append-drop i ts)) ∙ simp map-append

  pub frame_over : (ts : List Ty) (i n : ℕ) (t : Ty) → i < length ts → t ≡ get_or ts i t → n ≡ end_from 0 (extents_at (take i ts))
      → GREATEST_FRAME < end_from n (extent_of classes (typ_of t) ∷ []) → GREATEST_FRAME < frame_size (extents_at ts)
  frame_over ts i n t h e p l =
      let a = ap (λ (z : ℕ). end_from z (extent_of classes (typ_of t) ∷ [])) p in
      let b = end_append 0 (extents_at (take i ts)) (extent_of classes (typ_of t) ∷ []) in
      let c = ap (end_from 0) (one_item ts i t h e) in
      let d = end_append 0 (extents_at (take (i + 1) ts)) (extents_at (drop (i + 1) ts)) in
      let f = end_low (end_from 0 (extents_at (take (i + 1) ts))) (extents_at (drop (i + 1) ts)) (items_aligned (drop (i + 1) ts)) in
      let g = ap (end_from 0) (all_items ts (i + 1)) in
      let k : GREATEST_FRAME < end_from 0 (extents_at ts) = omega arith in
      let m = next_low (end_from 0 (extents_at ts)) 16 (omega arith) in
      omega arith

  pub next_end : (ts : List Ty) (i n : ℕ) (t : Ty) (p : PlacedItem) → i < length ts → t ≡ get_or ts i t → n ≡ end_from 0 (extents_at (take i ts))
      → IsPlaced n (extent_of classes (typ_of t)) p → p.end ≡ end_from 0 (extents_at (take (i + 1) ts))
  next_end ts i n t p h e q r =
      let a : end_from 0 (extents_at (take (i + 1) ts)) ≡ end_from n (extent_of classes (typ_of t) ∷ []) = ap (end_from 0) (one_item ts i t h e)
      ∙ end_append 0 (extents_at (take i ts)) (extent_of classes (typ_of t) ∷ [])
      ∙ ap (λ (z : ℕ). end_from z (extent_of classes (typ_of t) ∷ [])) (sym q) in
      let b = r.end in
      let d = r.offset in
      omega arith

  pub next_offsets : (ts : List Ty) (i n : ℕ) (t : Ty) (p : PlacedItem) (os ns : List ℕ) → i < length ts → t ≡ get_or ts i t
      → n ≡ end_from 0 (extents_at (take i ts)) → IsPlaced n (extent_of classes (typ_of t)) p → os ≡ offsets_after [] (extents_at (take i ts))
      → ns ≡ os ++ p.offset ∷ [] → ns ≡ offsets_after [] (extents_at (take (i + 1) ts))
  next_offsets ts i n t p os ns h e q r o s =
      let a : offsets_after [] (extents_at (take (i + 1) ts)) ≡ offsets_after [] (extents_at (take i ts))
      ++ offset_after (extents_at (take i ts)) (extent_of classes (typ_of t)) ∷ [] = ap (offsets_after []) (one_item ts i t h e)
      ∙ offsets_push [] (extents_at (take i ts)) (extent_of classes (typ_of t)) in
      let b : p.offset ≡ offset_after (extents_at (take i ts)) (extent_of classes (typ_of t)) = r.offset
      ∙ ap (λ (z : ℕ). next_multiple z (extent_of classes (typ_of t)).align) q in
      s ∙ ap (λ (z : List ℕ). z ++ p.offset ∷ []) o ∙ ap (λ (z : ℕ). offsets_after [] (extents_at (take i ts)) ++ z ∷ []) b ∙ sym a
