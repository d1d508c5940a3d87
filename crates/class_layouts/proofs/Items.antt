-- Where items lie, one after another.
use Rattle.std.proofs.Common.{◌≡◌, ◌∙◌, ℕ, suc, ◌+◌, ◌<◌, List, [], ◌∷◌, ◌++◌, take, length, get_or, refl, sym, ap, arith, append_assoc}
use Rattle.std.proofs.lemmas.List.{map-append, take_at, append-nil, length-append}
use Rattle.cpp_types.specs.declared.classes.MemberRec.{MemberRec}
use Rattle.cpp_types.specs.Class.{Class, Member, member_of}
use Rattle.cpp_layout.specs.Layout.{Extent, class_extent, end_from, head_items, member_extent, next_multiple}
use Rattle.cpp_layout.specs.Measured.{Follows, Measured, member_extents, member_offset}
use Rattle.cpp_layout.specs.declared.extents.SizeAlign.{SizeAlign}
use Rattle.cpp_layout.specs.declared.cursor.LayoutCursor.{LayoutCursor}
use Rattle.cpp_layout.proofs.Ends.{end_append}
use Rattle.cpp_layout.proofs.Nesting.{extents_of, one_more, place_is}
use Rattle.elab_ctx.specs.Layouts.{offsets_from}
use Rattle.class_layouts.specs.Kept.{places_from}

place_push : (s : ℕ) (xs : List Extent) (e : Extent) → places_from s (xs ++ e ∷ []) ≡ places_from s xs ++ next_multiple (end_from s xs) e.align ∷ []
place_push s [] e = refl
place_push s (x ∷ xs) e = ap (λ (z : List ℕ). next_multiple s x.align ∷ z) (place_push (next_multiple s x.align + x.size) xs e)

-- one member more
pub placed_one : (classes : List Class) (ms : List MemberRec) (i : ℕ) (m : MemberRec) → i < length ms → m ≡ get_or ms i m → (start cursor : LayoutCursor)
    → Follows start (extents_of classes (take i ms)) cursor → (s : SizeAlign) → Measured (member_extent (class_extent classes) (member_of m)) s
    → (os ns : List ℕ) (x : ℕ) → os ≡ places_from start.end (extents_of classes (take i ms)) → x ≡ next_multiple cursor.end s.align → ns ≡ os ++ x ∷ []
    → ns ≡ places_from start.end (extents_of classes (take (i + 1) ms))
placed_one classes ms i m h e start cursor f s z os ns x p q r =
    let a : x ≡ next_multiple (end_from start.end (extents_of classes (take i ms))) (member_extent (class_extent classes) (member_of m)).align =
    place_is x cursor.end (end_from start.end (extents_of classes (take i ms))) s.align (member_extent (class_extent classes) (member_of m)).align q f.end z.align in
    r ∙ ap (λ (y : List ℕ). y ++ x ∷ []) p
    ∙ ap (λ (y : ℕ). places_from start.end (extents_of classes (take i ms)) ++ y ∷ []) a
    ∙ sym (place_push start.end (extents_of classes (take i ms)) (member_extent (class_extent classes) (member_of m)))
    ∙ sym (ap (places_from start.end) (one_more classes ms i m h e))

-- The offsets of members

module _ (classes : List Class) (n : ℕ) (c : Class) where
  abbrev head : List Extent
  head = head_items (class_extent classes) classes n c

  abbrev behind : List Member → ℕ
  behind done = end_from 0 (head ++ member_extents classes done)

  next_behind : (done : List Member) (m : Member) → behind (done ++ m ∷ [])
      ≡ next_multiple (behind done) (member_extent (class_extent classes) m).align + (member_extent (class_extent classes) m).size
  next_behind done m =
      ap (λ (z : List Extent). end_from 0 (head ++ z)) (map-append (member_extent (class_extent classes)) done (m ∷ []))
      ∙ ap (end_from 0) (sym (append_assoc head (member_extents classes done) (member_extent (class_extent classes) m ∷ [])))
      ∙ end_append 0 (head ++ member_extents classes done) (member_extent (class_extent classes) m ∷ [])

  own_offset : (done : List Member) (m : Member) (ms : List Member) → c.members ≡ done ++ m ∷ ms
      → next_multiple (behind done) (member_extent (class_extent classes) m).align ≡ member_offset classes n c (length done) m
  own_offset done m ms e = ap (λ (z : List Member). next_multiple (behind z) (member_extent (class_extent classes) m).align)
      (sym (ap (take (length done)) e ∙ take_at done (m ∷ ms) (length done) refl))

  offsets_rest : (done ms : List Member) → c.members ≡ done ++ ms
      → places_from (behind done) (member_extents classes ms) ≡ offsets_from classes n c (length done) ms
  offsets_rest done [] e = refl
  offsets_rest done (m ∷ ms) e =
      let l : length (done ++ m ∷ []) ≡ suc (length done) = simp length-append (omega arith) in
      let d : c.members ≡ (done ++ m ∷ []) ++ ms = e ∙ sym (append_assoc done (m ∷ []) ms) in
      ap (λ (z : ℕ). z ∷ places_from (next_multiple (behind done) (member_extent (class_extent classes) m).align + (member_extent (class_extent classes) m).size)
      (member_extents classes ms)) (own_offset done m ms e)
      ∙ ap (λ (z : ℕ). member_offset classes n c (length done) m ∷ places_from z (member_extents classes ms)) (sym (next_behind done m))
      ∙ ap (λ (z : List ℕ). member_offset classes n c (length done) m ∷ z) (offsets_rest (done ++ m ∷ []) ms d)
      ∙ ap (λ (z : ℕ). member_offset classes n c (length done) m ∷ offsets_from classes n c z ms) l

  -- those of all members are where they lie behind the base and the class pointer
  pub offsets_all : places_from (end_from 0 head) (member_extents classes c.members) ≡ offsets_from classes n c 0 c.members
  offsets_all = ap (λ (z : List Extent). places_from (end_from 0 z) (member_extents classes c.members)) (sym (append-nil head)) ∙ offsets_rest [] c.members refl
