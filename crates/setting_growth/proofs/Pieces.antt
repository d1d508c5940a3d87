-- Pieces, elements, class pointers and what is destroyed with an object are told as before where classes have grown.
use Rattle.std.proofs.Common.{◌≡◌, refl, sym, ap, ◌∙◌, ℕ, zero, suc, ◌-◌, ◌*◌, ◌==◌, Bool, false, ◌&&◌, ◌||◌, nat_le, nat_lt, List, [], ◌∷◌, slice_get}
use Rattle.std.proofs.Common.{Option, Some, None, is_some, unwrap_or, option_map}
use Rattle.std.specs.List.{list_any}
use Rattle.cpp_types.specs.Typ.{Typ, typ, array, class, closure}
use Rattle.cpp_types.specs.Class.{Class, completion_of}
use Rattle.cpp_types.specs.Conversion.{bases}
use Rattle.cpp_layout.specs.Layout.{has_class_pointer, next_multiple}
use Rattle.cpp_tree.specs.Typing.{Head, passes, form_in, is_class, builds}
use Rattle.cpp_tree.specs.Parts.{Part, sized_class, part_of, parts_in, count_of_parts, pointer_behind, adds_pointer_at, has_pointer_at}
use Rattle.cpp_tree.specs.Parts.{is_piece_of, are_part_pieces, are_class_pieces, are_element_pieces, are_pieces, are_elements, are_objects, Objects, are_whole}
use Rattle.cpp_tree.specs.Parts.{closure_in, are_captured, any_captured, captured_within, depth_of, are_destroyed}
use Rattle.setting_growth.specs.Growth.{HeldEarlier, ClassesGrow}
use Rattle.setting_growth.proofs.Still.{Still, same, never, equal, both, both_if, one_of, each, kept}
use Rattle.setting_growth.proofs.Classes.{Known, class_same, completion_same, base_known, bases_any, pointer_same}
use Rattle.setting_growth.proofs.Sizes.{one_known, sized_known, size_same, sizes_still, has_size_still, sized_still, part_same, count_same, part_still}

module _ (old new : List Class) (g : ClassesGrow old new) (o : HeldEarlier old) where
  -- Pieces

  pieces_same : (c v : Bool) (n : ℕ) → Known old n → (i : ℕ) (hs : List Head) → are_part_pieces new c v n i hs ≡ are_part_pieces old c v n i hs
  pieces_same c v n k i [] = ap (λ (m : ℕ). i == m) (count_same old new g o n k)
  pieces_same c v n k i (h ∷ hs) =
      ap (λ (x : Option Part). passes (is_piece_of c v h) x && are_part_pieces new c v n (suc i) hs) (part_same old new g o n k i)
      ∙ ap (λ (b : Bool). passes (is_piece_of c v h) (part_of old n i) && b) (pieces_same c v n k (suc i) hs)

  class_pieces_still : (c v : Bool) (n : ℕ) (hs : List Head) → Still (are_class_pieces old c v n hs) (are_class_pieces new c v n hs)
  class_pieces_still c v n hs = both_if (sized_still old new g o n) (λ h. equal (pieces_same c v n (sized_known old n h) 0 hs))

  pub are_pieces_still : (t : Typ) (hs : List Head) → Still (are_pieces old t hs) (are_pieces new t hs)
  are_pieces_still (typ (class n) c v) hs = class_pieces_still c v n hs
  are_pieces_still (typ (closure n) c v) hs = class_pieces_still c v n hs
  are_pieces_still (typ (array e many) c v) hs = sizes_still old new g o e (λ (size : ℕ). are_element_pieces e size many 0 hs)
  are_pieces_still t hs = same false

  -- Elements

  pub are_elements_still : (count stride before : ℕ) (t : Typ) (h : Head)
      → Still (are_elements old count stride before t h) (are_elements new count stride before t h)
  are_elements_still count stride before (typ (array e many) c v) h = both (same (nat_le (before * many) count))
      (one_of (both (same (before * many == count && builds e h)) (has_size_still old new g o e stride))
      (are_elements_still count stride (before * many) e h))
  are_elements_still count stride before t h = same false

  objects_still : (n count stride before : ℕ) (t : Typ) → Still (are_objects old n count stride before t) (are_objects new n count stride before t)
  objects_still n count stride before (typ (array e many) c v) = both (same (nat_le (before * many) count))
      (one_of (both (same (before * many == count && is_class n (form_in e))) (has_size_still old new g o e stride))
      (objects_still n count stride (before * many) e))
  objects_still n count stride before t = same false

  -- Class pointers

  behind_same : (n : ℕ) (k : Known old n) (b : Option ℕ) → k.owner.base ≡ b → pointer_behind new b ≡ pointer_behind old b
  behind_same n k None e = refl
  behind_same n k (Some b) e = ap (λ (x : Option ℕ). option_map (λ (size : ℕ). next_multiple size 8) x)
      (size_same old new g o (typ (class b) false false) (one_known old b (base_known old new g o n k b e)))

  adds_same : (at n : ℕ) → Known old n → adds_pointer_at new at n ≡ adds_pointer_at old at n
  adds_same at n k =
      ap (λ (b : Bool). b && passes (λ (c : Class). passes (λ (offset : ℕ). offset == at) (pointer_behind new c.base)) (slice_get new n))
      (pointer_same old new g o n k)
      ∙ ap (λ (x : Option Class). has_class_pointer old n && passes (λ (c : Class). passes (λ (offset : ℕ). offset == at) (pointer_behind new c.base)) x)
      (class_same old new g n k ∙ k.found)
      ∙ ap (λ (x : Option ℕ). has_class_pointer old n && passes (λ (offset : ℕ). offset == at) x) (behind_same n k k.owner.base refl)
      ∙ sym (ap (λ (x : Option Class). has_class_pointer old n && passes (λ (c : Class). passes (λ (offset : ℕ). offset == at) (pointer_behind old c.base)) x)
      k.found)

  pub has_pointer_still : (at n : ℕ) → Still (has_pointer_at old at n) (has_pointer_at new at n)
  has_pointer_still at n = both_if (sized_still old new g o n) (λ h. equal (pointers_same (sized_known old n h)))
    where
      pointers_same : Known old n → list_any (adds_pointer_at new at) (n ∷ bases new n) ≡ list_any (adds_pointer_at old at) (n ∷ bases old n)
      pointers_same k = ap (λ (b : Bool). b || list_any (adds_pointer_at new at) (bases new n)) (adds_same at n k)
          ∙ ap (λ (b : Bool). adds_pointer_at old at n || b) (bases_any old new g o (adds_pointer_at new at) (adds_pointer_at old at) (adds_same at) n k)

  -- Destructions

  whole_still : (x : Objects) (offset : ℕ) (t : Typ) → Still (are_whole old x offset t) (are_whole new x offset t)
  whole_still x offset t = both (same (offset == 0)) (one_of (same (is_class x.class (form_in t) && x.count == 1 && x.stride == 0))
      (both (same (nat_lt 0 x.count)) (objects_still x.class x.count x.stride 1 t)))

  captured_still : (f h : ℕ → ℕ → Bool) (x : Objects) → ((n at : ℕ) → Still (f n at) (h n at)) → (offset : ℕ) (p : Part)
      → Still (are_captured old f x offset p) (are_captured new h x offset p)
  captured_still f h x s offset p = both (same (nat_le p.offset offset)) (one_of (whole_still x (offset - p.offset) p.typ)
      (each (closure_in p.typ) (λ (n : ℕ). f n (offset - p.offset)) (λ (n : ℕ). h n (offset - p.offset)) (λ n. s n (offset - p.offset))))

  any_still : (f h : ℕ → ℕ → Bool) (x : Objects) → ((n at : ℕ) → Still (f n at) (h n at)) → (n offset many i : ℕ)
      → Still (any_captured old f x n offset many i) (any_captured new h x n offset many i)
  any_still f h x s n offset zero i = same false
  any_still f h x s n offset (suc many) i =
      one_of (kept (part_of old n i) (part_of new n i) (are_captured old f x offset) (are_captured new h x offset)
      (λ p. part_still old new g o n i p) (λ p e. captured_still f h x s offset p)) (any_still f h x s n offset many (suc i))

  -- a class without a size has no parts, so that nothing was captured in it
  none_captured : (f : ℕ → ℕ → Bool) (x : Objects) (n offset : ℕ) (u : Option Class) (b : Bool) → u ≡ None
      → Still (any_captured old f x n offset (unwrap_or (option_map parts_in u) 0) 0) b
  none_captured f x n offset None b e = never b
  none_captured f x n offset (Some c) b e = absurd cc

  by_size : (f : ℕ → ℕ → Bool) (x : Objects) (n offset : ℕ) (b : Bool) (u : Option Class) → sized_class old n ≡ u
      → (Known old n → Still (any_captured old f x n offset (count_of_parts old n) 0) b) → Still (any_captured old f x n offset (count_of_parts old n) 0) b
  by_size f x n offset b None e s = none_captured f x n offset (sized_class old n) b e
  by_size f x n offset b (Some c) e s = s (sized_known old n (ap is_some e))

  deeper : (d : ℕ) (x : Objects) → ((n at : ℕ) → Still (captured_within d old x n at) (captured_within d new x n at)) → (n at : ℕ) → Known old n
      → Still (captured_within (suc d) old x n at) (captured_within (suc d) new x n at)
  deeper d x s n at k = record {
    up = λ e. ap (λ (many : ℕ). any_captured new (captured_within d new x) x n at many 0) (count_same old new g o n k)
        ∙ (any_still (captured_within d old x) (captured_within d new x) x s n at (count_of_parts old n) 0).up e;
  }

  within_still : (d : ℕ) (x : Objects) (n at : ℕ) → Still (captured_within d old x n at) (captured_within d new x n at)
  within_still zero x n at = same false
  within_still (suc d) x n at = by_size (captured_within d old x) x n at (captured_within (suc d) new x n at) (sized_class old n) refl
      (deeper d x (within_still d x) n at)

  deep_same : (x : Objects) (n at : ℕ) → Known old n → captured_within (depth_of new n) new x n at ≡ captured_within (depth_of old n) new x n at
  deep_same x n at k = ap (λ (z : Option ℕ). captured_within (suc (unwrap_or z 0)) new x n at) (completion_same old new g n k)

  deep_still : (x : Objects) (at n : ℕ) → Still (captured_within (depth_of old n) old x n at) (captured_within (depth_of new n) new x n at)
  deep_still x at n = by_size (captured_within (unwrap_or (completion_of old n) 0) old x) x n at (captured_within (depth_of new n) new x n at)
      (sized_class old n) refl
      (λ k. record { up = λ e. deep_same x n at k ∙ (within_still (depth_of old n) x n at).up e })

  pub are_destroyed_still : (x : Objects) (offset : ℕ) (t : Typ) → Still (are_destroyed old x offset t) (are_destroyed new x offset t)
  are_destroyed_still x offset t = one_of (whole_still x offset t)
      (each (closure_in t) (λ (n : ℕ). captured_within (depth_of old n) old x n offset) (λ (n : ℕ). captured_within (depth_of new n) new x n offset)
      (deep_still x offset))
