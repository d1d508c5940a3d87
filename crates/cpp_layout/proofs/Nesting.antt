-- Classes in one another: an extent is the same at each depth that holds all classes.
use Rattle.std.proofs.Common.{◌≡◌, ◌∙◌, ℕ, zero, suc, ◌+◌, ◌<◌, ◌≤◌, Bool, true, false, max, length, List, [], ◌∷◌, ◌++◌, map, take, drop, Option, Some, None}
use Rattle.std.proofs.Common.{slice_get, get_or, unwrap_or, ◌*◌, refl, sym, ap, arith, subst}
use Rattle.std.proofs.lemmas.List.{take_more, map-append, take-append-drop, take-map}
use Rattle.std.proofs.lemmas.Option.{slice_get-map, slice_get-get_or}
use Rattle.cpp_types.specs.declared.classes.MemberRec.{MemberRec}
use Rattle.cpp_types.specs.Typ.{Typ, typ, shape_form}
use Rattle.cpp_types.specs.Class.{Class, Member, InOrder, HoldsEarlier, CompleteBelow, completion_of, held, held_form, member_of}
use Rattle.std.specs.Option.{option_and_then, option_map, MatchOption}
use Rattle.cpp_types.specs.Conversion.{form_of}
use Rattle.cpp_layout.specs.Layout.{Extent, form_extent, member_extent, base_items, pointer_items, has_class_pointer, head_items, items_of, whole}
use Rattle.cpp_layout.specs.Layout.{record_extent, extent_within, class_extent, greatest_align, next_multiple, end_from}
use Rattle.cpp_layout.specs.Measured.{IsComplete, HoldsComplete, HeldBelow, BaseComplete, member_extents, Measured, Follows, empty_cursor, shown, member_offset}
use Rattle.cpp_layout.specs.declared.extents.SizeAlign.{SizeAlign}
use Rattle.cpp_layout.specs.declared.cursor.LayoutCursor.{LayoutCursor}
use Rattle.cpp_layout.proofs.Ends.{Aligned, next_low, end_append, greatest_low, greatest_append, joined, over_later, over_first}
use Rattle.cpp_layout.proofs.Forms.{form_agrees, members_aligned, shown_is}
use Rattle.cpp_layout.specs.declared.extents.TheConstants.{GREATEST_SIZE}

typ_agrees : (g h : ℕ → Extent) (t : Typ) → ((e : ℕ) → held t ≡ Some e → g e ≡ h e) → form_extent g (form_of t) ≡ form_extent h (form_of t)
typ_agrees g h (typ f c v) p = form_agrees g h f p

member_agrees : (g h : ℕ → Extent) (m : Member) → ((e : ℕ) → held m.typ ≡ Some e → g e ≡ h e) → member_extent g m ≡ member_extent h m
member_agrees g h m p = typ_agrees g h m.typ p

slice_get-suc : (m : Member) (ms : List Member) (i : ℕ) (k : Member) → slice_get ms i ≡ Some k → slice_get (m ∷ ms) (suc i) ≡ Some k
slice_get-suc m ms i k q = q

members_agree : (g h : ℕ → Extent) (ms : List Member) → ((i : ℕ) (m : Member) → slice_get ms i ≡ Some m → (e : ℕ) → held m.typ ≡ Some e → g e ≡ h e)
    → map (member_extent g) ms ≡ map (member_extent h) ms
members_agree g h [] p = refl
members_agree g h (m ∷ ms) p =
    let e : member_extent g m ≡ member_extent h m = member_agrees g h m (p 0 m refl) in
    let r : map (member_extent g) ms ≡ map (member_extent h) ms = members_agree g h ms (λ i k q. p (suc i) k (slice_get-suc m ms i k q)) in
    cc

base_agrees : (g h : ℕ → Extent) (b : Option ℕ) → ((e : ℕ) → b ≡ Some e → g e ≡ h e) → base_items g b ≡ base_items h b
base_agrees g h None p = refl
base_agrees g h (Some b) p = ap (λ (x : Extent). x ∷ []) (p b refl)

items_agree : (g h : ℕ → Extent) (classes : List Class) (n k : ℕ) (c : Class) → ((e : ℕ) → CompleteBelow classes k e → g e ≡ h e) → HoldsEarlier classes k c
    → items_of g classes n c ≡ items_of h classes n c
items_agree g h classes n k c p e =
    let m : map (member_extent g) c.members ≡ map (member_extent h) c.members = members_agree g h c.members (λ i m q x r. p x (e.members i m q x r)) in
    let b : base_items g c.base ≡ base_items h c.base = base_agrees g h c.base (λ x q. p x (e.base x q)) in
    cc

-- the class is in the list where it is complete
found : (classes : List Class) (o : Option Class) (k : ℕ) → option_and_then (λ (c : Class). c.complete) o ≡ Some k → (c : Class) × (o ≡ Some c)
    × (c.complete ≡ Some k)
found classes None k p = absurd cc
found classes (Some c) k p = (c, refl, p)

stable : (classes : List Class) → InOrder classes → (d t n k : ℕ) → completion_of classes n ≡ Some k → k < d → k < t
    → extent_within d classes n ≡ extent_within t classes n
stable classes o zero t n k p q r = absurd (omega arith)
stable classes o (suc d) zero n k p q r = absurd (omega arith)
stable classes o (suc d) (suc t) n k p q r =
    let f = found classes (slice_get classes n) k p in
    let e : items_of (extent_within d classes) classes n f.0 ≡ items_of (extent_within t classes) classes n f.0 =
    items_agree (extent_within d classes) (extent_within t classes) classes n k f.0
    (λ x b. let l = b.below in stable classes o d t x b.number b.complete (omega arith) (omega arith)) (o.earlier n f.0 k f.1 f.2) in
    ap (record_extent (extent_within d classes) classes n) f.1 ∙ ap whole e ∙ sym (ap (record_extent (extent_within t classes) classes n) f.1)

-- a complete class is laid out by the extents of the classes that it holds
pub class_whole : (classes : List Class) → InOrder classes → (n k : ℕ) (c : Class) → slice_get classes n ≡ Some c → c.complete ≡ Some k
    → class_extent classes n ≡ whole (items_of (class_extent classes) classes n c)
class_whole classes o n k c f p =
    let q : completion_of classes n ≡ Some k = ap (option_and_then (λ (x : Class). x.complete)) f ∙ p in
    let d : class_extent classes n ≡ extent_within (suc k) classes n = ap (λ (x : Option ℕ). extent_within (suc (unwrap_or x 0)) classes n) q in
    let e : items_of (extent_within k classes) classes n c ≡ items_of (class_extent classes) classes n c =
    items_agree (extent_within k classes) (class_extent classes) classes n k c
    (λ x b. let l = b.below in stable classes o k (suc (unwrap_or (completion_of classes x) 0)) x b.number b.complete (omega arith)
    (let u : unwrap_or (completion_of classes x) 0 ≡ b.number = ap (λ (y : Option ℕ). unwrap_or y 0) b.complete in omega arith)) (o.earlier n c k f p) in
    d ∙ ap (record_extent (extent_within k classes) classes n) f ∙ ap whole e

within_low : (classes : List Class) (d n : ℕ) → 1 ≤ (extent_within d classes n).align
within_low classes zero n = omega arith
within_low classes (suc d) n = elim (slice_get classes n) as (λ o. 1 ≤ (record_extent (extent_within d classes) classes n o).align) [
  | None ↦ omega arith
  | Some c ↦ greatest_low (items_of (extent_within d classes) classes n c)
]

pub class_low : (classes : List Class) (n : ℕ) → 1 ≤ (class_extent classes n).align
class_low classes n = within_low classes (suc (unwrap_or (completion_of classes n) 0)) n

-- How deep a class is

abbrev pub depth : List Class → ℕ → ℕ
depth classes n = unwrap_or (completion_of classes n) 0

-- the measure at a type, by the class that its values hold
abbrev pub held_depth : List Class → Option ℕ → ℕ
held_depth classes None = 0
held_depth classes (Some e) = 4 * depth classes e + 4

pub below_depth : (classes : List Class) (k e : ℕ) → CompleteBelow classes k e → depth classes e < k
below_depth classes k e b = let h : depth classes e ≡ b.number = ap (λ (o : Option ℕ). unwrap_or o 0) b.complete in let l = b.below in omega arith

pub own_depth : (classes : List Class) (n k : ℕ) (c : Class) → slice_get classes n ≡ Some c → c.complete ≡ Some k → depth classes n ≡ k
own_depth classes n k c f p = ap (λ (o : Option ℕ). unwrap_or o 0) (ap (option_and_then (λ (x : Class). x.complete)) f ∙ p)

pub part_depth : (classes : List Class) (o : Option ℕ) (e : ℕ) → o ≡ Some e → 4 * depth classes e + 3 < held_depth classes o
part_depth classes o e p = let h : held_depth classes o ≡ 4 * depth classes e + 4 = ap (held_depth classes) p in omega arith

held_below : (classes : List Class) (o : Option ℕ) (k : ℕ) → ((e : ℕ) → o ≡ Some e → CompleteBelow classes k e) → held_depth classes o < 4 * k + 2
held_below classes None k p = omega arith
held_below classes (Some e) k p = let h = below_depth classes k e (p e refl) in omega arith

pub base_depth : (classes : List Class) → InOrder classes → (n k : ℕ) (c : Class) → slice_get classes n ≡ Some c → c.complete ≡ Some k
    → held_depth classes c.base < 4 * depth classes n + 3
base_depth classes o n k c f p = let h = held_below classes c.base k ((o.earlier n c k f p).base) in let d = own_depth classes n k c f p in omega arith

was_complete : (classes : List Class) (k e : ℕ) → CompleteBelow classes k e → IsComplete classes e
was_complete classes k e b = record { number = b.number; complete = b.complete }

pub base_complete : (classes : List Class) → InOrder classes → (n k : ℕ) (c : Class) → slice_get classes n ≡ Some c → c.complete ≡ Some k
    → BaseComplete classes c.base
base_complete classes o n k c f p = record { complete = λ b q. was_complete classes k b ((o.earlier n c k f p).base b q) }

pub members_below : (classes : List Class) → InOrder classes → (n k : ℕ) (c : Class) → slice_get classes n ≡ Some c → c.complete ≡ Some k
    → HeldBelow classes k c.members
members_below classes o n k c f p = record { held = (o.earlier n c k f p).members }

-- One member more

pub one_more : (classes : List Class) (ms : List MemberRec) (i : ℕ) (m : MemberRec) → i < length ms → m ≡ get_or ms i m
    → member_extents classes (map member_of (take (i + 1) ms)) ≡ member_extents classes (map member_of (take i ms))
    ++ member_extent (class_extent classes) (member_of m) ∷ []
one_more classes ms i m h e =
    let p : take (i + 1) ms ≡ take i ms ++ m ∷ [] = take_more ms i m h ∙ ap (λ (z : MemberRec). take i ms ++ z ∷ []) (sym e) in
    ap (λ (z : List MemberRec). member_extents classes (map member_of z)) p ∙ simp map-append

member_there : (ms : List MemberRec) (i : ℕ) (m : MemberRec) → i < length ms → m ≡ get_or ms i m → slice_get (map member_of ms) i ≡ Some (member_of m)
member_there ms i m h e = slice_get-map member_of ms i ∙ ap (option_map member_of) (slice_get-get_or ms i m h ∙ ap Some (sym e))

module _ (classes : List Class) (k : ℕ) (ms : List MemberRec) (b : HeldBelow classes k (map member_of ms)) (i : ℕ) (m : MemberRec) (h : i < length ms)
    (e : m ≡ get_or ms i m) where
  member_below : (x : ℕ) → held (member_of m).typ ≡ Some x → CompleteBelow classes k x
  member_below x q = b.held i (member_of m) (member_there ms i m h e) x q

  pub member_depth : held_depth classes (held_form (shape_form m.ty.shape)) < 4 * k + 2
  member_depth = held_below classes (held_form (shape_form m.ty.shape)) k member_below

  pub member_complete : HoldsComplete classes (shape_form m.ty.shape)
  member_complete = record { held = λ x q. was_complete classes k x (member_below x q) }

pub extents_aligned : (classes : List Class) (ms : List Member) → Aligned (member_extents classes ms)
extents_aligned classes ms = members_aligned (class_extent classes) (class_low classes) ms

pub greatest_push : (xs : List Extent) (e : Extent) (a n : ℕ) → 1 ≤ e.align → a ≡ e.align → n ≡ greatest_align xs → max a n ≡ greatest_align (xs ++ e ∷ [])
greatest_push xs e a n l p q = let g : greatest_align (xs ++ e ∷ []) ≡ max (greatest_align xs) (max e.align 1) = greatest_append xs (e ∷ []) in omega arith

-- The items of a class

-- the class whose items are the cursor
abbrev pub seen : LayoutCursor → Extent
seen t = record { size = max 1 (next_multiple t.end t.align); align = t.align }

pointer_aligned : (b : Bool) → Aligned (pointer_items b)
pointer_aligned true = (omega arith, tt)
pointer_aligned false = tt

module _ (classes : List Class) (o : InOrder classes) (n k : ℕ) (c : Class) (f : slice_get classes n ≡ Some c) (p : c.complete ≡ Some k) where
  abbrev base : List Extent
  base = base_items (class_extent classes) c.base

  abbrev pointer : List Extent
  pointer = pointer_items (has_class_pointer classes n)

  abbrev items : List Extent
  items = items_of (class_extent classes) classes n c

  align_is : (class_extent classes n).align ≡ greatest_align items
  align_is = ap (λ (e : Extent). e.align) (class_whole classes o n k c f p)

  size_is : (class_extent classes n).size ≡ max 1 (next_multiple (end_from 0 items) (greatest_align items))
  size_is = ap (λ (e : Extent). e.size) (class_whole classes o n k c f p)

  pub class_aligned : (a b m r : ℕ) → a ≡ greatest_align base → b ≡ greatest_align pointer → m ≡ greatest_align (member_extents classes c.members)
      → r ≡ max (max a b) m → r ≡ (class_extent classes n).align
  class_aligned a b m r x y z w =
      let g = greatest_append (base ++ pointer) (member_extents classes c.members) in
      let h = greatest_append base pointer in
      let i = align_is in
      omega arith

  over : GREATEST_SIZE < end_from 0 items → GREATEST_SIZE < (class_extent classes n).size
  over l = let s = size_is in let g = greatest_low items in let h = next_low (end_from 0 items) (greatest_align items) g in omega arith

  pub over_base : GREATEST_SIZE < end_from 0 base → GREATEST_SIZE < (class_extent classes n).size
  over_base l = over (over_first 0 (base ++ pointer) (member_extents classes c.members) (extents_aligned classes c.members)
      (over_first 0 base pointer (pointer_aligned (has_class_pointer classes n)) l))

  pub over_pointer : (r : LayoutCursor) → Follows empty_cursor base r → GREATEST_SIZE < end_from r.end pointer → GREATEST_SIZE < (class_extent classes n).size
  over_pointer r q l = over (over_first 0 (base ++ pointer) (member_extents classes c.members) (extents_aligned classes c.members)
      (over_later empty_cursor r base pointer q l))

  pub over_members : (r s : LayoutCursor) → Follows empty_cursor base r → Follows r pointer s
      → GREATEST_SIZE < end_from s.end (member_extents classes c.members) → GREATEST_SIZE < (class_extent classes n).size
  over_members r s q w l = over (over_later empty_cursor s (base ++ pointer) (member_extents classes c.members) (joined empty_cursor r s base pointer q w) l)

  pub whole_is : (r s t : LayoutCursor) → Follows empty_cursor base r → Follows r pointer s → Follows s (member_extents classes c.members) t
      → seen t ≡ class_extent classes n
  whole_is r s t q w z =
      let j = joined empty_cursor s t (base ++ pointer) (member_extents classes c.members) (joined empty_cursor r s base pointer q w) z in
      let g = greatest_low items in
      let a : t.align ≡ greatest_align items = let u = j.align in omega arith in
      let e : t.end ≡ end_from 0 items = j.end in
      ap (λ (x : ℕ). let y : Extent = record { size = max 1 (next_multiple x t.align); align = t.align } in y) e
      ∙ ap (λ (x : ℕ). let y : Extent = record { size = max 1 (next_multiple (end_from 0 items) x); align = x } in y) a
      ∙ sym (class_whole classes o n k c f p)

-- Rows of members

abbrev pub extents_of : List Class → List MemberRec → List Extent
extents_of classes ms = member_extents classes (map member_of ms)

pub whole_list : (classes : List Class) (ms : List MemberRec) (i : ℕ) → extents_of classes ms ≡ extents_of classes (take i ms) ++ extents_of classes (drop i ms)
whole_list classes ms i = ap (extents_of classes) (sym (take-append-drop i ms)) ∙ simp map-append

pub large_item : (s : ℕ) (e : Extent) → GREATEST_SIZE < e.size → GREATEST_SIZE < end_from s (e ∷ [])
large_item s e l = omega arith

module _ (classes : List Class) (ms : List MemberRec) (i : ℕ) (m : MemberRec) (h : i < length ms) (e : m ≡ get_or ms i m) (start cursor : LayoutCursor)
    (f : Follows start (extents_of classes (take i ms)) cursor) where
  pub member_over : GREATEST_SIZE < end_from cursor.end (member_extent (class_extent classes) (member_of m) ∷ [])
      → GREATEST_SIZE < end_from start.end (extents_of classes ms)
  member_over l =
      let p : GREATEST_SIZE < end_from start.end (extents_of classes (take i ms) ++ member_extent (class_extent classes) (member_of m) ∷ []) =
      over_later start cursor (extents_of classes (take i ms)) (member_extent (class_extent classes) (member_of m) ∷ []) f l in
      let q : GREATEST_SIZE < end_from start.end (extents_of classes (take (i + 1) ms)) = let u = ap (end_from start.end) (one_more classes ms i m h e) in
      omega arith in
      let r : GREATEST_SIZE < end_from start.end (extents_of classes (take (i + 1) ms) ++ extents_of classes (drop (i + 1) ms)) =
      over_first start.end (extents_of classes (take (i + 1) ms)) (extents_of classes (drop (i + 1) ms))
      (extents_aligned classes (map member_of (drop (i + 1) ms))) q in
      let u = ap (end_from start.end) (whole_list classes ms (i + 1)) in
      omega arith

  pub member_behind : (s : SizeAlign) (next : LayoutCursor) → Measured (member_extent (class_extent classes) (member_of m)) s
      → Follows cursor (shown s ∷ []) next → Follows start (extents_of classes (take (i + 1) ms)) next
  member_behind s next z w =
      let g : Follows cursor (member_extent (class_extent classes) (member_of m) ∷ []) next =
      subst (λ (x : Extent). Follows cursor (x ∷ []) next) (shown_is (member_extent (class_extent classes) (member_of m)) s z) w in
      subst (λ (x : List Extent). Follows start x next) (sym (one_more classes ms i m h e))
      (joined start cursor next (extents_of classes (take i ms)) (member_extent (class_extent classes) (member_of m) ∷ []) f g)

pub item_over : (cursor : LayoutCursor) (e : Extent) (s : SizeAlign) → Measured e s → GREATEST_SIZE < end_from cursor.end (shown s ∷ [])
    → GREATEST_SIZE < end_from cursor.end (e ∷ [])
item_over cursor e s z l = subst (λ (x : Extent). GREATEST_SIZE < end_from cursor.end (x ∷ [])) (shown_is e s z) l

pub no_members : (o : Option LayoutCursor) (start : LayoutCursor) (es : List Extent) → o ≡ None → GREATEST_SIZE < end_from start.end es
    → MatchOption o (GREATEST_SIZE < end_from start.end es) (λ r. Follows start es r)
no_members o start es p l = subst (λ (z : Option LayoutCursor). MatchOption z (GREATEST_SIZE < end_from start.end es) (λ r. Follows start es r)) (sym p) l

kept_of : (xs : List Member) (i j : ℕ) (m : Member) → slice_get (take i xs) j ≡ Some m → slice_get xs j ≡ Some m
kept_of xs zero j m q = absurd cc
kept_of [] (suc i) j m q = q
kept_of (x ∷ xs) (suc i) zero m q = q
kept_of (x ∷ xs) (suc i) (suc j) m q = kept_of xs i j m q

kept : (ms : List MemberRec) (i j : ℕ) (m : Member) → slice_get (map member_of (take i ms)) j ≡ Some m → slice_get (map member_of ms) j ≡ Some m
kept ms i j m q = kept_of (map member_of ms) i j m (ap (λ (z : List Member). slice_get z j) (take-map member_of i ms) ∙ q)

pub slice_below : (classes : List Class) (k i : ℕ) (ms : List MemberRec) → HeldBelow classes k (map member_of ms)
    → HeldBelow classes k (map member_of (take i ms))
slice_below classes k i ms b = record { held = λ j m q e r. b.held j m (kept ms i j m q) e r }

-- The offsets of members

pub own_or : (xs : List MemberRec) (i : ℕ) (d : MemberRec) → i < length xs → get_or xs i d ≡ get_or xs i (get_or xs i d)
own_or xs i d h = let p = slice_get-get_or xs i d h in let q = slice_get-get_or xs i (get_or xs i d) h in cc

pub rest_over : (classes : List Class) (ms : List MemberRec) (i s : ℕ) → GREATEST_SIZE < end_from s (extents_of classes (take i ms))
    → GREATEST_SIZE < end_from s (extents_of classes ms)
rest_over classes ms i s l = let p = over_first s (extents_of classes (take i ms)) (extents_of classes (drop i ms))
    (extents_aligned classes (map member_of (drop i ms))) l in let u = ap (end_from s) (whole_list classes ms i) in omega arith

pub place_is : (r a x b y : ℕ) → r ≡ next_multiple a b → a ≡ x → b ≡ y → r ≡ next_multiple x y
place_is r a x b y p e f = p ∙ ap (λ (z : ℕ). next_multiple z b) e ∙ ap (λ (z : ℕ). next_multiple x z) f

pub align_at : (classes : List Class) (ms : List MemberRec) (i : ℕ) (d m : MemberRec) → i < length ms → slice_get ms i ≡ Some m
    → (member_extent (class_extent classes) (member_of (get_or ms i d))).align ≡ (member_extent (class_extent classes) (member_of m)).align
align_at classes ms i d m h e = let p = slice_get-get_or ms i d h in let q : get_or ms i d ≡ m = cc in
    ap (λ (z : MemberRec). (member_extent (class_extent classes) (member_of z)).align) q

found_member : (o : Option MemberRec) (m : Member) → option_map member_of o ≡ Some m → (r : MemberRec) × (o ≡ Some r) × (member_of r ≡ m)
found_member None m e = absurd cc
found_member (Some r) m e = (r, refl, cc)

module _ (classes : List Class) (n : ℕ) (c : Class) (f : slice_get classes n ≡ Some c) (r s : LayoutCursor)
    (q : Follows empty_cursor (base_items (class_extent classes) c.base) r) (w : Follows r (pointer_items (has_class_pointer classes n)) s)
    (ms : List MemberRec) (e : c.members ≡ map member_of ms) (i x : ℕ) where
  place_own : (m : MemberRec) → x ≡ next_multiple (end_from s.end (extents_of classes (take i ms))) (member_extent (class_extent classes) (member_of m)).align
      → x ≡ member_offset classes n c i (member_of m)
  place_own m p =
      let j = joined empty_cursor r s (base_items (class_extent classes) c.base) (pointer_items (has_class_pointer classes n)) q w in
      let t : map member_of (take i ms) ≡ take i c.members = sym (take-map member_of i ms) ∙ ap (take i) (sym e) in
      let u : end_from s.end (extents_of classes (take i ms))
      ≡ end_from 0 (head_items (class_extent classes) classes n c ++ member_extents classes (take i c.members)) =
      ap (λ (z : List Member). end_from s.end (member_extents classes z)) t ∙ ap (λ (z : ℕ). end_from z (member_extents classes (take i c.members))) j.end
      ∙ sym (end_append 0 (head_items (class_extent classes) classes n c) (member_extents classes (take i c.members))) in
      p ∙ ap (λ (z : ℕ). next_multiple z (member_extent (class_extent classes) (member_of m)).align) u

  pub place_offset : ((m : MemberRec) → slice_get ms i ≡ Some m → x ≡ next_multiple (end_from s.end (extents_of classes (take i ms)))
      (member_extent (class_extent classes) (member_of m)).align) → (d : Class) (m : Member) → slice_get classes n ≡ Some d → slice_get d.members i ≡ Some m
      → x ≡ member_offset classes n d i m
  place_offset p d m g h =
      let k : c ≡ d = cc in
      let l : slice_get (map member_of ms) i ≡ Some m = ap (λ (z : List Member). slice_get z i) (sym e) ∙ ap (λ (z : Class). slice_get z.members i) k ∙ h in
      let v = found_member (slice_get ms i) m (sym (slice_get-map member_of ms i) ∙ l) in
      subst (λ (z : Class). x ≡ member_offset classes n z i m) k (subst (λ (z : Member). x ≡ member_offset classes n c i z) v.2 (place_own v.0 (p v.0 v.1)))
