-- What the layouts that are kept say of a class.
use Rattle.std.proofs.Common.{◌≡◌, ℕ, zero, suc, ◌+◌, ◌<◌, ◌≤◌, Bool, true, false, ◌&&◌, leb, List, [], ◌∷◌, map, Option, Some, None, is_some, slice_get}
use Rattle.std.proofs.Common.{refl, sym, ap, ◌∙◌, arith, ◌⊎◌, inl, inr}
use Rattle.std.proofs.lemmas.Option.{slice_get-map}
use Rattle.std.proofs.lemmas.Bool.Decides.{leb_tells}
use Rattle.std.specs.Prelude.{if◌then◌else◌}
use Rattle.std.specs.Option.{option_map, option_and_then, IfSome}
use Rattle.cpp_tree.specs.cpp_types.Class.{Class, Member, completion_of}
use Rattle.cpp_tree.specs.cpp_layout.Layout.{Extent, class_extent}
use Rattle.cpp_tree.specs.cpp_layout.Measured.{Measured, member_offset}
use Rattle.cpp_tree.specs.cpp_layout.declared.extents.TheConstants.{GREATEST_SIZE}
use Rattle.elab_ctx.specs.declared.class_layout.ClassLayout.{ClassLayout}
use Rattle.elab_ctx.specs.Layouts.{Layout, unlaid, offsets_from, layout_in, layouts_from, layouts_of, layout_of}

-- The layout at a number is that of the class at that number

from_at : (classes : List Class) (n : ℕ) (cs : List Class) (i : ℕ) → slice_get (layouts_from classes n cs) i
    ≡ option_map (layout_in classes (n + i)) (slice_get cs i)
from_at classes n [] i = refl
from_at classes n (c ∷ cs) zero = ap (λ (z : ℕ). Some (layout_in classes z c)) (let f : n ≡ n + 0 = omega arith in f)
from_at classes n (c ∷ cs) (suc i) = from_at classes (suc n) cs i
    ∙ ap (λ (z : ℕ). option_map (layout_in classes z) (slice_get cs i)) (let f : suc n + i ≡ n + suc i = omega arith in f)

layouts_at : (classes : List Class) (n : ℕ) → slice_get (layouts_of classes) n ≡ option_map (layout_in classes n) (slice_get classes n)
layouts_at classes n = from_at classes 0 classes n
    ∙ ap (λ (z : ℕ). option_map (layout_in classes z) (slice_get classes n)) (let f : 0 + n ≡ n = omega arith in f)

-- what a class of the list has in a list of layouts that shows those of all
shown_at : (classes : List Class) (ls : List ClassLayout) (n : ℕ) → map layout_of ls ≡ layouts_of classes
    → option_map layout_of (slice_get ls n) ≡ option_map (layout_in classes n) (slice_get classes n)
shown_at classes ls n e = sym (slice_get-map layout_of ls n) ∙ ap (λ (z : List Layout). slice_get z n) e ∙ layouts_at classes n

layout_by : (classes : List Class) (n : ℕ) (c : Class) (l : ClassLayout) (o : Option ClassLayout) (p : Option Class)
    → option_map layout_of o ≡ option_map (layout_in classes n) p → o ≡ Some l → p ≡ Some c → layout_of l ≡ layout_in classes n c
layout_by classes n c l (Some m) (Some d) e f g = let a : m ≡ l = cc in let b : d ≡ c = cc in let i : layout_of m ≡ layout_in classes n d = cc in
    sym (ap layout_of a) ∙ i ∙ ap (layout_in classes n) b
layout_by classes n c l None p e f g = absurd cc
layout_by classes n c l (Some m) None e f g = absurd cc

pub layout_at : (classes : List Class) (ls : List ClassLayout) (n : ℕ) (c : Class) (l : ClassLayout) → map layout_of ls ≡ layouts_of classes
    → slice_get ls n ≡ Some l → slice_get classes n ≡ Some c → layout_of l ≡ layout_in classes n c
layout_at classes ls n c l e f g = layout_by classes n c l (slice_get ls n) (slice_get classes n) (shown_at classes ls n e) f g

no_layout : (classes : List Class) (n : ℕ) (o : Option ClassLayout) (p : Option Class) → option_map layout_of o ≡ option_map (layout_in classes n) p
    → o ≡ None → p ≡ None
no_layout classes n None None e f = refl
no_layout classes n None (Some c) e f = absurd cc
no_layout classes n (Some l) p e f = absurd cc

-- a class that is complete has one
pub layout_there : (classes : List Class) (ls : List ClassLayout) (n : ℕ) → map layout_of ls ≡ layouts_of classes → slice_get ls n ≡ None
    → completion_of classes n ≡ None
layout_there classes ls n e f = ap (option_and_then (λ (c : Class). c.complete))
    (no_layout classes n (slice_get ls n) (slice_get classes n) (shown_at classes ls n e) f)

-- Sizes

record Says (b : Bool) (x : Extent) (os : List ℕ) (y : Layout) : Type 0 where
  fits : b ≡ true
  extent : y.extent ≡ x
  offsets : y.offsets ≡ os

known_says : (b : Bool) (x : Extent) (os : List ℕ) (y : Layout) → y ≡ (if b then record { is_known = true; extent = x; offsets = os } else unlaid)
    → y.is_known ≡ true → Says b x os y
known_says true x os y e h = record { fits = refl; extent = ap (λ (z : Layout). z.extent) e; offsets = ap (λ (z : Layout). z.offsets) e }
known_says false x os y e h = absurd (let k : y.is_known ≡ false = ap (λ (z : Layout). z.is_known) e in cc)

unknown_says : (b : Bool) (x : Extent) (os : List ℕ) (y : Layout) → y ≡ (if b then record { is_known = true; extent = x; offsets = os } else unlaid)
    → y.is_known ≡ false → b ≡ false
unknown_says true x os y e h = absurd (let k : y.is_known ≡ true = ap (λ (z : Layout). z.is_known) e in cc)
unknown_says false x os y e h = refl

found_in : (o : Option Class) → is_some (option_and_then (λ (c : Class). c.complete) o) ≡ true → (c : Class) × (o ≡ Some c) × (is_some c.complete ≡ true)
found_in None h = absurd cc
found_in (Some c) h = (c, refl, h)

pub measured_at : (classes : List Class) (ls : List ClassLayout) (n : ℕ) (l : ClassLayout) → map layout_of ls ≡ layouts_of classes
    → is_some (completion_of classes n) ≡ true → slice_get ls n ≡ Some l → l.is_known ≡ true → Measured (class_extent classes n) l.extent
measured_at classes ls n l e h f k =
    let p = found_in (slice_get classes n) h in
    let s = known_says (is_some p.0.complete && leb (class_extent classes n).size GREATEST_SIZE) (class_extent classes n)
    (offsets_from classes n p.0 0 p.0.members) (layout_of l) (layout_at classes ls n p.0 l e f p.1) k in
    let a : l.extent.size ≡ (class_extent classes n).size = ap (λ (z : Extent). z.size) s.extent in
    let b : l.extent.align ≡ (class_extent classes n).align = ap (λ (z : Extent). z.align) s.extent in
    let w = l.within in let x = l.low in let y = l.high in
    record { size = a; align = b; within = omega arith; low = omega arith; high = omega arith }

over_by : (a b : ℕ) (d : Bool) → d ≡ true → d && leb a b ≡ false → ((leb a b ≡ true) × (a ≤ b)) ⊎ ((leb a b ≡ false) × (b < a)) → b < a
over_by a b true e h (inl p) = absurd cc
over_by a b true e h (inr p) = p.1
over_by a b false e h p = absurd cc

pub large_at : (classes : List Class) (ls : List ClassLayout) (n : ℕ) (l : ClassLayout) → map layout_of ls ≡ layouts_of classes
    → is_some (completion_of classes n) ≡ true → slice_get ls n ≡ Some l → l.is_known ≡ false → GREATEST_SIZE < (class_extent classes n).size
large_at classes ls n l e h f k =
    let p = found_in (slice_get classes n) h in
    let u = unknown_says (is_some p.0.complete && leb (class_extent classes n).size GREATEST_SIZE) (class_extent classes n)
    (offsets_from classes n p.0 0 p.0.members) (layout_of l) (layout_at classes ls n p.0 l e f p.1) k in
    over_by (class_extent classes n).size GREATEST_SIZE (is_some p.0.complete) p.2 u (leb_tells (class_extent classes n).size GREATEST_SIZE)

-- Offsets

offset_in : (classes : List Class) (n : ℕ) (c : Class) (i : ℕ) (ms : List Member) (j o : ℕ) (m : Member) → slice_get (offsets_from classes n c i ms) j ≡ Some o
    → slice_get ms j ≡ Some m → o ≡ member_offset classes n c (i + j) m
offset_in classes n c i [] j o m f g = absurd cc
offset_in classes n c i (k ∷ ms) zero o m f g = let a : member_offset classes n c i k ≡ o = cc in let b : k ≡ m = cc in let d : i ≡ i + 0 = omega arith in
    sym a ∙ ap (member_offset classes n c i) b ∙ ap (λ (z : ℕ). member_offset classes n c z m) d
offset_in classes n c i (k ∷ ms) (suc j) o m f g = offset_in classes n c (suc i) ms j o m f g
    ∙ ap (λ (z : ℕ). member_offset classes n c z m) (let d : suc i + j ≡ i + suc j = omega arith in d)

known_if : (b : Bool) (x : Extent) (os : List ℕ) (y : Layout) (j o : ℕ)
    → y ≡ (if b then record { is_known = true; extent = x; offsets = os } else unlaid) → slice_get y.offsets j ≡ Some o → slice_get os j ≡ Some o
known_if true x os y j o e f = sym (ap (λ (z : Layout). slice_get z.offsets j) e) ∙ f
known_if false x os y j o e f = absurd (let k : slice_get y.offsets j ≡ None = ap (λ (z : Layout). slice_get z.offsets j) e in cc)

offset_at : (classes : List Class) (ls : List ClassLayout) (n j o : ℕ) (l : ClassLayout) → map layout_of ls ≡ layouts_of classes
    → slice_get ls n ≡ Some l → slice_get l.offsets.items j ≡ Some o → (c : Class) (m : Member) → slice_get classes n ≡ Some c
    → slice_get c.members j ≡ Some m → o ≡ member_offset classes n c j m
offset_at classes ls n j o l e f g c m h k = offset_in classes n c 0 c.members j o m
    (known_if (is_some c.complete && leb (class_extent classes n).size GREATEST_SIZE) (class_extent classes n)
    (offsets_from classes n c 0 c.members) (layout_of l) j o (layout_at classes ls n c l e f h) g) k
    ∙ ap (λ (z : ℕ). member_offset classes n c z m) (let d : 0 + j ≡ j = omega arith in d)

pub place_if : (classes : List Class) (ls : List ClassLayout) (n j : ℕ) (l : ClassLayout) (r : Option ℕ) → map layout_of ls ≡ layouts_of classes
    → slice_get ls n ≡ Some l → r ≡ slice_get l.offsets.items j → IfSome r (λ (o : ℕ). (c : Class) (m : Member) → slice_get classes n ≡ Some c
    → slice_get c.members j ≡ Some m → o ≡ member_offset classes n c j m)
place_if classes ls n j l None e f g = tt
place_if classes ls n j l (Some o) e f g = λ c m h k. offset_at classes ls n j o l e f (sym g) c m h k
