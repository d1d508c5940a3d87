-- The layout of a class, by its base, its class pointer and its members.
use Rattle.std.proofs.Common.{◌≡◌, ◌∙◌, ℕ, ◌<◌, ◌≤◌, Bool, true, false, ◌&&◌, cond, leb, List, map, Option, Some, None, is_some, slice_get, refl, sym, ap, arith}
use Rattle.std.proofs.Common.{◌⊎◌, inl, inr, subst}
use Rattle.std.proofs.lemmas.Bool.Decides.{leb_tells}
use Rattle.std.proofs.lemmas.Option.{same_Some}
use Rattle.std.specs.Option.{MatchOption}
use Rattle.cpp_types.specs.declared.classes.MemberRec.{MemberRec}
use Rattle.cpp_types.specs.Class.{Class, InOrder, member_of}
use Rattle.cpp_layout.specs.Layout.{Extent, base_items, class_extent, end_from, has_class_pointer, pointer_items}
use Rattle.cpp_layout.specs.Measured.{Follows, Measured, empty_cursor, member_extents, shown}
use Rattle.cpp_layout.specs.declared.extents.SizeAlign.{SizeAlign}
use Rattle.cpp_layout.specs.declared.cursor.LayoutCursor.{LayoutCursor}
use Rattle.cpp_layout.specs.declared.extents.TheConstants.{GREATEST_SIZE}
use Rattle.cpp_layout.proofs.Ends.{joined}
use Rattle.cpp_layout.proofs.Forms.{shown_is}
use Rattle.cpp_layout.proofs.Nesting.{over_base, over_pointer, over_members, whole_is, seen}
use Rattle.elab_ctx.specs.Layouts.{Layout, unlaid, offsets_from, layout_in}
use Rattle.class_layouts.specs.Kept.{AreMembers, places_from}
use Rattle.class_layouts.specs.declared.members.PlacedMembers.{PlacedMembers}
use Rattle.class_layouts.proofs.Items.{offsets_all}
use Rattle.setting_growth.proofs.Still.{is_there}

-- What is kept of a class

abbrev pub laid_by : Bool → Extent → List ℕ → Layout
laid_by b x os = cond b (record { is_known = true; extent = x; offsets = os }) unlaid

both : (a b : Bool) → a ≡ true → b ≡ true → a && b ≡ true
both true true h g = refl
both true false h g = absurd cc
both false b h g = absurd cc

not_second : (a b : Bool) → b ≡ false → a && b ≡ false
not_second true b h = h
not_second false b h = refl

small : (a b : ℕ) → a ≤ b → ((leb a b ≡ true) × (a ≤ b)) ⊎ ((leb a b ≡ false) × (b < a)) → leb a b ≡ true
small a b h (inl p) = p.0
small a b h (inr p) = let l = p.1 in absurd (omega arith)

large : (a b : ℕ) → b < a → ((leb a b ≡ true) × (a ≤ b)) ⊎ ((leb a b ≡ false) × (b < a)) → leb a b ≡ false
large a b h (inl p) = let l = p.1 in absurd (omega arith)
large a b h (inr p) = p.0

-- a class that is not complete
pub open_layout : (classes : List Class) (n : ℕ) (c : Class) → c.complete ≡ None → layout_in classes n c ≡ unlaid
open_layout classes n c e = ap (λ (z : Option ℕ). laid_by (is_some z && leb (class_extent classes n).size GREATEST_SIZE)
    (class_extent classes n) (offsets_from classes n c 0 c.members)) e

-- one that is too large
pub large_layout : (classes : List Class) (n : ℕ) (c : Class) → GREATEST_SIZE < (class_extent classes n).size → layout_in classes n c ≡ unlaid
large_layout classes n c h = ap (λ (z : Bool). laid_by z (class_extent classes n) (offsets_from classes n c 0 c.members))
    (not_second (is_some c.complete) (leb (class_extent classes n).size GREATEST_SIZE)
    (large (class_extent classes n).size GREATEST_SIZE h (leb_tells (class_extent classes n).size GREATEST_SIZE)))

-- any other
pub whole_layout : (classes : List Class) (n : ℕ) (c : Class) (s : SizeAlign) (os : List ℕ) → is_some c.complete ≡ true → Measured (class_extent classes n) s
    → os ≡ offsets_from classes n c 0 c.members → record { is_known = true; extent = shown s; offsets = os } ≡ layout_in classes n c
whole_layout classes n c s os k m e =
    ap (λ (z : Extent). laid_by true z os) (shown_is (class_extent classes n) s m)
    ∙ ap (laid_by true (class_extent classes n)) e
    ∙ sym (ap (λ (z : Bool). laid_by z (class_extent classes n) (offsets_from classes n c 0 c.members))
    (both (is_some c.complete) (leb (class_extent classes n).size GREATEST_SIZE) k
    (small (class_extent classes n).size GREATEST_SIZE m.within (leb_tells (class_extent classes n).size GREATEST_SIZE))))

-- Its items

module _ (classes : List Class) (o : InOrder classes) (n : ℕ) (c : Class) (f : slice_get classes n ≡ Some c) (k : is_some c.complete ≡ true) where
  pub base_over : GREATEST_SIZE < end_from 0 (base_items (class_extent classes) c.base) → GREATEST_SIZE < (class_extent classes n).size
  base_over l = let p = is_there c.complete k in over_base classes o n p.0 c f p.1 l

  pub pointer_over : (r : LayoutCursor) → Follows empty_cursor (base_items (class_extent classes) c.base) r
      → GREATEST_SIZE < end_from r.end (pointer_items (has_class_pointer classes n)) → GREATEST_SIZE < (class_extent classes n).size
  pointer_over r q l = let p = is_there c.complete k in over_pointer classes o n p.0 c f p.1 r q l

  module _ (r s : LayoutCursor) (q : Follows empty_cursor (base_items (class_extent classes) c.base) r)
      (w : Follows r (pointer_items (has_class_pointer classes n)) s) where
    pub members_over : GREATEST_SIZE < end_from s.end (member_extents classes c.members) → GREATEST_SIZE < (class_extent classes n).size
    members_over l = let p = is_there c.complete k in over_members classes o n p.0 c f p.1 r s q w l

    module _ (t : PlacedMembers) (z : AreMembers s (member_extents classes c.members) t) where
      seen_is : seen t.cursor ≡ class_extent classes n
      seen_is = let p = is_there c.complete k in whole_is classes o n p.0 c f p.1 r s t.cursor q w z.follows

      pub whole_over : GREATEST_SIZE < (seen t.cursor).size → GREATEST_SIZE < (class_extent classes n).size
      whole_over l = subst (λ (y : Extent). GREATEST_SIZE < y.size) seen_is l

      offsets_are : t.offsets.items ≡ offsets_from classes n c 0 c.members
      offsets_are = z.offsets
          ∙ ap (λ (y : ℕ). places_from y (member_extents classes c.members))
          ((joined empty_cursor r s (base_items (class_extent classes) c.base) (pointer_items (has_class_pointer classes n)) q w).end)
          ∙ offsets_all classes n c

      pub laid_is : (x : SizeAlign) → Measured (seen t.cursor) x → record { is_known = true; extent = shown x; offsets = t.offsets.items } ≡ layout_in classes n c
      laid_is x m = whole_layout classes n c x t.offsets.items k (subst (λ (y : Extent). Measured y x) seen_is m) offsets_are

-- What is known of members that may be too large

pub members_none : (classes : List Class) (ms rs : List MemberRec) (s : LayoutCursor) (o : Option PlacedMembers) → rs ≡ ms → o ≡ None
    → MatchOption o (GREATEST_SIZE < end_from s.end (member_extents classes (map member_of rs))) (λ p. AreMembers s (member_extents classes (map member_of rs)) p)
    → GREATEST_SIZE < end_from s.end (member_extents classes (map member_of ms))
members_none classes ms rs s None e q h = subst (λ (z : List MemberRec). GREATEST_SIZE < end_from s.end (member_extents classes (map member_of z))) e h
members_none classes ms rs s (Some p) e q h = absurd cc

pub members_some : (classes : List Class) (ms rs : List MemberRec) (s : LayoutCursor) (o : Option PlacedMembers) (p : PlacedMembers) → rs ≡ ms → o ≡ Some p
    → MatchOption o (GREATEST_SIZE < end_from s.end (member_extents classes (map member_of rs))) (λ p. AreMembers s (member_extents classes (map member_of rs)) p)
    → AreMembers s (member_extents classes (map member_of ms)) p
members_some classes ms rs s None p e q h = absurd cc
members_some classes ms rs s (Some r) p e q h = subst (λ (z : PlacedMembers). AreMembers s (member_extents classes (map member_of ms)) z) (same_Some r p q)
    (subst (λ (z : List MemberRec). AreMembers s (member_extents classes (map member_of z)) r) e h)
