-- What is kept of the classes that a class holds.
use Rattle.std.proofs.Common.{◌≡◌, ◌∙◌, ◌≢◌, ℕ, ◌<◌, Bool, true, false, List, [], ◌∷◌, map, length, get_or, Option, Some, None, is_some, slice_get, cond}
use Rattle.std.proofs.Common.{refl, sym, ap, arith, subst}
use Rattle.std.proofs.lemmas.Option.{slice_get-map, slice_get-get_or, same_Some}
use Rattle.std.specs.Option.{MatchOption, option_map, option_and_then}
use Rattle.cpp_types.specs.declared.classes.MemberRec.{MemberRec}
use Rattle.cpp_types.specs.Typ.{Form, shape_form}
use Rattle.cpp_types.specs.Class.{Class, InOrder, CompleteBelow, completion_of, member_of}
use Rattle.cpp_layout.specs.Layout.{Extent, base_items, class_extent, end_from}
use Rattle.cpp_layout.specs.Measured.{HoldsComplete, Measured, Follows, empty_cursor, shown}
use Rattle.cpp_layout.specs.declared.extents.SizeAlign.{SizeAlign}
use Rattle.cpp_layout.specs.declared.cursor.LayoutCursor.{LayoutCursor}
use Rattle.cpp_layout.specs.declared.extents.TheConstants.{GREATEST_SIZE}
use Rattle.cpp_layout.proofs.Forms.{shown_is}
use Rattle.cpp_layout.proofs.Nesting.{large_item}
use Rattle.setting_growth.proofs.Still.{is_there}
use Rattle.elab_ctx.specs.declared.class_layout.ClassLayout.{ClassLayout}
use Rattle.class_layouts.specs.Kept.{known_extent, Says, Keeps, Serves, HoldsKept, MembersKept, BaseKept}

-- One layout

own_extent : (b : Bool) (l : ClassLayout) (s : SizeAlign) → cond b (Some l.extent) None ≡ Some s → l.extent ≡ s
own_extent true l s e = same_Some l.extent s e
own_extent false l s e = absurd cc

-- the size that a layout says is in bounds
pub known_bounds : (o : Option ClassLayout) (s : SizeAlign) → known_extent o ≡ Some s → Measured (shown s) s
known_bounds None s e = absurd cc
known_bounds (Some l) s e = subst (λ (z : SizeAlign). Measured (shown z) z) (own_extent l.is_known l s e)
    (record { size = refl; align = refl; within = l.within; low = l.low; high = l.high })

said_none : (e : Extent) (o : Option SizeAlign) → o ≡ None → MatchOption o (GREATEST_SIZE < e.size) (λ s. Measured e s) → GREATEST_SIZE < e.size
said_none e None q h = h
said_none e (Some s) q h = absurd cc

said_some : (e : Extent) (o : Option SizeAlign) (s : SizeAlign) → o ≡ Some s → MatchOption o (GREATEST_SIZE < e.size) (λ s. Measured e s) → Measured e s
said_some e None s q h = absurd cc
said_some e (Some r) s q h = subst (Measured e) (same_Some r s q) h

pub says_large : (e : Extent) (o : Option ClassLayout) → known_extent o ≡ None → Says e o → GREATEST_SIZE < e.size
says_large e o q h = said_none e (known_extent o) q h

pub says_measured : (e : Extent) (o : Option ClassLayout) (s : SizeAlign) → known_extent o ≡ Some s → Says e o → Measured e s
says_measured e o s q h = said_some e (known_extent o) s q h

-- The base

pub base_large : (at : ℕ → Extent) (ls : List ClassLayout) (base : Option ℕ) (b : ℕ) (o : Option SizeAlign) → base ≡ Some b → o ≡ None
    → o ≡ known_extent (slice_get ls b) → BaseKept at ls base → GREATEST_SIZE < end_from 0 (base_items at base)
base_large at ls base b o e q r k =
    let h : GREATEST_SIZE < end_from 0 (at b ∷ []) = large_item 0 (at b) (says_large (at b) (slice_get ls b) (sym r ∙ q) (k.says b e)) in
    subst (λ (z : Option ℕ). GREATEST_SIZE < end_from 0 (base_items at z)) (sym e) h

pub base_first : (at : ℕ → Extent) (ls : List ClassLayout) (base : Option ℕ) (b : ℕ) (s : SizeAlign) (from : LayoutCursor) (r : Option LayoutCursor)
    → base ≡ Some b → Some s ≡ known_extent (slice_get ls b) → from ≡ empty_cursor
    → MatchOption r (GREATEST_SIZE < end_from from.end (shown s ∷ [])) (λ x. Follows from (shown s ∷ []) x) → BaseKept at ls base
    → MatchOption r (GREATEST_SIZE < end_from 0 (base_items at base)) (λ x. Follows empty_cursor (base_items at base) x)
base_first at ls base b s from r e q f h k =
    let a : MatchOption r (GREATEST_SIZE < end_from 0 (shown s ∷ [])) (λ x. Follows empty_cursor (shown s ∷ []) x) =
    subst (λ (z : LayoutCursor). MatchOption r (GREATEST_SIZE < end_from z.end (shown s ∷ [])) (λ x. Follows z (shown s ∷ []) x)) f h in
    let d : shown s ≡ at b = shown_is (at b) s (says_measured (at b) (slice_get ls b) s (sym q) (k.says b e)) in
    let g : MatchOption r (GREATEST_SIZE < end_from 0 (at b ∷ [])) (λ x. Follows empty_cursor (at b ∷ []) x) =
    subst (λ (z : Extent). MatchOption r (GREATEST_SIZE < end_from 0 (z ∷ [])) (λ x. Follows empty_cursor (z ∷ []) x)) d a in
    subst (λ (z : Option ℕ). MatchOption r (GREATEST_SIZE < end_from 0 (base_items at z)) (λ x. Follows empty_cursor (base_items at z) x)) (sym e) g

-- Types and members

pub kept_complete : (classes : List Class) (ls : List ClassLayout) (f : Form) → HoldsKept classes ls f → HoldsComplete classes f
kept_complete classes ls f h = record { held = λ e q. (h.held e q).complete }

member_there : (ms : List MemberRec) (i : ℕ) (m : MemberRec) → i < length ms → m ≡ get_or ms i m → slice_get (map member_of ms) i ≡ Some (member_of m)
member_there ms i m h e = slice_get-map member_of ms i ∙ ap (option_map member_of) (slice_get-get_or ms i m h ∙ ap Some (sym e))

pub member_kept : (classes : List Class) (ls : List ClassLayout) (ms : List MemberRec) → MembersKept classes ls (map member_of ms) → (i : ℕ) (m : MemberRec)
    → i < length ms → m ≡ get_or ms i m → HoldsKept classes ls (shape_form m.ty.shape)
member_kept classes ls ms k i m h e = record { held = λ x q. k.held i (member_of m) (member_there ms i m h e) x q }

-- A class holds no class but those that were complete before it

not_own : (classes : List Class) (n k e : ℕ) (c : Class) → slice_get classes n ≡ Some c → c.complete ≡ Some k → CompleteBelow classes k e → e ≢ n
not_own classes n k e c f p b = λ q.
    let x : b.number ≡ k = same_Some b.number k (sym b.complete ∙ ap (completion_of classes) q ∙ ap (option_and_then (λ (z : Class). z.complete)) f ∙ p) in
    let l = b.below in absurd (omega arith)

module _ (classes : List Class) (ls : List ClassLayout) (o : InOrder classes) (n : ℕ) (c : Class) (f : slice_get classes n ≡ Some c)
    (h : is_some c.complete ≡ true) (s : Serves classes ls n) where
  kept_below : (k : ℕ) → c.complete ≡ Some k → (e : ℕ) → CompleteBelow classes k e → Keeps classes ls e
  kept_below k p e b = s.other e (not_own classes n k e c f p b) (record { number = b.number; complete = b.complete })

  pub base_kept : BaseKept (class_extent classes) ls c.base
  base_kept = let p = is_there c.complete h in
      record { says = λ b q. (kept_below p.0 p.1 b ((o.earlier n c p.0 f p.1).base b q)).says }

  pub members_kept : MembersKept classes ls c.members
  members_kept = let p = is_there c.complete h in
      record { held = λ i m q e r. kept_below p.0 p.1 e ((o.earlier n c p.0 f p.1).members i m q e r) }
