-- Objects of complete classes are whole, and the offsets of their members are words.
use Rattle.std.proofs.Common.{◌≡◌, refl, sym, ap, ◌∙◌, subst, ℕ, zero, suc, ◌+◌, ◌≤◌, max, Bool, true, false, List, [], ◌∷◌, take, Option, Some, None, is_some, slice_get}
use Rattle.std.proofs.Common.{arith, le-leb, option_and_then}
use Rattle.std.proofs.lemmas.Option.{same_Some}
use Rattle.elab_rules.specs.tx_ints.declared.kinds.IntKind.TheVariants.{ULong}
use Rattle.elab_rules.specs.cpp_types.Typ.{typ, Form, void, int, enum, null, ptr, ref, array, func, class, closure, tx_ex}
use Rattle.elab_rules.specs.cpp_types.Class.{Class, Member, InOrder, completion_of}
use Rattle.elab_rules.specs.cpp_layout.Layout.{Extent, class_extent, head_items, items_of, member_extent, end_from, greatest_align, next_multiple}
use Rattle.elab_rules.specs.cpp_layout.Measured.{member_extents, member_offset}
use Rattle.elab_rules.proofs.cpp_layout.Ends.{next_low, end_low, end_append, greatest_low}
use Rattle.elab_rules.proofs.cpp_layout.Nesting.{class_whole, extents_aligned}
use Rattle.elab_rules.specs.cpp_tree.Notation.{plain}
use Rattle.elab_rules.specs.cpp_tree.Parts.{size_in}
use Rattle.elab_rules.specs.cpp_tree.Typing.{is_word_of}
use Rattle.elab_rules.specs.elab_ctx.Ctx.{Ctx, Work}
use Rattle.elab_rules.specs.Objects.{class_in}
use Rattle.elab_rules.specs.Names.{offset_of_member, members_in}
use Rattle.elab_fits.proofs.Objects.{Laid, laid_from, sized_from}
use Rattle.elab_fits.proofs.Sizes.{small_word}
use Rattle.elab_sound_types.specs.Contexts.{HasSoundTypes}
use Rattle.elab_fits_forms.specs.Types.{is_lambda, is_sound_form, IsWhole}
use Rattle.elab_contexts.specs.Holding.{UnitHolds}
use Rattle.elab_holds.specs.Contexts.{ClassesComplete}
use Rattle.elab_holds.proofs.Sound.{named_is, complete_found, not_true}
use Rattle.elab_holds.proofs.Order.{order_law}
use Rattle.elab_holds.proofs.Ready.{named_ready, listed_ready}

-- Objects

pub class_at : (o : Option Class) (A : Type 0) → is_some (option_and_then (λ (c : Class). c.complete) o) ≡ true
    → ((k : Class) → o ≡ Some k → is_some k.complete ≡ true → A) → A
class_at None A h f = absurd cc
class_at (Some k) A h f = f k refl h

pub class_sized : (c : Ctx) → UnitHolds c → (n : ℕ) → is_some (completion_of c.classes n) ≡ true → is_some (size_in c.classes (plain (class n))) ≡ true
class_sized c u n h = class_at (slice_get c.classes n) (is_some (size_in c.classes (plain (class n))) ≡ true) h (λ k e q. u.sized n k e q)

form_whole : (c : Ctx) (w : Work) → UnitHolds c → HasSoundTypes c w → (n : ℕ) → is_some (completion_of c.classes n) ≡ true → (f : Form) (q v : Bool)
    → class_in f ≡ Some n → is_sound_form c.classes f ≡ true → IsWhole c.classes (typ f q v)
form_whole c w u h n k (class m) q v e i =
    let z : is_some (completion_of c.classes m) ≡ true = subst (λ j. is_some (completion_of c.classes j) ≡ true) (sym (same_Some m n e)) k in record {
      sized = class_sized c u m z;
      ready = named_ready c w u h (typ (class m) q v) (named_is c.classes m (not_true (is_lambda c.classes m) i) (complete_found c.classes m z));
    }
form_whole c w u h n k (closure m) q v e i =
    let z : is_some (completion_of c.classes m) ≡ true = subst (λ j. is_some (completion_of c.classes j) ≡ true) (sym (same_Some m n e)) k in record {
      sized = class_sized c u m z;
      ready = listed_ready c w u h (typ (closure m) q v) (complete_found c.classes m z);
    }
form_whole c w u h n k void q v e i = absurd cc
form_whole c w u h n k (int j) q v e i = absurd cc
form_whole c w u h n k (enum x s) q v e i = absurd cc
form_whole c w u h n k null q v e i = absurd cc
form_whole c w u h n k (ptr t) q v e i = absurd cc
form_whole c w u h n k (ref t) q v e i = absurd cc
form_whole c w u h n k (array t j) q v e i = absurd cc
form_whole c w u h n k (func s) q v e i = absurd cc
form_whole c w u h n k (tx_ex t) q v e i = absurd cc

-- Offsets

class_end : (cs : List Class) → InOrder cs → (n : ℕ) (l : Laid cs n) → end_from 0 (items_of (class_extent cs) cs n l.owner) ≤ (class_extent cs n).size
class_end cs o n l =
    let items : List Extent = items_of (class_extent cs) cs n l.owner in
    let w : (class_extent cs n).size ≡ max 1 (next_multiple (end_from 0 items) (greatest_align items)) =
    ap (λ (e : Extent). e.size) (class_whole cs o n l.number l.owner l.found l.complete) in
    let h = next_low (end_from 0 items) (greatest_align items) (greatest_low items) in
    omega arith

member_start : (cs : List Class) (s : ℕ) (ms : List Member) (i : ℕ) (m : Member) → slice_get ms i ≡ Some m
    → next_multiple (end_from s (member_extents cs (take i ms))) (member_extent (class_extent cs) m).align ≤ end_from s (member_extents cs ms)
member_start cs s [] i m h = absurd cc
member_start cs s (x ∷ ms) zero m h =
    let e : Extent = member_extent (class_extent cs) x in
    let l = end_low (next_multiple s e.align + e.size) (member_extents cs ms) (extents_aligned cs ms) in
    subst (λ (z : Member). next_multiple s (member_extent (class_extent cs) z).align ≤ end_from s (member_extents cs (x ∷ ms))) (same_Some x m h) (omega arith)
member_start cs s (x ∷ ms) (suc i) m h = let e : Extent = member_extent (class_extent cs) x in
    member_start cs (next_multiple s e.align + e.size) ms i m h

offset_within : (cs : List Class) → InOrder cs → (n : ℕ) (l : Laid cs n) (i : ℕ) (m : Member) → slice_get l.owner.members i ≡ Some m
    → member_offset cs n l.owner i m ≤ 1048576
offset_within cs o n l i m h =
    let w = l.within in
    let e = class_end cs o n l in
    let head : List Extent = head_items (class_extent cs) cs n l.owner in
    let a = end_append 0 head (member_extents cs l.owner.members) in
    let b = member_start cs (end_from 0 head) l.owner.members i m h in
    let d = end_append 0 head (member_extents cs (take i l.owner.members)) in
    subst (λ (z : ℕ). next_multiple z (member_extent (class_extent cs) m).align ≤ 1048576) (sym d) (omega arith)

offset_word : (cs : List Class) → InOrder cs → (n : ℕ) (l : Laid cs n) (i : ℕ) (o : Option Class) → slice_get cs n ≡ o
    → is_word_of ULong (offset_of_member cs n o i (slice_get (members_in o) i)) ≡ true
offset_word cs o n l i None e = small_word 0 refl
offset_word cs o n l i (Some k) e = by (slice_get k.members i) refl
  where
    by : (x : Option Member) → slice_get k.members i ≡ x → is_word_of ULong (offset_of_member cs n (Some k) i x) ≡ true
    by None q = small_word 0 refl
    by (Some m) q = let f : l.owner ≡ k = same_Some l.owner k (sym l.found ∙ e) in
        small_word (member_offset cs n k i m) (le-leb (member_offset cs n k i m) 1048576
        (subst (λ (z : Class). member_offset cs n z i m ≤ 1048576) f (offset_within cs o n l i m (ap (λ (z : Class). slice_get z.members i) f ∙ q))))

pub complete_law : ClassesComplete
complete_law c w n u h k = record {
  whole = form_whole c w u h n k;
  offsets = λ i. offset_word c.classes (order_law c w u h) n
      (laid_from c.classes n false false (sized_from c.classes (plain (class n)) (class_sized c u n k))) i (slice_get c.classes n) refl;
}
