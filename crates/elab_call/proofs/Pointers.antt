-- Where the base of a class ends, and class pointers along a chain.
use Rattle.std.proofs.Common.{◌≡◌, ℕ, zero, suc, ◌+◌, ◌-◌, ◌*◌, ◌<◌, true, false, List, [], ◌∷◌, Option, Some, Result, Ok, Err, IfOk, sym, ap, ◌∙◌, arith}
use Rattle.std.proofs.Common.{slice_get}
use Rattle.std.proofs.Math.Nat.{div-eq_of_lt}
use Rattle.cpp_types.specs.Class.{Class}
use Rattle.elab_make.specs.cpp_layout.Layout.{next_multiple, Extent, end_from, has_class_pointer, base_items, class_extent}
use Rattle.elab_make.specs.elab_rules.Calls.{pointer_along, own_pointer_offset, base_of_class}
use Rattle.elab_call.specs.Slots.{end_of_base}

-- nothing stands before the first item
first_at_zero : (a : ℕ) → next_multiple 0 a ≡ 0
first_at_zero zero = omega arith
first_at_zero (suc b) =
    let low : 0 + (suc b - 1) < suc b = omega arith in
    ap (λ (z : ℕ). z * suc b) (div-eq_of_lt low) ∙ omega arith

pub one_item_ends : (e : Extent) → end_from 0 (e ∷ []) ≡ e.size
one_item_ends e = let h = first_at_zero e.align in omega (arith, h)

-- One class of a chain: it has the class pointer, or the ones above it are looked at
pub along_found : (classes : List Class) (n : ℕ) (ns : List ℕ) → has_class_pointer classes n ≡ true
    → pointer_along classes (n ∷ ns) ≡ Some (own_pointer_offset classes n)
along_found classes n ns e = simp e

pub along_next : (classes : List Class) (n : ℕ) (ns : List ℕ) → has_class_pointer classes n ≡ false → pointer_along classes (n ∷ ns) ≡ pointer_along classes ns
along_next classes n ns e = simp e

-- the base is all that stands there
pub base_ends : (classes : List Class) (n base : ℕ) (k : Class) → slice_get classes n ≡ Some k → k.base ≡ Some base
    → (class_extent classes base).size ≡ end_of_base classes n
base_ends classes n base k h e = sym (ap (λ (z : Option Class). end_from 0 (base_items (class_extent classes) (base_of_class z))) h ∙ ap
    (λ (z : Option ℕ). end_from 0 (base_items (class_extent classes) z)) e ∙ one_item_ends (class_extent classes base))

-- an answer about an equal number
pub same_number_ok : {E : Type 0} (r : Result ℕ E) (m n : ℕ) → m ≡ n → IfOk r (λ k. k ≡ m) → IfOk r (λ k. k ≡ n)
same_number_ok (Ok k) m n e h = h ∙ e
same_number_ok (Err x) m n e h = tt
