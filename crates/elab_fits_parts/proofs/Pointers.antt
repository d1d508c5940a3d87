-- Class pointers lie at words.
use Rattle.std.proofs.Common.{◌≡◌, refl, sym, ap, subst, ℕ, zero, suc, ◌+◌, ◌≤◌, max, Bool, true, false, List, ◌∷◌, ◌++◌, Option, Some, None, is_some}
use Rattle.std.proofs.Common.{arith, le-leb}
use Rattle.std.specs.Prelude.{if◌then◌else◌}
use Rattle.std.proofs.lemmas.Option.{same_Some}
use Rattle.elab_rules.specs.tx_ints.declared.kinds.IntKind.TheVariants.{ULong}
use Rattle.elab_rules.specs.cpp_types.Class.{Class, InOrder, base_of, completion_of}
use Rattle.elab_rules.specs.cpp_types.Conversion.{chain, first_and}
use Rattle.elab_rules.proofs.cpp_types.Bases.{base_is_earlier}
use Rattle.elab_rules.specs.cpp_layout.Layout.{Extent, class_extent, base_items, pointer_items, items_of, has_class_pointer, end_from, greatest_align, next_multiple}
use Rattle.elab_rules.specs.cpp_layout.Measured.{member_extents}
use Rattle.elab_rules.proofs.cpp_layout.Ends.{next_low, end_low, end_append, greatest_low}
use Rattle.elab_rules.proofs.cpp_layout.Nesting.{class_whole, extents_aligned}
use Rattle.elab_rules.specs.cpp_tree.Typing.{is_word_of}
use Rattle.elab_rules.specs.Calls.{pointer_offset, pointer_along, own_pointer_offset, base_of_class}
use Rattle.elab_fits.proofs.Objects.{Laid}
use Rattle.elab_fits.proofs.Sizes.{small_word}

module _ (cs : List Class) (o : InOrder cs) (laid : (n : ℕ) → is_some (completion_of cs n) ≡ true → Laid cs n) where
  class_end : (n : ℕ) (l : Laid cs n) → end_from 0 (items_of (class_extent cs) cs n l.owner) ≤ (class_extent cs n).size
  class_end n l =
      let items : List Extent = items_of (class_extent cs) cs n l.owner in
      let w : (class_extent cs n).size ≡ max 1 (next_multiple (end_from 0 items) (greatest_align items)) =
      ap (λ (e : Extent). e.size) (class_whole cs o n l.number l.owner l.found l.complete) in
      let h = next_low (end_from 0 items) (greatest_align items) (greatest_low items) in
      omega arith

  -- the pointer stands behind the base and before the members
  pointer_within : (n : ℕ) (l : Laid cs n) → has_class_pointer cs n ≡ true
      → next_multiple (end_from 0 (base_items (class_extent cs) l.owner.base)) 8 ≤ 1048576
  pointer_within n l h =
      let base : List Extent = base_items (class_extent cs) l.owner.base in
      let w = l.within in
      let e = class_end n l in
      let a = end_append 0 (base ++ pointer_items (has_class_pointer cs n)) (member_extents cs l.owner.members) in
      let b = end_low (end_from 0 (base ++ pointer_items (has_class_pointer cs n))) (member_extents cs l.owner.members)
      (extents_aligned cs l.owner.members) in
      let d = end_append 0 base (pointer_items (has_class_pointer cs n)) in
      let p : end_from (end_from 0 base) (pointer_items (has_class_pointer cs n)) ≡ next_multiple (end_from 0 base) 8 + 8 =
      ap (λ (x : Bool). end_from (end_from 0 base) (pointer_items x)) h in
      omega arith

  own_word : (n : ℕ) (l : Laid cs n) → has_class_pointer cs n ≡ true → is_word_of ULong (own_pointer_offset cs n) ≡ true
  own_word n l h = small_word (own_pointer_offset cs n) (le-leb (own_pointer_offset cs n) 1048576
      (subst (λ (b : Option ℕ). next_multiple (end_from 0 (base_items (class_extent cs) b)) 8 ≤ 1048576) (sym (ap base_of_class l.found))
      (pointer_within n l h)))

  own_or : (n : ℕ) (rest : Option ℕ) (x : ℕ) → is_some (completion_of cs n) ≡ true → (rest ≡ Some x → is_word_of ULong x ≡ true)
      → (if has_class_pointer cs n then Some (own_pointer_offset cs n) else rest) ≡ Some x → is_word_of ULong x ≡ true
  own_or n rest x k f h = by (has_class_pointer cs n) refl h
    where
      by : (b : Bool) → has_class_pointer cs n ≡ b → (if b then Some (own_pointer_offset cs n) else rest) ≡ Some x → is_word_of ULong x ≡ true
      by true e q = subst (λ (y : ℕ). is_word_of ULong y ≡ true) (same_Some (own_pointer_offset cs n) x q) (own_word n (laid n k) e)
      by false e q = f q

  next : (n : ℕ) → is_some (completion_of cs n) ≡ true → (x : ℕ) (rest : ℕ → List ℕ)
      → ((b : ℕ) → is_some (completion_of cs b) ≡ true → pointer_along cs (b ∷ rest b) ≡ Some x → is_word_of ULong x ≡ true)
      → pointer_along cs (first_and (base_of cs n) rest) ≡ Some x → is_word_of ULong x ≡ true
  next n k x rest f h = by (completion_of cs n) refl k (base_of cs n) refl h
    where
      by : (c : Option ℕ) → completion_of cs n ≡ c → is_some c ≡ true → (b : Option ℕ) → base_of cs n ≡ b → pointer_along cs (first_and b rest) ≡ Some x
          → is_word_of ULong x ≡ true
      by None e i b g q = absurd cc
      by (Some j) e i None g q = absurd cc
      by (Some j) e i (Some b) g q = f b (ap is_some (base_is_earlier cs n b j o g e).complete) q

  along : (most n x : ℕ) → is_some (completion_of cs n) ≡ true → pointer_along cs (n ∷ chain most cs n) ≡ Some x → is_word_of ULong x ≡ true
  along zero n x k h = own_or n None x k (λ q. absurd cc) h
  along (suc most) n x k h = own_or n (pointer_along cs (chain (suc most) cs n)) x k
      (λ q. next n k x (chain most cs) (λ b i z. along most b x i z) q) h

  pub pointer_word : (n x : ℕ) → is_some (completion_of cs n) ≡ true → pointer_offset cs n ≡ Some x → is_word_of ULong x ≡ true
  pointer_word n x k h = along _ n x k h
