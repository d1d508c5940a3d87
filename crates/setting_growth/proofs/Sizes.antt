-- Sizes, and where parts lie, are as before where classes have grown.
use Rattle.std.proofs.lemmas.Option.{same_Some}
use Rattle.std.proofs.Common.{◌≡◌, refl, sym, ap, ◌∙◌, subst, ℕ, zero, suc, ◌==◌, Bool, true, false, nat_lt, List, slice_get}
use Rattle.std.proofs.Common.{Option, Some, None, is_some, option_and_then, option_map, unwrap_or, cond}
use Rattle.cpp_types.specs.Typ.{Typ, typ, class}
use Rattle.cpp_types.specs.Class.{Class, Member, CompleteBelow, held}
use Rattle.cpp_layout.specs.Layout.{Extent, extent_of}
use Rattle.cpp_layout.specs.Measured.{member_offset}
use Rattle.cpp_tree.specs.Typing.{form_in, passes}
use Rattle.cpp_tree.specs.Parts.{holds_complete, within_limit, size_in, has_size, sized_class, Part, member_part, part_behind, part_in, part_of, parts_in}
use Rattle.cpp_tree.specs.Parts.{count_of_parts, stride_of}
use Rattle.setting_growth.specs.Growth.{HeldEarlier, ClassesGrow}
use Rattle.setting_growth.proofs.Still.{Still, kept, same, map_same, then_same, is_there, cond_first, mapped}
use Rattle.setting_growth.proofs.Classes.{Known, known_as, known_if, AllKnown, all_known, holds_known, known_still, class_same, typ_same}
use Rattle.setting_growth.proofs.Classes.{earlier, offset_same}

-- what has a size holds a complete class, if it holds one
pub size_holds : (classes : List Class) (t : Typ) (n : ℕ) → size_in classes t ≡ Some n → holds_complete classes (form_in t) ≡ true
size_holds classes t n h = (cond_first (holds_complete classes (form_in t)) (within_limit (extent_of classes t).size) n h).0

pub size_known : (classes : List Class) (t : Typ) (n : ℕ) → size_in classes t ≡ Some n → AllKnown classes t
size_known classes t n h = all_known classes t (size_holds classes t n h)

-- a class of that number holds itself
class_known : (classes : List Class) (n : ℕ) → holds_complete classes (form_in (typ (class n) false false)) ≡ true → Known classes n
class_known classes n h = known_if classes n h

pub sized_known : (classes : List Class) (n : ℕ) → is_some (sized_class classes n) ≡ true → Known classes n
sized_known classes n h =
    let c = is_there (sized_class classes n) h in
    let a = cond_first (is_some (size_in classes (typ (class n) false false))) (slice_get classes n) c.0 c.1 in
    let s = is_there (size_in classes (typ (class n) false false)) a.0 in
    class_known classes n (size_holds classes (typ (class n) false false) s.0 s.1)

-- the complete class, where it is the one that has a size
abbrev pub sized_as : (classes : List Class) (n : ℕ) (c : Class) → Known classes n → sized_class classes n ≡ Some c → Known classes n
sized_as classes n c k h = known_as classes n c k (cond_first (is_some (size_in classes (typ (class n) false false))) (slice_get classes n) c h).1

pub one_known : (classes : List Class) (n : ℕ) → Known classes n → AllKnown classes (typ (class n) false false)
one_known classes n k = λ e q. subst (Known classes) (same_Some n e q) k

-- what a part holds was complete before `k` others were
pub record PartBelow (classes : List Class) (k : ℕ) (p : Part) : Type 0 where
  pub below : (e : ℕ) → held p.typ ≡ Some e → CompleteBelow classes k e

abbrev placed : List Class → ℕ → Class → ℕ → Member → Part
placed classes n c i m = record { offset = member_offset classes n c i m; typ = m.typ }

abbrev base_part : ℕ → Part
base_part b = record { offset = 0; typ = typ (class b) false false }

module _ (old new : List Class) (g : ClassesGrow old new) (o : HeldEarlier old) where
  -- Sizes

  pub size_same : (t : Typ) → AllKnown old t → size_in new t ≡ size_in old t
  size_same t h =
      ap (λ (b : Bool). cond b (within_limit (extent_of new t).size) None) (holds_known new t (λ e q. known_still old new g e (h e q)) ∙ sym (holds_known old t h))
      ∙ ap (λ (x : Extent). cond (holds_complete old (form_in t)) (within_limit x.size) None) (typ_same old new g o t h)

  pub size_still : (t : Typ) (n : ℕ) → size_in old t ≡ Some n → size_in new t ≡ Some n
  size_still t n h = size_same t (size_known old t n h) ∙ h

  pub sizes_still : (t : Typ) (p : ℕ → Bool) → Still (passes p (size_in old t)) (passes p (size_in new t))
  sizes_still t p = kept (size_in old t) (size_in new t) p p (λ n. size_still t n) (λ n e. same (p n))

  pub has_size_still : (t : Typ) (n : ℕ) → Still (has_size old t n) (has_size new t n)
  has_size_still t n = sizes_still t (λ (size : ℕ). size == n)

  pub stride_same : (t : Typ) → AllKnown old t → stride_of new t ≡ stride_of old t
  stride_same t h = ap (λ (x : Option ℕ). unwrap_or x 0) (size_same t h)

  pub sized_same : (n : ℕ) → Known old n → sized_class new n ≡ sized_class old n
  sized_same n k =
      ap (λ (x : Option ℕ). cond (is_some x) (slice_get new n) None) (size_same (typ (class n) false false) (one_known old n k))
      ∙ ap (λ (x : Option Class). cond (is_some (size_in old (typ (class n) false false))) x None) (class_same old new g n k)

  pub sized_still : (n : ℕ) → Still (is_some (sized_class old n)) (is_some (sized_class new n))
  sized_still n = record { up = λ h. ap is_some (sized_same n (sized_known old n h)) ∙ h }

  -- Parts

  place_same : (n : ℕ) (k : Known old n) (i : ℕ) → member_part new n k.owner i ≡ member_part old n k.owner i
  place_same n k i = ap (λ (x : Option Part). cond (nat_lt i 4294967296) x None) (map_same (placed new n k.owner i) (placed old n k.owner i)
      (slice_get k.owner.members i)
      (λ m e. ap (λ (x : ℕ). let p : Part = record { offset = x; typ = m.typ } in p) (offset_same old new g o n k i m e)))

  behind_same : (n : ℕ) (k : Known old n) (b : Option ℕ) (i : ℕ) → part_behind new n k.owner b i ≡ part_behind old n k.owner b i
  behind_same n k None i = place_same n k i
  behind_same n k (Some b) zero = refl
  behind_same n k (Some b) (suc i) = place_same n k i

  pub part_same : (n : ℕ) → Known old n → (i : ℕ) → part_of new n i ≡ part_of old n i
  part_same n k i =
      ap (option_and_then (part_in new n i)) (sized_same n k)
      ∙ then_same (part_in new n i) (part_in old n i) (sized_class old n) (λ c e. behind_same n (sized_as old n c k e) c.base i)

  pub count_same : (n : ℕ) → Known old n → count_of_parts new n ≡ count_of_parts old n
  count_same n k = ap (λ (x : Option Class). unwrap_or (option_map parts_in x) 0) (sized_same n k)

  -- a part is of a class that has a size
  pub part_known : (n i : ℕ) (p : Part) → part_of old n i ≡ Some p → Known old n
  part_known n i p h = sized_known old n (by (sized_class old n) h)
    where
      by : (x : Option Class) → option_and_then (part_in old n i) x ≡ Some p → is_some x ≡ true
      by None q = absurd cc
      by (Some c) q = refl

  pub part_still : (n i : ℕ) (p : Part) → part_of old n i ≡ Some p → part_of new n i ≡ Some p
  part_still n i p h = part_same n (part_known n i p h) i ∙ h

  -- What a part holds was complete before its class

  member_below : (n : ℕ) (k : Known old n) (i : ℕ) (p : Part) → member_part old n k.owner i ≡ Some p → PartBelow old k.number p
  member_below n k i p h =
      let c = cond_first (nat_lt i 4294967296) (option_map (placed old n k.owner i) (slice_get k.owner.members i)) p h in
      let m = mapped (placed old n k.owner i) (slice_get k.owner.members i) p c.1 in
      subst (PartBelow old k.number) m.2 (record { below = λ e q. (earlier old new g o n k).members i m.0 m.1 e q })

  behind_below : (n : ℕ) (k : Known old n) (b : Option ℕ) → k.owner.base ≡ b → (i : ℕ) (p : Part) → part_behind old n k.owner b i ≡ Some p
      → PartBelow old k.number p
  behind_below n k None f i p h = member_below n k i p h
  behind_below n k (Some b) f zero p h = subst (PartBelow old k.number) (same_Some (base_part b) p h)
      (record { below = λ e q. (earlier old new g o n k).base e (f ∙ q) })
  behind_below n k (Some b) f (suc i) p h = member_below n k i p h

  part_in_below : (n : ℕ) (k : Known old n) (i : ℕ) (p : Part) (x : Option Class) → sized_class old n ≡ x → option_and_then (part_in old n i) x ≡ Some p
      → PartBelow old k.number p
  part_in_below n k i p None e h = absurd cc
  part_in_below n k i p (Some c) e h = behind_below n (sized_as old n c k e) c.base refl i p h

  pub part_below : (n : ℕ) (k : Known old n) (i : ℕ) (p : Part) → part_of old n i ≡ Some p → PartBelow old k.number p
  part_below n k i p h = part_in_below n k i p (sized_class old n) refl h
