-- Complete classes are laid out as before where classes have grown.
use Rattle.std.proofs.Common.{◌≡◌, refl, sym, ap, ◌∙◌, subst, ℕ, zero, suc, Bool, true, not, ◌&&◌, ◌||◌, List, [], ◌∷◌, ◌++◌, map, take, slice_get}
use Rattle.std.proofs.Common.{Option, Some, None, is_some, option_and_then, unwrap_or, cond}
use Rattle.std.proofs.lemmas.List.{take-map}
use Rattle.std.proofs.lemmas.Option.{same_Some}
use Rattle.std.specs.List.{list_any}
use Rattle.cpp_types.specs.Typ.{Typ, typ}
use Rattle.cpp_types.specs.Class.{Class, Member, CompleteBelow, HoldsEarlier, completion_of, base_of, held, held_form}
use Rattle.cpp_types.specs.Conversion.{first_and, chain, bases, form_of}
use Rattle.cpp_types.specs.Order.{each_passes}
use Rattle.cpp_layout.specs.Layout.{Extent, form_extent, member_extent, base_items, pointer_items, has_virtual, has_class_pointer, functions_of}
use Rattle.cpp_layout.specs.Layout.{is_virtual_function, head_items, items_of, whole, record_extent, extent_within, class_extent, extent_of, offset_after}
use Rattle.cpp_layout.specs.Measured.{member_offset, member_extents}
use Rattle.cpp_layout.proofs.Forms.{form_agrees}
use Rattle.cpp_tree.specs.Typing.{form_in}
use Rattle.cpp_tree.specs.Parts.{holds_complete}
use Rattle.setting_growth.specs.Growth.{HeldEarlier, ClassesGrow}
use Rattle.setting_growth.proofs.Still.{is_there}

-- Complete classes

pub record Known (classes : List Class) (n : ℕ) : Type 0 where
  pub number : ℕ
  pub owner : Class
  pub found : slice_get classes n ≡ Some owner
  pub complete : owner.complete ≡ Some number

known_in : (classes : List Class) (n k : ℕ) (o : Option Class) → slice_get classes n ≡ o → option_and_then (λ (c : Class). c.complete) o ≡ Some k
    → Known classes n
known_in classes n k None e h = absurd cc
known_in classes n k (Some c) e h = record { number = k; owner = c; found = e; complete = h }

pub known_by : (classes : List Class) (n k : ℕ) → completion_of classes n ≡ Some k → Known classes n
known_by classes n k h = known_in classes n k (slice_get classes n) refl h

pub known_if : (classes : List Class) (n : ℕ) → is_some (completion_of classes n) ≡ true → Known classes n
known_if classes n h = let p = is_there (completion_of classes n) h in known_by classes n p.0 p.1

pub completion_is : (classes : List Class) (n : ℕ) (k : Known classes n) → completion_of classes n ≡ Some k.number
completion_is classes n k = ap (option_and_then (λ (c : Class). c.complete)) k.found ∙ k.complete

pub known_below : (classes : List Class) (k n : ℕ) → CompleteBelow classes k n → Known classes n
known_below classes k n b = known_by classes n b.number b.complete

-- the class that is found there is the one that is complete
abbrev pub known_as : (classes : List Class) (n : ℕ) (c : Class) → Known classes n → slice_get classes n ≡ Some c → Known classes n
known_as classes n c k h = record {
  number = k.number;
  owner = c;
  found = h;
  complete = ap (λ (x : Class). x.complete) (same_Some c k.owner (sym h ∙ k.found)) ∙ k.complete;
}

known_one : (classes : List Class) (o : Option ℕ) (e : ℕ) → each_passes (λ (n : ℕ). is_some (completion_of classes n)) o ≡ true → o ≡ Some e
    → Known classes e
known_one classes None e h q = absurd cc
known_one classes (Some x) e h q = subst (Known classes) (same_Some x e q) (known_if classes x h)

held_in : (t : Typ) → held_form (form_in t) ≡ held t
held_in (typ f c v) = refl

-- the class that a value of the type holds, if it holds one, is complete
abbrev pub AllKnown : List Class → Typ → Type 0
AllKnown classes t = (e : ℕ) → held t ≡ Some e → Known classes e

pub all_known : (classes : List Class) (t : Typ) → holds_complete classes (form_in t) ≡ true → AllKnown classes t
all_known classes t h = λ e q. known_one classes (held_form (form_in t)) e h (held_in t ∙ q)

holds_one : (classes : List Class) (o : Option ℕ) → ((e : ℕ) → o ≡ Some e → Known classes e)
    → each_passes (λ (n : ℕ). is_some (completion_of classes n)) o ≡ true
holds_one classes None h = refl
holds_one classes (Some e) h = ap is_some (completion_is classes e (h e refl))

pub holds_known : (classes : List Class) (t : Typ) → AllKnown classes t → holds_complete classes (form_in t) ≡ true
holds_known classes t h = holds_one classes (held_form (form_in t)) (λ e q. h e (sym (held_in t) ∙ q))

-- Extents by those of classes

typ_agrees : (g h : ℕ → Extent) (t : Typ) → ((e : ℕ) → held t ≡ Some e → g e ≡ h e) → form_extent g (form_of t) ≡ form_extent h (form_of t)
typ_agrees g h (typ f c v) p = form_agrees g h f p

members_agree : (g h : ℕ → Extent) (ms : List Member) → ((i : ℕ) (m : Member) → slice_get ms i ≡ Some m → (e : ℕ) → held m.typ ≡ Some e → g e ≡ h e)
    → map (member_extent g) ms ≡ map (member_extent h) ms
members_agree g h [] p = refl
members_agree g h (m ∷ ms) p =
    ap (λ (x : Extent). x ∷ map (member_extent g) ms) (typ_agrees g h m.typ (p 0 m refl))
    ∙ ap (λ (xs : List Extent). member_extent h m ∷ xs) (members_agree g h ms (λ i k q. p (suc i) k q))

base_agrees : (g h : ℕ → Extent) (b : Option ℕ) → ((e : ℕ) → b ≡ Some e → g e ≡ h e) → base_items g b ≡ base_items h b
base_agrees g h None p = refl
base_agrees g h (Some b) p = ap (λ (x : Extent). x ∷ []) (p b refl)

first_same : (x : Option ℕ) (f g : ℕ → List ℕ) → ((b : ℕ) → x ≡ Some b → f b ≡ g b) → first_and x f ≡ first_and x g
first_same None f g h = refl
first_same (Some b) f g h = ap (λ (z : List ℕ). b ∷ z) (h b refl)

first_any : (p q : ℕ → Bool) (x : Option ℕ) (f : ℕ → List ℕ) → ((b : ℕ) → x ≡ Some b → p b ≡ q b)
    → ((b : ℕ) → x ≡ Some b → list_any p (f b) ≡ list_any q (f b)) → list_any p (first_and x f) ≡ list_any q (first_and x f)
first_any p q None f h i = refl
first_any p q (Some b) f h i = ap (λ (z : Bool). z || list_any p (f b)) (h b refl) ∙ ap (λ (z : Bool). q b || z) (i b refl)

-- Where classes have grown

module _ (old new : List Class) (g : ClassesGrow old new) where
  pub class_same : (n : ℕ) → Known old n → slice_get new n ≡ slice_get old n
  class_same n k = g.complete n k.number k.owner k.found k.complete ∙ sym k.found

  abbrev pub known_still : (n : ℕ) → Known old n → Known new n
  known_still n k = record { number = k.number; owner = k.owner; found = g.complete n k.number k.owner k.found k.complete; complete = k.complete }

  pub completion_same : (n : ℕ) → Known old n → completion_of new n ≡ completion_of old n
  completion_same n k = ap (option_and_then (λ (c : Class). c.complete)) (class_same n k)

  base_same : (n : ℕ) → Known old n → base_of new n ≡ base_of old n
  base_same n k = ap (option_and_then (λ (c : Class). cond (is_some c.complete) c.base None)) (class_same n k)

  virtual_same : (n : ℕ) → Known old n → has_virtual new n ≡ has_virtual old n
  virtual_same n k = ap (λ (o : Option Class). list_any is_virtual_function (functions_of o)) (class_same n k)

  pub holds_still : (t : Typ) → holds_complete old (form_in t) ≡ true → holds_complete new (form_in t) ≡ true
  holds_still t h = holds_known new t (λ e q. known_still e (all_known old t h e q))

  module _ (o : HeldEarlier old) where
    pub earlier : (n : ℕ) (k : Known old n) → HoldsEarlier old k.number k.owner
    earlier n k = o.earlier n k.owner k.number k.found k.complete

    pub base_known : (n : ℕ) (k : Known old n) (b : ℕ) → k.owner.base ≡ Some b → Known old b
    base_known n k b h = known_below old k.number b ((earlier n k).base b h)

    pub member_known : (n : ℕ) (k : Known old n) (i : ℕ) (m : Member) → slice_get k.owner.members i ≡ Some m → AllKnown old m.typ
    member_known n k i m h = λ e q. known_below old k.number e ((earlier n k).members i m h e q)

    base_is : (n : ℕ) (k : Known old n) → base_of old n ≡ k.owner.base
    base_is n k = ap (option_and_then (λ (c : Class). cond (is_some c.complete) c.base None)) k.found
        ∙ ap (λ (z : Option ℕ). cond (is_some z) k.owner.base None) k.complete

    next_known : (n b : ℕ) → Known old n → base_of old n ≡ Some b → Known old b
    next_known n b k h = base_known n k b (sym (base_is n k) ∙ h)

    -- Bases

    chain_same : (m n : ℕ) → Known old n → chain m new n ≡ chain m old n
    chain_same zero n k = refl
    chain_same (suc m) n k = ap (λ (z : Option ℕ). first_and z (chain m new)) (base_same n k)
        ∙ first_same (base_of old n) (chain m new) (chain m old) (λ b e. chain_same m b (next_known n b k e))

    pub bases_same : (n : ℕ) → Known old n → bases new n ≡ bases old n
    bases_same n k = ap (λ (z : Option ℕ). chain (unwrap_or z 0) new n) (completion_same n k) ∙ chain_same (unwrap_or (completion_of old n) 0) n k

    chain_any : (p q : ℕ → Bool) → ((b : ℕ) → Known old b → p b ≡ q b) → (m n : ℕ) → Known old n
        → list_any p (chain m old n) ≡ list_any q (chain m old n)
    chain_any p q h zero n k = refl
    chain_any p q h (suc m) n k = first_any p q (base_of old n) (chain m old) (λ b e. h b (next_known n b k e))
        (λ b e. chain_any p q h m b (next_known n b k e))

    -- what is the same of each complete class is the same of all bases
    pub bases_any : (p q : ℕ → Bool) → ((b : ℕ) → Known old b → p b ≡ q b) → (n : ℕ) → Known old n → list_any p (bases new n) ≡ list_any q (bases old n)
    bases_any p q h n k = ap (list_any p) (bases_same n k) ∙ chain_any p q h (unwrap_or (completion_of old n) 0) n k

    pub pointer_same : (n : ℕ) → Known old n → has_class_pointer new n ≡ has_class_pointer old n
    pointer_same n k =
        ap (λ (z : Bool). z && not (list_any (has_virtual new) (bases new n))) (virtual_same n k)
        ∙ ap (λ (z : Bool). has_virtual old n && not z) (bases_any (has_virtual new) (has_virtual old) virtual_same n k)

    -- Extents

    module _ (f h : ℕ → Extent) (same : (e : ℕ) → Known old e → f e ≡ h e) where
      head_same : (n : ℕ) (k : Known old n) → head_items f new n k.owner ≡ head_items h old n k.owner
      head_same n k =
          ap (λ (z : Bool). base_items f k.owner.base ++ pointer_items z) (pointer_same n k)
          ∙ ap (λ (z : List Extent). z ++ pointer_items (has_class_pointer old n))
          (base_agrees f h k.owner.base (λ e q. same e (base_known n k e q)))

      rest_same : (n : ℕ) (k : Known old n) → map (member_extent f) k.owner.members ≡ map (member_extent h) k.owner.members
      rest_same n k = members_agree f h k.owner.members (λ i m q e r. same e (member_known n k i m q e r))

      items_same : (n : ℕ) (k : Known old n) → items_of f new n k.owner ≡ items_of h old n k.owner
      items_same n k = ap (λ (z : List Extent). z ++ map (member_extent f) k.owner.members) (head_same n k)
          ∙ ap (λ (z : List Extent). head_items h old n k.owner ++ z) (rest_same n k)

    within_same : (d n : ℕ) → Known old n → extent_within d new n ≡ extent_within d old n
    within_same zero n k = refl
    within_same (suc d) n k =
        ap (record_extent (extent_within d new) new n) (g.complete n k.number k.owner k.found k.complete)
        ∙ ap whole (items_same (extent_within d new) (extent_within d old) (λ e x. within_same d e x) n k)
        ∙ sym (ap (record_extent (extent_within d old) old n) k.found)

    pub extent_same : (n : ℕ) → Known old n → class_extent new n ≡ class_extent old n
    extent_same n k = ap (λ (z : Option ℕ). extent_within (suc (unwrap_or z 0)) new n) (completion_same n k)
        ∙ within_same (suc (unwrap_or (completion_of old n) 0)) n k

    pub typ_same : (t : Typ) → AllKnown old t → extent_of new t ≡ extent_of old t
    typ_same t h = typ_agrees (class_extent new) (class_extent old) t (λ e q. extent_same e (h e q))

    -- Members

    front_same : (n : ℕ) (k : Known old n) (i : ℕ) → member_extents new (take i k.owner.members) ≡ member_extents old (take i k.owner.members)
    front_same n k i = sym (take-map (member_extent (class_extent new)) i k.owner.members)
        ∙ ap (take i) (rest_same (class_extent new) (class_extent old) extent_same n k)
        ∙ take-map (member_extent (class_extent old)) i k.owner.members

    pub offset_same : (n : ℕ) (k : Known old n) (i : ℕ) (m : Member) → slice_get k.owner.members i ≡ Some m
        → member_offset new n k.owner i m ≡ member_offset old n k.owner i m
    offset_same n k i m q =
        ap (λ (z : List Extent). offset_after (z ++ member_extents new (take i k.owner.members)) (member_extent (class_extent new) m))
        (head_same (class_extent new) (class_extent old) extent_same n k)
        ∙ ap (λ (z : List Extent). offset_after (head_items (class_extent old) old n k.owner ++ z) (member_extent (class_extent new) m)) (front_same n k i)
        ∙ ap (offset_after (head_items (class_extent old) old n k.owner ++ member_extents old (take i k.owner.members)))
        (typ_same m.typ (member_known n k i m q))
