-- The type of an array's elements is ready where the array's is.
use Rattle.std.proofs.Common.{◌≡◌, refl, sym, ap, subst, ℕ, ◌<◌, Bool, true, false, ◌&&◌, nat_lt, List, length, is_some, ltb-true}
use Rattle.std.proofs.lemmas.Bool.{and_parts}
use Rattle.elab_rules.specs.cpp_types.Typ.{Typ, typ, Form, void, int, enum, null, ptr, ref, array, func, class, closure, tx_ex}
use Rattle.elab_rules.specs.cpp_types.Class.{Class}
use Rattle.elab_rules.specs.cpp_tree.Typing.{form_in}
use Rattle.elab_rules.specs.Objects.{element_of, is_array}
use Rattle.elab_fits.specs.Objects.{typ_ready, class_ready, is_closure, ElementsReady}
use Rattle.elab_fits.proofs.Objects.{Sized, sized_from, size_is, element_sized}
use Rattle.elab_fits.proofs.Wholes.{qualified_none}

record IsElement (classes : List Class) (p : ℕ → Bool) (r : Bool) (t : Typ) : Type 0 where
  sized : Sized classes t
  ready : typ_ready p r t ≡ true
  single : is_array t ≡ false

moved : (classes : List Class) (f : Form) (c v d w : Bool) → Sized classes (typ f c v) → Sized classes (typ f d w)
moved classes f c v d w z = record { complete = z.complete; within = z.within }

element_is : (classes : List Class) (p : ℕ → Bool) (r : Bool) (t : Typ) → Sized classes t → typ_ready p r t ≡ true → IsElement classes p r (element_of t)
element_is classes p r (typ void c v) z h = absurd cc
element_is classes p r (typ (int k) c v) z h = record { sized = moved classes (int k) c v _ _ z; ready = refl; single = refl }
element_is classes p r (typ (enum n s) c v) z h = record { sized = moved classes (enum n s) c v _ _ z; ready = refl; single = refl }
element_is classes p r (typ null c v) z h = record { sized = moved classes null c v _ _ z; ready = refl; single = refl }
element_is classes p r (typ (ptr t) c v) z h = record { sized = moved classes (ptr t) c v _ _ z; ready = refl; single = refl }
element_is classes p r (typ (ref t) false false) z h = record { sized = z; ready = h; single = refl }
element_is classes p r (typ (ref t) true v) z h = let q = (and_parts r false h).1 in absurd cc
element_is classes p r (typ (ref t) false true) z h = let q = (and_parts r false h).1 in absurd cc
element_is classes p r (typ (array t n) false false) z h =
    let a = and_parts (nat_lt 0 n) (typ_ready p r t) h in
    let l : 0 < n = ltb-true 0 n a.0 in
    subst (λ (u : Typ). IsElement classes p r u) (sym (qualified_none (element_of t)))
    (element_is classes p r t (element_sized classes t n false false l z) a.1)
element_is classes p r (typ (array t n) true v) z h = absurd cc
element_is classes p r (typ (array t n) false true) z h = absurd cc
element_is classes p r (typ (func s) c v) z h = absurd cc
element_is classes p r (typ (class n) c v) z h = record { sized = moved classes (class n) c v _ _ z; ready = h; single = refl }
element_is classes p r (typ (closure n) c v) z h = record { sized = moved classes (closure n) c v _ _ z; ready = h; single = refl }
element_is classes p r (typ (tx_ex t) c v) z h = tx_element t c v z h
  where
    tx_element : (t : Typ) (c v : Bool) → Sized classes (typ (tx_ex t) c v) → typ_ready p r (typ (tx_ex t) c v) ≡ true
        → IsElement classes p r (element_of (typ (tx_ex t) c v))
    tx_element (typ f d w) c v z h = record { sized = moved classes (tx_ex (typ f d w)) c v _ _ z; ready = h; single = refl }

pub elements_law : ElementsReady
elements_law classes r t z h =
    let e = element_is classes (class_ready (length classes) classes r) r t (sized_from classes t z) h in
    record {
      sized = ap is_some (size_is classes (element_of t) e.sized);
      ready = e.ready;
      single = ap (λ (b : Bool). b && is_closure (form_in (element_of (element_of t)))) e.single;
    }
