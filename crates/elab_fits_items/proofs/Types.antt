-- Types of items: objects of them can be made, and so can their elements and members.
use Rattle.std.proofs.Common.{◌≡◌, refl, sym, ap, ◌∙◌, ℕ, zero, suc, ◌+◌, ◌*◌, ◌<◌, ◌≤◌, Bool, true, false, not, ◌&&◌, ◌||◌, nat_le, nat_lt, List, [], ◌∷◌, ◌++◌}
use Rattle.std.proofs.Common.{length, slice_get, Option, Some, None, is_some, arith, ltb-true, lt-ltb, le-leb, option_and_then}
use Rattle.std.proofs.lemmas.Bool.{and_parts}
use Rattle.std.proofs.lemmas.Nat.{mul-le}
use Rattle.std.specs.List.{list_all}
use Rattle.elab_rules.specs.cpp_types.Typ.{Typ, typ, void, int, enum, null, ptr, ref, array, func, class, closure, tx_ex}
use Rattle.elab_rules.specs.cpp_types.Class.{Class, Member, completion_of}
use Rattle.elab_rules.specs.cpp_types.declared.classes.At.{At}
use Rattle.elab_rules.specs.cpp_layout.Measured.{member_offset}
use Rattle.elab_rules.specs.cpp_tree.Notation.{plain}
use Rattle.elab_rules.specs.cpp_tree.Typing.{form_in, qualified, is_reference}
use Rattle.elab_rules.specs.cpp_tree.Parts.{size_in, part_of, count_of_parts}
use Rattle.elab_rules.specs.cpp_tree.Rows.{Setting}
use Rattle.elab_rules.specs.elab_ctx.Ctx.{Ctx, Work}
use Rattle.elab_rules.specs.Objects.{Part, parts_in, members_from, base_part, element_of, is_array, size_of, destroys}
use Rattle.elab_rules.specs.Names.{members_in, offset_of_member, offset_at}
use Rattle.elab_fits.specs.Objects.{typ_ready, part_ready, class_ready, is_ready, is_closure, has_lambdas, DestroysOne}
use Rattle.elab_fits.proofs.Nodes.{both}
use Rattle.elab_fits.proofs.Objects.{Sized, size_is, qualified_sized, element_sized, Laid, member_sized, few_members, part_is, shown, count_is}
use Rattle.elab_fits.proofs.Wholes.{qualified_none}
use Rattle.elab_fits.proofs.Destructions.{destructions_law}
use Rattle.elab_fits_objects.specs.Contexts.{IsObjectTyp, IsInitialised}
use Rattle.elab_fits_objects.proofs.Captures.{qualified_ready, qualified_single}
use Rattle.elab_fits_objects.proofs.Types.{ready_more}
use Rattle.elab_fits_forms.specs.Types.{is_target, is_parameter, is_lambda}
use Rattle.elab_fits_forms.specs.Context.{Holds}
use Rattle.elab_fits_forms.proofs.Sources.{sorted_typ, parameter_is}
use Rattle.elab_fits_forms.proofs.Types.{target_sound, declared_target, qualified_target}
use Rattle.elab_fits_forms.proofs.Wholes.{exception_whole}
use Rattle.elab_fits_braces.proofs.Depth.{is_plain, all_plain, parts_plain, typ_held}
use Rattle.elab_fits_items.specs.Items.{MembersSingle}

-- an object that can be made item by item, or by an item
pub record IsItem (c : Ctx) (t : Typ) : Type 0 where
  pub target : is_target c.classes t ≡ true
  pub sized : Sized c.classes t
  pub ready : is_ready c.classes true t ≡ true
  pub single : has_lambdas t ≡ false

not_false : (b : Bool) → not b ≡ true → b ≡ false
not_false true h = absurd cc
not_false false h = refl

and_none : (a b : Bool) → b ≡ false → (a && b) ≡ false
and_none true b h = h
and_none false b h = refl

no_reference : (p : ℕ → Bool) (t : Typ) → typ_ready p false t ≡ true → is_reference t ≡ false
no_reference p (typ (ref t) q v) h = absurd cc
no_reference p (typ f q v) h = refl

pub no_flags : (a b c : Bool) → (not (a || b) && c) ≡ true → (a ≡ false) × (b ≡ false)
no_flags false false c h = (refl, refl)
no_flags true b c h = absurd cc
no_flags false true c h = absurd cc

-- an element of an array
pub record IsElementOf (c : Ctx) (e : Typ) (n : ℕ) (a b : Bool) : Type 0 where
  pub item : IsItem c e
  pub some : 0 < n
  pub const : a ≡ false
  pub volatile : b ≡ false

pub element_item : (c : Ctx) (e : Typ) (n : ℕ) (a b : Bool) → IsItem c (typ (array e n) a b) → IsElementOf c e n a b
element_item c e n a b i =
    let p : ℕ → Bool = class_ready (length c.classes) c.classes true in
    let x = and_parts (not (a || b)) (nat_lt 0 n && typ_ready (class_ready (length c.classes) c.classes true) true e) i.ready in
    let y = and_parts (nat_lt 0 n) (typ_ready (class_ready (length c.classes) c.classes true) true e) x.1 in
    let f = no_flags a b (nat_lt 0 n && typ_ready (class_ready (length c.classes) c.classes true) true e) i.ready in
    let l : 0 < n = ltb-true 0 n y.0 in
    let g : is_closure (form_in (element_of e)) ≡ false =
    ap (λ (u : Typ). is_closure (form_in u)) (sym (qualified_none (element_of e))) ∙ ap (λ (z : Bool). is_closure (form_in (qualified z false (element_of e)))) (sym f.0)
    ∙ ap (λ (z : Bool). is_closure (form_in (qualified a z (element_of e)))) (sym f.1) ∙ i.single in
    record {
      item = record {
        target = i.target;
        sized = element_sized c.classes e n a b (omega arith) i.sized;
        ready = y.1;
        single = and_none (is_array e) (is_closure (form_in (element_of e))) g;
      };
      some = l;
      const = f.0;
      volatile = f.1;
    }

-- so many elements of them
smaller : (classes : List Class) (e : Typ) (n m : ℕ) → m ≤ n → Sized classes (typ (array e n) false false) → Sized classes (plain (array e m))
smaller classes (typ f d w) n m l h =
    let s : ℕ = size_of classes (typ f d w) in
    let k : m * s ≤ n * s = mul-le m s n s l (omega arith) in
    let b : n * s ≤ 1048576 = h.within in
    record { complete = h.complete; within = omega arith }

pub fewer_item : (c : Ctx) (e : Typ) (n m : ℕ) → suc m ≤ n → IsItem c (typ (array e n) false false) → IsItem c (plain (array e (suc m)))
fewer_item c e n m l i =
    let y = and_parts (nat_lt 0 n) (typ_ready (class_ready (length c.classes) c.classes true) true e) i.ready in
    record {
      target = i.target;
      sized = smaller c.classes e n (suc m) l i.sized;
      ready = both (lt-ltb 0 (suc m) (omega arith)) y.1;
      single = i.single;
    }

element_offset : (classes : List Class) (e : Typ) (n i : ℕ) → i < n → Sized classes (typ (array e n) false false) → i * size_of classes e ≤ 1048576
element_offset classes (typ f d w) n i l h =
    let s : ℕ = size_of classes (typ f d w) in
    let k : i * s ≤ n * s = mul-le i s n s (omega arith) (omega arith) in
    let b : n * s ≤ 1048576 = h.within in
    omega arith

pub offset_small : (c : Ctx) (e : Typ) (n i : ℕ) → i < n → IsItem c (typ (array e n) false false) → nat_le (i * size_of c.classes e) 1048576 ≡ true
offset_small c e n i l h = le-leb (i * size_of c.classes e) 1048576 (element_offset c.classes e n i l h.sized)

module _ (s : Setting) (c : Ctx) (w : Work) (h : Holds s c w) where
  -- Readiness without references

  element_plain : (t : Typ) → is_target c.classes t ≡ true → Sized c.classes t → is_ready c.classes true t ≡ true
      → is_closure (form_in (element_of t)) ≡ false → is_ready c.classes false t ≡ true
  element_plain (typ (class n) q v) a z r k = ((h.complete n z.complete).whole (class n) q v refl a).ready
  element_plain (typ (closure n) q v) a z r k = absurd cc
  element_plain (typ (tx_ex t) q v) a z r k = (exception_whole s c w t q v h a).ready
  element_plain (typ (array e n) false false) a z r k =
      let y = and_parts (nat_lt 0 n) (typ_ready (class_ready (length c.classes) c.classes true) true e) r in
      let l : 0 < n = ltb-true 0 n y.0 in
      both y.0 (element_plain e a (element_sized c.classes e n false false (omega arith) z) y.1
      (ap (λ (u : Typ). is_closure (form_in u)) (sym (qualified_none (element_of e))) ∙ k))
  element_plain (typ (array e n) true v) a z r k = absurd cc
  element_plain (typ (array e n) false true) a z r k = absurd cc
  element_plain (typ (int j) q v) a z r k = refl
  element_plain (typ (enum n x) q v) a z r k = refl
  element_plain (typ null q v) a z r k = refl
  element_plain (typ (ptr t) q v) a z r k = refl
  element_plain (typ void q v) a z r k = absurd cc
  element_plain (typ (ref t) q v) a z r k = absurd cc
  element_plain (typ (func g) q v) a z r k = absurd cc

  whole_ready : (t : Typ) → IsItem c t → is_ready c.classes (is_closure (form_in t)) t ≡ true
  whole_ready (typ (array e n) q v) i = element_plain (typ (array e n) q v) i.target i.sized i.ready i.single
  whole_ready (typ (class n) q v) i = element_plain (typ (class n) q v) i.target i.sized i.ready refl
  whole_ready (typ (closure n) q v) i = i.ready
  whole_ready (typ (tx_ex t) q v) i = element_plain (typ (tx_ex t) q v) i.target i.sized i.ready refl
  whole_ready (typ (int j) q v) i = refl
  whole_ready (typ (enum n x) q v) i = refl
  whole_ready (typ null q v) i = refl
  whole_ready (typ (ptr t) q v) i = refl
  whole_ready (typ void q v) i = let a = i.target in absurd cc
  whole_ready (typ (ref t) q v) i = let a = i.target in absurd cc
  whole_ready (typ (func g) q v) i = let a = i.ready in absurd cc

  pub size_some : (t : Typ) → IsItem c t → is_some (size_in c.classes t) ≡ true
  size_some t i = ap is_some (size_is c.classes t i.sized)

  pub object_is : (t : Typ) → IsItem c t → IsObjectTyp c (is_lambda c.classes) t
  object_is t i = record {
    sorted = sorted_typ c.classes t (target_sound c.classes t i.target);
    whole = λ d. both (size_some t i) (whole_ready t i);
    complete = λ d. i.sized.complete;
  }

  parameter_form : (t : Typ) → IsItem c t → is_array t ≡ false → is_parameter c.classes t ≡ true
  parameter_form (typ (int j) q v) i n = refl
  parameter_form (typ (enum x y) q v) i n = refl
  parameter_form (typ null q v) i n = refl
  parameter_form (typ (ptr t) q v) i n = i.target
  parameter_form (typ (class x) q v) i n = i.target
  parameter_form (typ (closure x) q v) i n = i.target
  parameter_form (typ (tx_ex t) q v) i n = i.target
  parameter_form (typ (array t x) q v) i n = absurd cc
  parameter_form (typ void q v) i n = let a = i.target in absurd cc
  parameter_form (typ (ref t) q v) i n = let a = i.target in absurd cc
  parameter_form (typ (func g) q v) i n = let a = i.ready in absurd cc

  pub initialised_is : (t : Typ) → IsItem c t → IsInitialised c (is_lambda c.classes) t
  initialised_is t i = record { value = λ n. parameter_is s c w t h (parameter_form t i n); object = λ n. object_is t i }

  pub destroyed : (t : Typ) (at : At) → IsItem c t → DestroysOne s t (destroys c at t)
  destroyed t at i = destructions_law s c at t h.setting h.makers.specials (size_some t i) i.ready i.single

  -- Members

  -- a class without a base that has a name
  pub record IsAggregate (n : ℕ) : Type 0 where
    pub owner : Class
    pub found : slice_get c.classes n ≡ Some owner
    pub base : owner.base ≡ None
    pub complete : is_some (completion_of c.classes n) ≡ true
    pub named : is_lambda c.classes n ≡ false
    pub laid : Laid c.classes n

  pub record IsMember (n i : ℕ) (q v : Bool) (m : Member) : Type 0 where
    pub item : IsItem c (qualified q v m.typ)
    pub plain : is_ready c.classes false m.typ ≡ true
    pub sized : is_some (size_in c.classes m.typ) ≡ true
    pub place : part_of c.classes n i ≡ Some (record { offset = offset_at c.classes n i; typ = m.typ })

  same_owner : (n : ℕ) (a : IsAggregate n) → a.laid.owner ≡ a.owner
  same_owner n a = let x = sym a.laid.found ∙ a.found in cc

  number_of : (n : ℕ) (a : IsAggregate n) → completion_of c.classes n ≡ Some a.laid.number
  number_of n a = ap (option_and_then (λ (x : Class). x.complete)) a.laid.found ∙ a.laid.complete

  class_plain : (n : ℕ) → IsAggregate n → is_ready c.classes false (plain (class n)) ≡ true
  class_plain n a = let x = a.named in ((h.complete n a.complete).whole (class n) false false refl (ap not x)).ready

  parts_all : (n : ℕ) (a : IsAggregate n) → list_all (part_ready (is_plain c.classes) false) (parts_in c.classes n (Some a.laid.owner)) ≡ true
  parts_all n a = ap (λ (o : Option Class). list_all (part_ready (is_plain c.classes) false) (parts_in c.classes n o)) (sym a.laid.found)
      ∙ parts_plain c.classes h.setting.ordered (length c.classes) n a.laid.number refl (number_of n a) (class_plain n a)

  found_in : (n : ℕ) (k : Class) (j : ℕ) (ms : List Member) (i : ℕ) (m : Member) → slice_get ms i ≡ Some m
      → slice_get (members_from c.classes n k j ms) i ≡ Some (record { offset = member_offset c.classes n k (j + i) m; typ = m.typ })
  found_in n k j [] i m e = absurd cc
  found_in n k j (x ∷ ms) zero m e =
      let y : x ≡ m = cc in
      let z : j ≡ j + 0 = omega arith in
      ap (λ (u : Member). let p : Part = record { offset = member_offset c.classes n k j u; typ = u.typ } in Some p) y
      ∙ ap (λ (u : ℕ). let p : Part = record { offset = member_offset c.classes n k u m; typ = m.typ } in Some p) z
  found_in n k j (x ∷ ms) (suc i) m e =
      let z : suc j + i ≡ j + suc i = omega arith in
      found_in n k (suc j) ms i m e ∙ ap (λ (u : ℕ). let p : Part = record { offset = member_offset c.classes n k u m; typ = m.typ } in Some p) z

  found_behind : (n : ℕ) (k : Class) (b : Option ℕ) (i : ℕ) (m : Member) → b ≡ None → slice_get k.members i ≡ Some m
      → slice_get (base_part b ++ members_from c.classes n k 0 k.members) i ≡ Some (record { offset = member_offset c.classes n k i m; typ = m.typ })
  found_behind n k None i m e g = let z : 0 + i ≡ i = omega arith in
      found_in n k 0 k.members i m g ∙ ap (λ (u : ℕ). let p : Part = record { offset = member_offset c.classes n k u m; typ = m.typ } in Some p) z
  found_behind n k (Some b) i m e g = absurd cc

  many_from : (n : ℕ) (k : Class) (j : ℕ) (ms : List Member) → length (members_from c.classes n k j ms) ≡ length ms
  many_from n k j [] = refl
  many_from n k j (x ∷ ms) = ap suc (many_from n k (suc j) ms)

  module _ (single : MembersSingle c) where
    pub member_is : (n i : ℕ) (q v : Bool) (m : Member) (a : IsAggregate n) → slice_get a.owner.members i ≡ Some m → IsMember n i q v m
    member_is n i q v m a e =
        let o = same_owner n a in
        let g : slice_get a.laid.owner.members i ≡ Some m = ap (λ (k : Class). slice_get k.members i) o ∙ e in
        let b : a.laid.owner.base ≡ None = ap (λ (k : Class). k.base) o ∙ a.base in
        let few = few_members c.classes h.setting.ordered n a.laid (is_plain c.classes) false (parts_all n a) in
        let x = part_is c.classes h.setting.ordered n a.laid few i (record { offset = member_offset c.classes n a.laid.owner i m; typ = m.typ })
        (found_behind n a.laid.owner a.laid.owner.base i m b g) in
        let r = (all_plain c.classes h.setting.ordered).parts n i (shown (record { offset = member_offset c.classes n a.laid.owner i m; typ = m.typ }))
        (both a.complete (class_plain n a)) x.is in
        let y : is_ready c.classes false m.typ ≡ true = typ_held (is_plain c.classes) (class_ready (length c.classes) c.classes false) false m.typ r
        (λ k l z. (and_parts (is_some (completion_of c.classes k)) (class_ready (length c.classes) c.classes false k) z).1) in
        let f = h.fields n i a.owner m a.found e in
        let z = member_sized c.classes h.setting.ordered n a.laid i m g in
        let d : offset_at c.classes n i ≡ member_offset c.classes n a.laid.owner i m =
        ap (λ (k : Option Class). offset_of_member c.classes n k i (slice_get (members_in k) i)) a.laid.found
        ∙ ap (λ (k : Option Member). offset_of_member c.classes n (Some a.laid.owner) i k) g in
        record {
          item = record {
            target = qualified_target c.classes q v m.typ (declared_target c.classes m.typ f.declared (no_reference (is_plain c.classes) m.typ r));
            sized = qualified_sized c.classes q v m.typ z;
            ready = qualified_ready (class_ready (length c.classes) c.classes true) true q v m.typ (ready_more c.classes false m.typ y);
            single = qualified_single q v m.typ (single n i a.owner m a.found e a.named);
          };
          plain = y;
          sized = ap is_some (size_is c.classes m.typ z);
          place = x.is ∙ ap (λ (k : ℕ). Some (shown (record { offset = k; typ = m.typ }))) (sym d);
        }

  -- as many as there are members
  pub count_members : (n : ℕ) (a : IsAggregate n) → count_of_parts c.classes n ≡ length a.owner.members
  count_members n a =
      let o = same_owner n a in
      let few = few_members c.classes h.setting.ordered n a.laid (is_plain c.classes) false (parts_all n a) in
      sym (count_is c.classes h.setting.ordered n a.laid few)
      ∙ ap (λ (b : Option ℕ). length (base_part b ++ members_from c.classes n a.laid.owner 0 a.laid.owner.members)) (ap (λ (k : Class). k.base) o ∙ a.base)
      ∙ many_from n a.laid.owner 0 a.laid.owner.members ∙ ap (λ (k : Class). length k.members) o
