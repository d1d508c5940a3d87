-- What is done to each scalar of an object makes a whole of it.
use Rattle.std.proofs.Common.{◌≡◌, refl, sym, ap, ◌∙◌, subst, ℕ, zero, suc, ◌+◌, ◌<◌, Bool, true, false, ◌||◌, ◌==◌, nat_lt}
use Rattle.std.proofs.Common.{List, [], length, slice_get, Option, Some, is_some, option_and_then, arith, ltb-true, eq-eqb}
use Rattle.std.proofs.lemmas.Bool.{and_parts}
use Rattle.std.specs.List.{list_all}
use Rattle.elab_rules.specs.cpp_types.Typ.{Typ, typ, Form, void, int, enum, null, ptr, ref, array, func, class, closure, tx_ex}
use Rattle.elab_rules.specs.cpp_types.Class.{Class, InOrder, CompleteBelow, completion_of, held, held_form}
use Rattle.elab_rules.specs.cpp_types.declared.classes.At.{At}
use Rattle.elab_rules.specs.cpp_types.declared.ranks.Cat.TheVariants.{Prvalue}
use Rattle.elab_rules.specs.cpp_tree.declared.kinds.TKind.TheVariants.{Pieces}
use Rattle.elab_rules.specs.cpp_tree.declared.roles.Position.{Position}
use Rattle.elab_rules.specs.cpp_tree.Trees.{Tree, node, Trees}
use Rattle.elab_rules.specs.cpp_tree.Typing.{passes, qualified}
use Rattle.elab_rules.specs.cpp_tree.Parts.{part_of, are_part_pieces, sized_class, has_size}
use Rattle.elab_rules.specs.cpp_tree.Parts.{size_in}
use Rattle.elab_rules.specs.cpp_tree.Roles.{and_any}
use Rattle.elab_rules.specs.cpp_tree.Rows.{Setting}
use Rattle.elab_rules.specs.cpp_tree.WellFormed.{kids_fit, heads_of}
use Rattle.elab_rules.specs.Objects.{Leaf, Part, whole, whole_form, class_whole, as_closure, pieces, each_scalar, size_of, parts_in, parts_of}
use Rattle.elab_rules.specs.elab_ctx.Ctx.{Ctx}
use Rattle.elab_fits.specs.Standing.{IsSetting}
use Rattle.elab_fits.specs.Objects.{is_single, typ_ready, form_ready, part_ready, class_ready, is_ready}
use Rattle.elab_fits.proofs.Objects.{rank, rank_below, rank_within, Sized, size_is, qualified_sized, qualified_size, element_sized, Laid, laid_from}
use Rattle.elab_fits.proofs.Objects.{sized_class_is, few_members, part_is, count_is, all_at, shown, IsPart}
use Rattle.elab_fits.proofs.Objects.{sized_from}
use Rattle.elab_fits.proofs.Pieces.{part_as, IsObject, IsExact, object_from, exception_from, class_node, closure_node, elements_node, pieces_fit, pieces_agree}

-- the forms of scalars, and of references where there may be any
abbrev pub is_leaf : Bool → Form → Bool
is_leaf references (int k) = true
is_leaf references (enum n s) = true
is_leaf references null = true
is_leaf references (ptr t) = true
is_leaf references (ref t) = references
is_leaf references f = false

pub or_none : (b : Bool) → b ≡ (b || false)
or_none true = refl
or_none false = refl

pub qualified_none : (t : Typ) → qualified false false t ≡ t
qualified_none (typ void c v) = refl
qualified_none (typ (int k) c v) = refl
qualified_none (typ (enum n s) c v) = refl
qualified_none (typ null c v) = refl
qualified_none (typ (ptr t) c v) = refl
qualified_none (typ (ref t) c v) = refl
qualified_none (typ (array t n) c v) = ap (λ (u : Typ). typ (array u n) c v) (qualified_none t)
qualified_none (typ (func s) c v) = refl
qualified_none (typ (class n) c v) = refl
qualified_none (typ (closure n) c v) = refl
qualified_none (typ (tx_ex t) c v) = refl

number_is : (classes : List Class) (n : ℕ) (l : Laid classes n) → completion_of classes n ≡ Some l.number
number_is classes n l = ap (option_and_then (λ (x : Class). x.complete)) l.found ∙ l.complete

-- a class that was complete before another nests less deep
pub less_deep : (classes : List Class) (k e : ℕ) (b : CompleteBelow classes k e) (l : Laid classes e) → rank l.number classes < rank k classes
less_deep classes k e b l =
    let h : Some l.number ≡ Some b.number = sym (number_is classes e l) ∙ b.complete in
    let i : l.number ≡ b.number = cc in
    let j = b.below in
    rank_below classes e l.number k l.owner l.found l.complete (omega arith)

module _ (s : Setting) (o : InOrder s.classes) (copying references : Bool) (leaf : Leaf) (at : At)
    (leaf_fits : (f : Form) (c v : Bool) → is_leaf references f ≡ true → IsExact s copying (typ f c v) (leaf (typ f c v) at)) where
  abbrev of_class : ℕ → ℕ → Bool → Bool → Tree
  of_class depth = class_whole depth leaf s.classes at

  abbrev ready : ℕ → ℕ → Bool
  ready depth = class_ready depth s.classes references

  -- the pieces of a class's object
  record HasPieces (depth n : ℕ) (c v : Bool) : Type 0 where
    kids : Trees
    is : of_class depth n c v ≡ node Pieces (typ (class n) c v) Prvalue at kids
    agree : are_part_pieces s.classes c v n 0 (heads_of kids) ≡ true
    fit : (p : Position) → kids_fit s p (and_any [] (part_as copying)) 0 kids ≡ true

  abbrev ClassesFit : ℕ → Type 0
  ClassesFit depth = (n : ℕ) (c v : Bool) (l : Laid s.classes n) → rank l.number s.classes < depth → ready depth n ≡ true → HasPieces depth n c v

  abbrev Shallow : ℕ → Option ℕ → Type 0
  Shallow depth held = (e : ℕ) → held ≡ Some e → (l : Laid s.classes e) → rank l.number s.classes < depth

  is_sized : (n : ℕ) (l : Laid s.classes n) → is_some (sized_class s.classes n) ≡ true
  is_sized n l = ap is_some (sized_class_is s.classes n l)

  class_fit : (depth : ℕ) → ClassesFit depth → (n : ℕ) (c v : Bool) → ready depth n ≡ true → Sized s.classes (typ (class n) c v) → Shallow depth (Some n)
      → IsExact s copying (typ (class n) c v) (of_class depth n c v)
  class_fit depth h n c v r z b =
      let l = laid_from s.classes n c v z in
      let p = h n c v l (b n refl l) r in
      subst (λ (e : Tree). IsExact s copying (typ (class n) c v) e) (sym p.is) (class_node s copying n c v at p.kids (is_sized n l) p.agree p.fit)

  closure_fit : (depth : ℕ) → ClassesFit depth → (n : ℕ) (c v : Bool) → ready depth n ≡ true → Sized s.classes (typ (class n) c v) → Shallow depth (Some n)
      → IsExact s copying (typ (closure n) c v) (as_closure n c v (of_class depth n c v))
  closure_fit depth h n c v r z b =
      let l = laid_from s.classes n c v z in
      let p = h n c v l (b n refl l) r in
      subst (λ (e : Tree). IsExact s copying (typ (closure n) c v) (as_closure n c v e)) (sym p.is)
      (closure_node s copying n c v at p.kids (is_sized n l) p.agree p.fit)

  single_fit : (depth : ℕ) → ClassesFit depth → (f : Form) (c v : Bool) → is_single f ≡ true → form_ready (ready depth) references false f ≡ true
      → Sized s.classes (typ f c v) → Shallow depth (held_form f) → IsExact s copying (typ f c v) (whole_form (of_class depth) leaf s.classes at c v f)
  single_fit depth h void c v i r z b = absurd cc
  single_fit depth h (int k) c v i r z b = leaf_fits (int k) c v refl
  single_fit depth h (enum n w) c v i r z b = leaf_fits (enum n w) c v refl
  single_fit depth h null c v i r z b = leaf_fits null c v refl
  single_fit depth h (ptr t) c v i r z b = leaf_fits (ptr t) c v refl
  single_fit depth h (ref t) c v i r z b = absurd cc
  single_fit depth h (array t n) c v i r z b = absurd cc
  single_fit depth h (func g) c v i r z b = absurd cc
  single_fit depth h (class n) c v i r z b = class_fit depth h n c v r z b
  single_fit depth h (closure n) c v i r z b = closure_fit depth h n c v r (record { complete = z.complete; within = z.within }) b
  single_fit depth h (tx_ex t) c v i r z b = absurd cc

  element_size : (c v : Bool) (t : Typ) → Sized s.classes t → has_size s.classes (qualified c v t) (size_of s.classes t) ≡ true
  element_size c v t z =
      let e = size_is s.classes (qualified c v t) (qualified_sized s.classes c v t z) in
      let q = eq-eqb (size_of s.classes (qualified c v t)) (size_of s.classes t) (qualified_size s.classes c v t) in
      ap (passes (λ (size : ℕ). size == size_of s.classes t)) e ∙ q

  plain_fit : (depth : ℕ) → ClassesFit depth → (f : Form) (c v d w : Bool) → is_single f ≡ true → form_ready (ready depth) references (d || w) f ≡ true
      → form_ready (ready depth) references false f ≡ true
      → Sized s.classes (typ f d w) → Shallow depth (held_form f)
      → IsObject s copying (typ f (c || d) (v || w)) (whole_form (of_class depth) leaf s.classes at (c || d) (v || w) f)
  plain_fit depth h f c v d w i r q z b = object_from s copying (typ f (c || d) (v || w)) (whole_form (of_class depth) leaf s.classes at (c || d) (v || w) f)
      (single_fit depth h f (c || d) (v || w) i q (record { complete = z.complete; within = z.within }) b)

  whole_fit : (depth : ℕ) → ClassesFit depth → (t : Typ) (c v : Bool) → typ_ready (ready depth) references t ≡ true → Sized s.classes t
      → Shallow depth (held t) → IsObject s copying (qualified c v t) (whole (of_class depth) leaf s.classes at c v t)
  whole_fit depth h (typ void d w) c v r z b = absurd cc
  whole_fit depth h (typ (int k) d w) c v r z b = plain_fit depth h (int k) c v d w refl r refl z b
  whole_fit depth h (typ (enum n g) d w) c v r z b = plain_fit depth h (enum n g) c v d w refl r refl z b
  whole_fit depth h (typ null d w) c v r z b = plain_fit depth h null c v d w refl r refl z b
  whole_fit depth h (typ (ptr t) d w) c v r z b = plain_fit depth h (ptr t) c v d w refl r refl z b
  whole_fit depth h (typ (ref t) false false) c v r z b = object_from s copying (typ (ref t) false false) (leaf (typ (ref t) false false) at)
      (leaf_fits (ref t) false false (and_parts references true r).0)
  whole_fit depth h (typ (ref t) true w) c v r z b = let q = (and_parts references false r).1 in absurd cc
  whole_fit depth h (typ (ref t) false true) c v r z b = let q = (and_parts references false r).1 in absurd cc
  whole_fit depth h (typ (array t n) false false) c v r z b =
      let a = and_parts (nat_lt 0 n) (typ_ready (ready depth) references t) r in
      let l : 0 < n = ltb-true 0 n a.0 in
      let y = element_sized s.classes t n false false l z in
      let i = whole_fit depth h t c v a.1 y b in
      let e = object_from s copying (typ (array (qualified c v t) n) false false) (whole_form (of_class depth) leaf s.classes at c v (array t n))
      (elements_node s copying n (size_of s.classes t) (qualified c v t) at (whole (of_class depth) leaf s.classes at c v t) l (element_size c v t y) i) in
      let f = subst (λ (x : Bool). IsObject s copying (typ (array (qualified c v t) n) false false)
      (whole_form (of_class depth) leaf s.classes at x v (array t n))) (or_none c) e in
      subst (λ (x : Bool). IsObject s copying (typ (array (qualified c v t) n) false false)
      (whole_form (of_class depth) leaf s.classes at (c || false) x (array t n))) (or_none v) f
  whole_fit depth h (typ (array t n) true w) c v r z b = absurd cc
  whole_fit depth h (typ (array t n) false true) c v r z b = absurd cc
  whole_fit depth h (typ (func g) d w) c v r z b = absurd cc
  whole_fit depth h (typ (class n) d w) c v r z b = plain_fit depth h (class n) c v d w refl r r z b
  whole_fit depth h (typ (closure n) d w) c v r z b = plain_fit depth h (closure n) c v d w refl r r z b
  whole_fit depth h (typ (tx_ex (typ f x y)) d w) c v r z b =
      let a = and_parts (is_single f) (form_ready (ready depth) references false f) r in
      exception_from s copying f x y (c || d) (v || w) (whole_form (of_class depth) leaf s.classes at (c || d) (v || w) f)
      (single_fit depth h f (c || d) (v || w) a.0 a.1 (record { complete = z.complete; within = z.within }) b)

  class_pieces : (depth : ℕ) → ClassesFit depth → (n : ℕ) (c v : Bool) (l : Laid s.classes n) → rank l.number s.classes < suc depth
      → ready (suc depth) n ≡ true → HasPieces (suc depth) n c v
  class_pieces depth h n c v l b r =
      let e : parts_of s.classes n ≡ parts_in s.classes n (Some l.owner) = ap (parts_in s.classes n) l.found in
      let few = few_members s.classes o n l (ready depth) references (ap (list_all (part_ready (ready depth) references)) (sym e) ∙ r) in
      let each : Part → Tree = λ (p : Part). whole (of_class depth) leaf s.classes at c v p.typ in
      let part : (j : ℕ) (p : Part) → slice_get (parts_of s.classes n) j ≡ Some p → IsPart s.classes n l.number j p =
      λ j p g. part_is s.classes o n l few j p (ap (λ (z : List Part). slice_get z j) (sym e) ∙ g) in
      record {
        kids = pieces each (λ (p : Part). qualified c v p.typ) at (parts_of s.classes n);
        is = refl;
        agree = pieces_agree s.classes n c v each at (parts_of s.classes n) 0
            (λ j p g. let x : j ≡ 0 + j = omega arith in subst (λ (z : ℕ). part_of s.classes n z ≡ Some (shown p)) x (part j p g).is)
            (let x = ap length e in let y = count_is s.classes o n l few in omega arith);
        fit = λ p. pieces_fit s copying p each (λ (q : Part). qualified c v q.typ) at (parts_of s.classes n) 0
            (λ j q g. whole_fit depth h q.typ c v (all_at (part_ready (ready depth) references) (parts_of s.classes n) j q g r) (part j q g).sized
            (λ x y m. let u = less_deep s.classes l.number x ((part j q g).earlier x y) m in omega arith));
      }

  classes_fit : (depth : ℕ) → ClassesFit depth
  classes_fit zero n c v l b r = absurd (omega arith)
  classes_fit (suc depth) n c v l b r = class_pieces depth (classes_fit depth) n c v l b r

  pub scalars_fit : (t : Typ) → is_ready s.classes references t ≡ true → Sized s.classes t → IsObject s copying t (each_scalar leaf s.classes at t)
  scalars_fit t r z = subst (λ (u : Typ). IsObject s copying u (each_scalar leaf s.classes at t)) (qualified_none t)
      (whole_fit (length s.classes) (classes_fit (length s.classes)) t false false r z
      (λ e h l. rank_within s.classes e l.number l.owner l.found l.complete))

-- the same in the setting of a context
pub fit_in : (s : Setting) (c : Ctx) (i : IsSetting s c) (copying references : Bool) (leaf : Leaf) (at : At)
    → ((f : Form) (d v : Bool) → is_leaf references f ≡ true → IsExact s copying (typ f d v) (leaf (typ f d v) at)) → (t : Typ)
    → is_some (size_in c.classes t) ≡ true → is_ready c.classes references t ≡ true → IsObject s copying t (each_scalar leaf c.classes at t)
fit_in s c i copying references leaf at h t z r =
    let e : c.classes ≡ s.classes = sym i.classes in
    let o : InOrder s.classes = subst (λ (x : List Class). InOrder x) e i.ordered in
    let y : is_ready s.classes references t ≡ true = subst (λ (x : List Class). is_ready x references t ≡ true) e r in
    let k : Sized s.classes t = subst (λ (x : List Class). Sized x t) e (sized_from c.classes t z) in
    subst (λ (x : List Class). IsObject s copying t (each_scalar leaf x at t)) i.classes (scalars_fit s o copying references leaf at h t y k)
