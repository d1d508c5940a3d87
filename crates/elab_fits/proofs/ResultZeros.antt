-- Zeros without the types of objects are those of an object whose type is told.
use Rattle.std.proofs.Common.{◌≡◌, refl, sym, ap, ◌∙◌, subst, ℕ, zero, suc, ◌+◌, ◌<◌, Bool, true, false, ◌||◌, ◌==◌, nat_lt}
use Rattle.std.proofs.Common.{List, [], ◌∷◌, length, slice_get, Option, Some, is_some, arith, ltb-true, eq-eqb}
use Rattle.std.proofs.lemmas.Bool.{and_parts}
use Rattle.std.specs.List.{list_all}
use Rattle.elab_rules.specs.cpp_types.Typ.{Typ, typ, Form, void, int, enum, null, ptr, ref, array, func, class, closure, tx_ex}
use Rattle.elab_rules.specs.cpp_types.Class.{Class, InOrder, held, held_form}
use Rattle.elab_rules.specs.cpp_types.declared.classes.At.{At}
use Rattle.elab_rules.specs.cpp_types.declared.ranks.Cat.TheVariants.{Prvalue}
use Rattle.elab_rules.specs.cpp_tree.declared.kinds.TKind.TheVariants.{Pieces}
use Rattle.elab_rules.specs.cpp_tree.Trees.{Tree, node, Trees}
use Rattle.elab_rules.specs.cpp_tree.Typing.{passes}
use Rattle.elab_rules.specs.cpp_tree.Parts.{part_of, count_of_parts, sized_class, has_size}
use Rattle.elab_rules.specs.cpp_tree.WellFormed.{zeroes, zero_parts, form_to_zero, volatile_to_zero, joined_volatile}
use Rattle.elab_rules.specs.Functions.{untyped, all_untyped}
use Rattle.elab_rules.specs.Objects.{Part, whole, whole_form, class_whole, as_closure, pieces, zero_leaf, zeros, size_of, parts_in, parts_of}
use Rattle.elab_rules.specs.cpp_tree.Typing.{qualified}
use Rattle.elab_fits.specs.Objects.{is_single, typ_ready, form_ready, part_ready, class_ready, is_ready, ResultsZeroed}
use Rattle.elab_fits.proofs.Objects.{rank, rank_within, Sized, sized_from, size_is, element_sized, Laid, laid_from, sized_class_is, few_members, part_is}
use Rattle.elab_fits.proofs.Objects.{count_is, all_at, shown, IsPart}
use Rattle.elab_fits.proofs.Pieces.{typ_refl}
use Rattle.elab_fits.proofs.Wholes.{or_none, less_deep}
use Rattle.elab_fits.proofs.Zeros.{kind_refl, flag_refl}

parts_pass : (classes : List Class) (n : ℕ) (v : Bool) (each : Part → Tree) (type : Part → Typ) (at : At) (ps : List Part) (i : ℕ)
    → ((j : ℕ) (p : Part) → slice_get ps j ≡ Some p → part_of classes n (i + j) ≡ Some (shown p))
    → ((j : ℕ) (p : Part) → slice_get ps j ≡ Some p → zeroes classes v p.typ (untyped (each p)) ≡ true) → i + length ps ≡ count_of_parts classes n
    → zero_parts classes v n i (all_untyped (pieces each type at ps)) ≡ true
parts_pass classes n v each type at [] i h g e = eq-eqb i (count_of_parts classes n) (omega arith)
parts_pass classes n v each type at (p ∷ ps) i h g e =
    let z : i + 0 ≡ i = omega arith in
    let f : part_of classes n i ≡ Some (shown p) = subst (λ (x : ℕ). part_of classes n x ≡ Some (shown p)) z (h 0 p refl) in
    let o : (p.offset == p.offset) ≡ true = eq-eqb p.offset p.offset refl in
    let k = g 0 p refl in
    let r = parts_pass classes n v each type at ps (suc i)
    (λ j q w. let y : i + suc j ≡ suc i + j = omega arith in subst (λ (x : ℕ). part_of classes n x ≡ Some (shown q)) y (h (suc j) q w))
    (λ j q w. g (suc j) q w) (omega arith) in
    rw (f, o, k, r) refl

joined : (f : Form) (v w : Bool) → is_single f ≡ true → joined_volatile v w f ≡ (v || w)
joined void v w h = absurd cc
joined (int k) v w h = refl
joined (enum n g) v w h = refl
joined null v w h = refl
joined (ptr u) v w h = refl
joined (ref u) v w h = absurd cc
joined (array u n) v w h = absurd cc
joined (func g) v w h = absurd cc
joined (class n) v w h = refl
joined (closure n) v w h = refl
joined (tx_ex u) v w h = absurd cc

module _ (classes : List Class) (o : InOrder classes) (at : At) where
  abbrev of_class : ℕ → ℕ → Bool → Bool → Tree
  of_class depth = class_whole depth zero_leaf classes at

  abbrev ready : ℕ → ℕ → Bool
  ready depth = class_ready depth classes true

  record HasZeros (depth n : ℕ) (c v : Bool) : Type 0 where
    kids : Trees
    is : of_class depth n c v ≡ node Pieces (typ (class n) c v) Prvalue at kids
    pass : zero_parts classes v n 0 (all_untyped kids) ≡ true

  abbrev ClassesPass : ℕ → Type 0
  ClassesPass depth = (n : ℕ) (c v : Bool) (l : Laid classes n) → rank l.number classes < depth → ready depth n ≡ true → HasZeros depth n c v

  abbrev Shallow : ℕ → Option ℕ → Type 0
  Shallow depth held = (e : ℕ) → held ≡ Some e → (l : Laid classes e) → rank l.number classes < depth

  class_pass : (depth : ℕ) → ClassesPass depth → (n : ℕ) (c v volatile : Bool) (t : Typ) → form_to_zero t ≡ class n → volatile_to_zero volatile t ≡ v
      → ready depth n ≡ true → Sized classes (typ (class n) c v) → Shallow depth (Some n) → zeroes classes volatile t (untyped (of_class depth n c v)) ≡ true
  class_pass depth h n c v volatile t e q r z b =
      let l = laid_from classes n c v z in
      let p = h n c v l (b n refl l) r in
      let s : is_some (sized_class classes n) ≡ true = ap is_some (sized_class_is classes n l) in
      let k = p.pass in
      subst (λ (x : Tree). zeroes classes volatile t (untyped x) ≡ true) (sym p.is) (rw (q, e, s, k) refl)

  closure_pass : (depth : ℕ) → ClassesPass depth → (n : ℕ) (c v volatile : Bool) (t : Typ) → form_to_zero t ≡ closure n → volatile_to_zero volatile t ≡ v
      → ready depth n ≡ true → Sized classes (typ (class n) c v) → Shallow depth (Some n)
      → zeroes classes volatile t (untyped (as_closure n c v (of_class depth n c v))) ≡ true
  closure_pass depth h n c v volatile t e q r z b =
      let l = laid_from classes n c v z in
      let p = h n c v l (b n refl l) r in
      let s : is_some (sized_class classes n) ≡ true = ap is_some (sized_class_is classes n l) in
      let k = p.pass in
      subst (λ (x : Tree). zeroes classes volatile t (untyped (as_closure n c v x)) ≡ true) (sym p.is) (rw (q, e, s, k) refl)

  single_pass : (depth : ℕ) → ClassesPass depth → (f : Form) (c v volatile : Bool) (t : Typ) → form_to_zero t ≡ f → volatile_to_zero volatile t ≡ v
      → is_single f ≡ true → form_ready (ready depth) true false f ≡ true → Sized classes (typ f c v) → Shallow depth (held_form f)
      → zeroes classes volatile t (untyped (whole_form (of_class depth) zero_leaf classes at c v f)) ≡ true
  single_pass depth h void c v volatile t e q i r z b = absurd cc
  single_pass depth h (int k) c v volatile t e q i r z b = let a = kind_refl k in let d = flag_refl v in rw (q, e, a, d) refl
  single_pass depth h (enum n w) c v volatile t e q i r z b = let d = flag_refl v in let a = typ_refl (typ (enum n w) false false) in rw (q, e, d, a) refl
  single_pass depth h null c v volatile t e q i r z b = let d = flag_refl v in rw (q, e, d) refl
  single_pass depth h (ptr u) c v volatile t e q i r z b = let d = flag_refl v in let a = typ_refl (typ (ptr u) false false) in rw (q, e, d, a) refl
  single_pass depth h (ref u) c v volatile t e q i r z b = absurd cc
  single_pass depth h (array u n) c v volatile t e q i r z b = absurd cc
  single_pass depth h (func g) c v volatile t e q i r z b = absurd cc
  single_pass depth h (class n) c v volatile t e q i r z b = class_pass depth h n c v volatile t e q r z b
  single_pass depth h (closure n) c v volatile t e q i r z b = closure_pass depth h n c v volatile t e q r
      (record { complete = z.complete; within = z.within }) b
  single_pass depth h (tx_ex u) c v volatile t e q i r z b = absurd cc

  element_size : (t : Typ) → Sized classes t → has_size classes t (size_of classes t) ≡ true
  element_size t z = ap (passes (λ (size : ℕ). size == size_of classes t)) (size_is classes t z)
      ∙ eq-eqb (size_of classes t) (size_of classes t) refl

  whole_pass : (depth : ℕ) → ClassesPass depth → (t : Typ) (c v : Bool) → typ_ready (ready depth) true t ≡ true → Sized classes t
      → Shallow depth (held t) → zeroes classes v t (untyped (whole (of_class depth) zero_leaf classes at c v t)) ≡ true
  whole_pass depth h (typ void d w) c v r z b = absurd cc
  whole_pass depth h (typ (int k) d w) c v r z b = single_pass depth h (int k) (c || d) (v || w) v (typ (int k) d w) refl refl refl refl
      (record { complete = z.complete; within = z.within }) b
  whole_pass depth h (typ (enum n g) d w) c v r z b = single_pass depth h (enum n g) (c || d) (v || w) v (typ (enum n g) d w) refl refl refl refl
      (record { complete = z.complete; within = z.within }) b
  whole_pass depth h (typ null d w) c v r z b = single_pass depth h null (c || d) (v || w) v (typ null d w) refl refl refl refl
      (record { complete = z.complete; within = z.within }) b
  whole_pass depth h (typ (ptr u) d w) c v r z b = single_pass depth h (ptr u) (c || d) (v || w) v (typ (ptr u) d w) refl refl refl refl
      (record { complete = z.complete; within = z.within }) b
  whole_pass depth h (typ (ref u) false false) c v r z b = refl
  whole_pass depth h (typ (ref u) true w) c v r z b = absurd cc
  whole_pass depth h (typ (ref u) false true) c v r z b = absurd cc
  whole_pass depth h (typ (array u n) false false) c v r z b =
      let a = and_parts (nat_lt 0 n) (typ_ready (ready depth) true u) r in
      let l : 0 < n = ltb-true 0 n a.0 in
      let y = element_sized classes u n false false l z in
      let i = whole_pass depth h u c v a.1 y b in
      let s = element_size u y in
      let m : (n == n) ≡ true = eq-eqb n n refl in
      let k = a.0 in
      let j = subst (λ (x : Bool). zeroes classes v u (untyped (whole (of_class depth) zero_leaf classes at x v u)) ≡ true) (or_none c) i in
      let g = subst (λ (x : Bool). zeroes classes x u (untyped (whole (of_class depth) zero_leaf classes at (c || false) x u)) ≡ true) (or_none v) j in
      rw (m, k, s, g) refl
  whole_pass depth h (typ (array u n) true w) c v r z b = absurd cc
  whole_pass depth h (typ (array u n) false true) c v r z b = absurd cc
  whole_pass depth h (typ (func g) d w) c v r z b = absurd cc
  whole_pass depth h (typ (class n) d w) c v r z b = single_pass depth h (class n) (c || d) (v || w) v (typ (class n) d w) refl refl refl r
      (record { complete = z.complete; within = z.within }) b
  whole_pass depth h (typ (closure n) d w) c v r z b = single_pass depth h (closure n) (c || d) (v || w) v (typ (closure n) d w) refl refl refl r
      (record { complete = z.complete; within = z.within }) b
  whole_pass depth h (typ (tx_ex (typ f x y)) d w) c v r z b =
      let a = and_parts (is_single f) (form_ready (ready depth) true false f) r in
      single_pass depth h f (c || d) (v || w) v (typ (tx_ex (typ f x y)) d w) refl (joined f v w a.0) a.0 a.1
      (record { complete = z.complete; within = z.within }) b

  class_zeros : (depth : ℕ) → ClassesPass depth → (n : ℕ) (c v : Bool) (l : Laid classes n) → rank l.number classes < suc depth
      → ready (suc depth) n ≡ true → HasZeros (suc depth) n c v
  class_zeros depth h n c v l b r =
      let e : parts_of classes n ≡ parts_in classes n (Some l.owner) = ap (parts_in classes n) l.found in
      let few = few_members classes o n l (ready depth) true (ap (list_all (part_ready (ready depth) true)) (sym e) ∙ r) in
      let each : Part → Tree = λ (p : Part). whole (of_class depth) zero_leaf classes at c v p.typ in
      let part : (j : ℕ) (p : Part) → slice_get (parts_of classes n) j ≡ Some p → IsPart classes n l.number j p =
      λ j p g. part_is classes o n l few j p (ap (λ (z : List Part). slice_get z j) (sym e) ∙ g) in
      record {
        kids = pieces each (λ (p : Part). qualified c v p.typ) at (parts_of classes n);
        is = refl;
        pass = parts_pass classes n v each (λ (p : Part). qualified c v p.typ) at (parts_of classes n) 0
            (λ j p g. let x : j ≡ 0 + j = omega arith in subst (λ (z : ℕ). part_of classes n z ≡ Some (shown p)) x (part j p g).is)
            (λ j q g. whole_pass depth h q.typ c v (all_at (part_ready (ready depth) true) (parts_of classes n) j q g r) (part j q g).sized
            (λ x y m. let u = less_deep classes l.number x ((part j q g).earlier x y) m in omega arith))
            (let x = ap length e in let y = count_is classes o n l few in omega arith);
      }

  classes_pass : (depth : ℕ) → ClassesPass depth
  classes_pass zero n c v l b r = absurd (omega arith)
  classes_pass (suc depth) n c v l b r = class_zeros depth (classes_pass depth) n c v l b r

  pub zeros_pass : (t : Typ) → is_ready classes true t ≡ true → Sized classes t → zeroes classes false t (untyped (zeros classes at t)) ≡ true
  zeros_pass t r z = whole_pass (length classes) (classes_pass (length classes)) t false false r z
      (λ e h l. rank_within classes e l.number l.owner l.found l.complete)

pub results_law : ResultsZeroed
results_law s c at t i z r = subst (λ (x : List Class). zeroes x false t (untyped (zeros c.classes at t)) ≡ true) (sym i.classes)
    (zeros_pass c.classes i.ordered at t r (sized_from c.classes t z))
