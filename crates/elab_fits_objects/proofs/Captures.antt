-- Copies of lambdas' objects: each part in place.
use Rattle.std.proofs.Common.{◌≡◌, refl, sym, ap, ◌∙◌, subst, ℕ, zero, suc, ◌+◌, Bool, true, false, not, ◌&&◌, ◌||◌, nat_lt, arith}
use Rattle.std.proofs.Common.{List, [], ◌∷◌, length, slice_get, Option, Some, None, is_some, lt-ltb, eq-eqb}
use Rattle.std.proofs.lemmas.Bool.{and_parts, and_from}
use Rattle.std.proofs.lemmas.Option.{slice_get_within}
use Rattle.std.specs.List.{list_all}
use Rattle.std.specs.Prelude.{if◌then◌else◌}
use Rattle.elab_rules.specs.cpp_types.Typ.{Typ, typ, Form, void, int, enum, null, ptr, ref, array, func, class, closure, tx_ex}
use Rattle.elab_rules.specs.cpp_types.Class.{Class}
use Rattle.elab_rules.specs.cpp_types.declared.classes.At.{At}
use Rattle.elab_rules.specs.cpp_types.declared.ranks.Cat.TheVariants.{Prvalue}
use Rattle.elab_rules.specs.cpp_tree.declared.kinds.TKind.TheVariants.{CopyConstruct, Pieces, Piece, Elements}
use Rattle.elab_rules.specs.cpp_tree.declared.roles.Position.{Position}
use Rattle.elab_rules.specs.cpp_tree.declared.roles.Role.TheVariants.{CopyInit, CopiedPart, Destruction}
use Rattle.elab_rules.specs.cpp_tree.Trees.{node, Trees, none, more}
use Rattle.elab_rules.specs.cpp_tree.Typing.{Head, head_of, form_in, is_class, is_prvalue, qualified}
use Rattle.elab_rules.specs.cpp_tree.Parts.{are_part_pieces, sized_class, part_of, size_in, are_elements}
use Rattle.elab_rules.specs.cpp_tree.Roles.{and_any, only}
use Rattle.elab_rules.specs.cpp_tree.Rows.{Setting, row_fits, is_constructor, are_destructions}
use Rattle.elab_rules.specs.cpp_tree.WellFormed.{kids_fit, heads_of}
use Rattle.elab_rules.specs.elab_ctx.Ctx.{Ctx, Special, absent, trivial, function}
use Rattle.elab_rules.specs.Objects.{Part, size_of, count_in, element_of, is_array, parts_in, parts_of, pieces, traits_at, destroys, class_in}
use Rattle.elab_rules.specs.Initialising.{class_number, copied_part, copy_of_held, closure_part, closure_piece, qualified_part, closure_pieces}
use Rattle.elab_fits.specs.Standing.{FitsAs, IsSetting}
use Rattle.elab_fits.specs.Objects.{typ_ready, part_ready, class_ready, is_ready, is_closure, has_lambdas, CopiesOne, DestroysOne}
use Rattle.elab_fits.proofs.Copies.{copies_law}
use Rattle.elab_fits.proofs.Destructions.{destructions_law, count_low}
use Rattle.elab_fits.proofs.ElementTypes.{elements_law}
use Rattle.elab_fits.proofs.Equal.{typ_refl}
use Rattle.elab_fits.proofs.Nodes.{both, or_left, node_fits}
use Rattle.elab_fits.proofs.Objects.{Sized, sized_from, size_is, qualified_sized, laid_from, sized_class_is, few_members, IsPart, part_is, count_is, shown}
use Rattle.elab_fits.proofs.Pieces.{pieces_agree, any_many}
use Rattle.elab_fits_objects.specs.Contexts.{HasMakers, is_whole}
use Rattle.elab_fits_objects.proofs.Elements.{exact_builds, array_are, own_element}
use Rattle.elab_fits_objects.proofs.Fits.{copied_kids, at_least_one}
use Rattle.elab_fits_objects.proofs.Types.{whole_sized, whole_ready}

-- Qualifiers

pub qualified_ready : (p : ℕ → Bool) (r c v : Bool) (t : Typ) → typ_ready p r t ≡ true → typ_ready p r (qualified c v t) ≡ true
qualified_ready p r c v (typ void d w) h = absurd cc
qualified_ready p r c v (typ (int k) d w) h = refl
qualified_ready p r c v (typ (enum n s) d w) h = refl
qualified_ready p r c v (typ null d w) h = refl
qualified_ready p r c v (typ (ptr t) d w) h = refl
qualified_ready p r c v (typ (ref t) d w) h = h
qualified_ready p r c v (typ (array t n) d w) h =
    let a = and_parts (not (d || w)) (nat_lt 0 n && typ_ready p r t) h in
    let b = and_parts (nat_lt 0 n) (typ_ready p r t) a.1 in
    and_from (not (d || w)) (nat_lt 0 n && typ_ready p r (qualified c v t)) a.0
    (and_from (nat_lt 0 n) (typ_ready p r (qualified c v t)) b.0 (qualified_ready p r c v t b.1))
qualified_ready p r c v (typ (func s) d w) h = absurd cc
qualified_ready p r c v (typ (class n) d w) h = h
qualified_ready p r c v (typ (closure n) d w) h = h
qualified_ready p r c v (typ (tx_ex (typ f x y)) d w) h = h

closure_qualified : (c v : Bool) (t : Typ) → is_closure (form_in (qualified c v t)) ≡ is_closure (form_in t)
closure_qualified c v (typ void d w) = refl
closure_qualified c v (typ (int k) d w) = refl
closure_qualified c v (typ (enum n s) d w) = refl
closure_qualified c v (typ null d w) = refl
closure_qualified c v (typ (ptr t) d w) = refl
closure_qualified c v (typ (ref t) d w) = refl
closure_qualified c v (typ (array t n) d w) = refl
closure_qualified c v (typ (func s) d w) = refl
closure_qualified c v (typ (class n) d w) = refl
closure_qualified c v (typ (closure n) d w) = refl
closure_qualified c v (typ (tx_ex t) d w) = refl

closure_element : (c v : Bool) (t : Typ) → is_closure (form_in (element_of (qualified c v t))) ≡ is_closure (form_in (element_of t))
closure_element c v (typ void d w) = refl
closure_element c v (typ (int k) d w) = refl
closure_element c v (typ (enum n s) d w) = refl
closure_element c v (typ null d w) = refl
closure_element c v (typ (ptr t) d w) = refl
closure_element c v (typ (ref t) d w) = refl
closure_element c v (typ (array t n) d w) = closure_qualified d w (element_of (qualified c v t)) ∙ closure_element c v t
    ∙ sym (closure_qualified d w (element_of t))
closure_element c v (typ (func s) d w) = refl
closure_element c v (typ (class n) d w) = refl
closure_element c v (typ (closure n) d w) = refl
closure_element c v (typ (tx_ex t) d w) = refl

array_qualified : (c v : Bool) (t : Typ) → is_array (qualified c v t) ≡ is_array t
array_qualified c v (typ void d w) = refl
array_qualified c v (typ (int k) d w) = refl
array_qualified c v (typ (enum n s) d w) = refl
array_qualified c v (typ null d w) = refl
array_qualified c v (typ (ptr t) d w) = refl
array_qualified c v (typ (ref t) d w) = refl
array_qualified c v (typ (array t n) d w) = refl
array_qualified c v (typ (func s) d w) = refl
array_qualified c v (typ (class n) d w) = refl
array_qualified c v (typ (closure n) d w) = refl
array_qualified c v (typ (tx_ex t) d w) = refl

pub qualified_single : (c v : Bool) (t : Typ) → has_lambdas t ≡ false → has_lambdas (qualified c v t) ≡ false
qualified_single c v t h =
    let a = array_qualified c v t in let b = closure_element c v t in rw (a, b) h

-- Arrays of objects that are made alike

pub elements_row : (s : Setting) (c : Ctx) (t : Typ) (x : Head) (ds : List Head) → IsSetting s c → is_array t ≡ true
    → is_some (size_in c.classes t) ≡ true → is_ready c.classes true t ≡ true → is_prvalue x.cat ≡ true
    → x.typ ≡ element_of t → are_destructions s (element_of t) ds ≡ true
    → row_fits s (Elements (count_in t) (size_of c.classes (element_of t))) t Prvalue (x ∷ ds) ≡ true
elements_row s c t x ds i n z q h e d =
    let p : ℕ → Bool = class_ready (length c.classes) c.classes true in
    let a = array_are c.classes p true x t n q (sized_from c.classes t z) (exact_builds (element_of t) x h e) in
    let b : nat_lt 0 (count_in t) ≡ true = lt-ltb 0 (count_in t) (let l = count_low p true t q in omega arith) in
    let k : are_destructions s x.typ ds ≡ true = subst (λ (u : Typ). are_destructions s u ds ≡ true) (sym e) d in
    let g : are_elements s.classes (count_in t) (size_of c.classes (element_of t)) 1 t x ≡ true =
    subst (λ (cs : List Class). are_elements cs (count_in t) (size_of c.classes (element_of t)) 1 t x ≡ true) (sym i.classes) a in
    rw (g, b, k) refl

-- Parts

pub class_is : (f : Form) (m : ℕ) → class_in f ≡ Some m → is_class m f ≡ true
class_is (class n) m h = let e : n ≡ m = cc in eq-eqb n m e
class_is (closure n) m h = let e : n ≡ m = cc in eq-eqb n m e
class_is void m h = absurd cc
class_is (int k) m h = absurd cc
class_is (enum n s) m h = absurd cc
class_is null m h = absurd cc
class_is (ptr t) m h = absurd cc
class_is (ref t) m h = absurd cc
class_is (array t n) m h = absurd cc
class_is (func s) m h = absurd cc
class_is (tx_ex t) m h = absurd cc

module _ (s : Setting) (c : Ctx) (lambda : ℕ → Bool) (at : At) (i : IsSetting s c) (makers : HasMakers c lambda) where
  constructed_row : (m k : ℕ) (t : Typ) → (traits_at c m).copy ≡ function k → is_class m (form_in t) ≡ true
      → row_fits s (CopyConstruct k) t Prvalue [] ≡ true
  constructed_row m k t e o =
      let h = makers.copies m k e in
      let g = i.funcs k h.maker.func h.maker.at in
      let found = g.at in
      let kind : is_constructor g.func.kind ≡ true = ap is_constructor (g.is.kind ∙ h.maker.kind) in
      let owner : g.func.class ≡ Some m = g.is.class ∙ h.maker.class in
      let declared = g.is.declared in
      let takes = h.takes in
      rw (found, kind, owner, o, declared, takes) refl

  constructed_fits : (m k : ℕ) (t : Typ) → (traits_at c m).copy ≡ function k → is_class m (form_in t) ≡ true
      → FitsAs s CopyInit (node (CopyConstruct k) t Prvalue at none)
  constructed_fits m k t e o = λ p full. node_fits s p CopyInit (CopyConstruct k) t Prvalue at none (only []) refl refl refl refl (constructed_row m k t e o)
      refl refl refl refl

  array_copied : (m k : ℕ) (t : Typ) → is_array t ≡ true → is_some (size_in c.classes t) ≡ true → is_ready c.classes true t ≡ true
      → (traits_at c m).copy ≡ function k → is_class m (form_in (element_of t)) ≡ true
      → CopiesOne s t (node (Elements (count_in t) (size_of c.classes (element_of t))) t Prvalue at
      (more (node (CopyConstruct k) (element_of t) Prvalue at none) (destroys c at (element_of t))))
  array_copied m k t n z q e o =
      let u : Typ = element_of t in
      let x = elements_law c.classes true t z q in
      let d : DestroysOne s u (destroys c at u) = destructions_law s c at u i makers.specials x.sized x.ready x.single in
      record {
        fits = λ p full. node_fits s p CopyInit (Elements (count_in t) (size_of c.classes u)) t Prvalue at
            (more (node (CopyConstruct k) u Prvalue at none) (destroys c at u)) (and_any (CopyInit ∷ []) Destruction) refl refl refl refl
            (elements_row s c t (record { kind = CopyConstruct k; typ = u; cat = Prvalue }) (heads_of (destroys c at u)) i n z q refl refl d.right) refl
            (at_least_one (heads_of (destroys c at u)) (record { kind = CopyConstruct k; typ = u; cat = Prvalue }) CopyInit Destruction) refl
            (copied_kids s p (node (CopyConstruct k) u Prvalue at none) (destroys c at u) full (constructed_fits m k u e o p full) d.fit);
        builds = or_left _ (or_left _ (typ_refl t));
      }

  function_copied : (m k : ℕ) (t : Typ) (b : Bool) → is_array t ≡ b → is_some (size_in c.classes t) ≡ true → is_ready c.classes true t ≡ true
      → (traits_at c m).copy ≡ function k → is_class m (form_in (element_of t)) ≡ true
      → CopiesOne s t (if b then node (Elements (count_in t) (size_of c.classes (element_of t))) t Prvalue at
      (more (node (CopyConstruct k) (element_of t) Prvalue at none) (destroys c at (element_of t))) else node (CopyConstruct k) t Prvalue at none)
  function_copied m k t true n z q e o = array_copied m k t n z q e o
  function_copied m k t false n z q e o = record {
    fits = constructed_fits m k t e (ap (λ (u : Typ). is_class m (form_in u))
        (sym (own_element (class_ready (length c.classes) c.classes true) true t n q)) ∙ o);
    builds = or_left _ (or_left _ (typ_refl t));
  }

  special_copied : (m : ℕ) (t : Typ) (x : Special) → (traits_at c m).copy ≡ x → is_some (size_in c.classes t) ≡ true → is_ready c.classes true t ≡ true
      → is_class m (form_in (element_of t)) ≡ true → CopiesOne s t (copied_part c at t x)
  special_copied m t absent e z q o = copies_law s c at t i z q
  special_copied m t trivial e z q o = copies_law s c at t i z q
  special_copied m t (function k) e z q o = function_copied m k t (is_array t) refl z q e o

  held_copied : (t : Typ) (x : Option ℕ) → class_number (element_of t) ≡ x → is_some (size_in c.classes t) ≡ true → is_ready c.classes true t ≡ true
      → CopiesOne s t (copied_part c at t (copy_of_held c x))
  held_copied t (Some m) e z q = special_copied m t (traits_at c m).copy refl z q (class_is (form_in (element_of t)) m e)
  held_copied t None e z q = copies_law s c at t i z q

  -- a part of a lambda's object
  pub part_copied : (p : Part) → is_some (size_in c.classes p.typ) ≡ true → is_ready c.classes true p.typ ≡ true → CopiesOne s p.typ (closure_part c at p)
  part_copied p z q = held_copied p.typ (class_number (element_of p.typ)) refl z q

  piece_fits : (p : Part) → is_some (size_in c.classes p.typ) ≡ true → is_ready c.classes true p.typ ≡ true → has_lambdas p.typ ≡ false
      → FitsAs s CopiedPart (closure_piece c at p)
  piece_fits p z q n = λ x full.
      let k : CopiesOne s p.typ (closure_part c at p) = part_copied p z q in
      let d : DestroysOne s p.typ (destroys c at p.typ) = destructions_law s c at p.typ i makers.specials z q n in
      node_fits s x CopiedPart (Piece p.offset) p.typ Prvalue at (more (closure_part c at p) (destroys c at p.typ)) (and_any (CopyInit ∷ []) Destruction)
      refl refl refl refl (both k.builds d.right) refl
      (at_least_one (heads_of (destroys c at p.typ)) (head_of (closure_part c at p)) CopyInit Destruction) refl
      (copied_kids s x (closure_part c at p) (destroys c at p.typ) full (k.fits x full) d.fit)

  pieces_kids : (q v : Bool) (x : Position) (ps : List Part) (j : ℕ) → x.full ≡ true
      → ((k : ℕ) (p : Part) → slice_get ps k ≡ Some p → FitsAs s CopiedPart (closure_piece c at (qualified_part q v p)))
      → kids_fit s x (and_any [] CopiedPart) j (closure_pieces c at q v ps) ≡ true
  pieces_kids q v x [] j full h = refl
  pieces_kids q v x (p ∷ ps) j full h = both (both refl (h 0 p refl x full)) (pieces_kids q v x ps (suc j) full (λ k r g. h (suc k) r g))

  pieces_heads : (q v : Bool) (ps : List Part)
      → heads_of (pieces (closure_part c at) (λ (p : Part). qualified q v p.typ) at ps) ≡ heads_of (closure_pieces c at q v ps)
  pieces_heads q v [] = refl
  pieces_heads q v (p ∷ ps) = ap (λ (hs : List Head). record { kind = Piece p.offset; typ = qualified q v p.typ; cat = Prvalue } ∷ hs) (pieces_heads q v ps)

  copy_by : (n : ℕ) (q v : Bool) (p : ℕ → Bool) → lambda n ≡ true → list_all (part_ready p true) (parts_of c.classes n) ≡ true
      → Sized c.classes (typ (class n) q v)
      → CopiesOne s (typ (closure n) q v) (node Pieces (typ (closure n) q v) Prvalue at (closure_pieces c at q v (parts_of c.classes n)))
  copy_by n q v p is_lambda ready z =
      let l = laid_from c.classes n q v z in
      let ps : List Part = parts_of c.classes n in
      let e : ps ≡ parts_in c.classes n (Some l.owner) = ap (parts_in c.classes n) l.found in
      let y : list_all (part_ready p true) (parts_in c.classes n (Some l.owner)) ≡ true = ap (list_all (part_ready p true)) (sym e) ∙ ready in
      let few = few_members c.classes i.ordered n l p true y in
      let part : (j : ℕ) (x : Part) → slice_get ps j ≡ Some x → IsPart c.classes n l.number j x =
      λ j x g. part_is c.classes i.ordered n l few j x (ap (λ (z : List Part). slice_get z j) (sym e) ∙ g) in
      let kids : Trees = closure_pieces c at q v ps in
      let each : (j : ℕ) (x : Part) → slice_get ps j ≡ Some x → FitsAs s CopiedPart (closure_piece c at (qualified_part q v x)) =
      λ j x g. let w = makers.captures n j x is_lambda g in
      piece_fits (qualified_part q v x) (ap is_some (size_is c.classes (qualified q v x.typ) (qualified_sized c.classes q v x.typ (part j x g).sized)))
      (qualified_ready (class_ready (length c.classes) c.classes true) true q v x.typ w.ready) (qualified_single q v x.typ w.single) in
      let agree : are_part_pieces c.classes q v n 0 (heads_of kids) ≡ true =
      subst (λ (hs : List Head). are_part_pieces c.classes q v n 0 hs ≡ true) (pieces_heads q v ps)
      (pieces_agree c.classes n q v (closure_part c at) at ps 0
      (λ j x g. let o : j ≡ 0 + j = omega arith in subst (λ (k : ℕ). part_of c.classes n k ≡ Some (shown x)) o (part j x g).is)
      (let a = ap length e in let b = count_is c.classes i.ordered n l few in omega arith)) in
      let sized : is_some (sized_class c.classes n) ≡ true = ap is_some (sized_class_is c.classes n l) in
      let same = i.classes in
      let row : row_fits s Pieces (typ (closure n) q v) Prvalue (heads_of kids) ≡ true = rw (same, sized, agree) refl in
      record {
        fits = λ x full. node_fits s x CopyInit Pieces (typ (closure n) q v) Prvalue at kids (and_any [] CopiedPart) refl refl refl refl row refl
            (any_many CopiedPart (length (heads_of kids))) refl (pieces_kids q v x ps 0 full each);
        builds = or_left _ (or_left _ (typ_refl (typ (closure n) q v)));
      }

  depth_copy : (depth n : ℕ) (q v : Bool) → depth ≡ length c.classes → lambda n ≡ true → class_ready depth c.classes true n ≡ true
      → Sized c.classes (typ (class n) q v)
      → CopiesOne s (typ (closure n) q v) (node Pieces (typ (closure n) q v) Prvalue at (closure_pieces c at q v (parts_of c.classes n)))
  depth_copy zero n q v e k h z =
      let l = laid_from c.classes n q v z in let w = slice_get_within c.classes n l.owner l.found in absurd (omega arith)
  depth_copy (suc depth) n q v e k h z = copy_by n q v (class_ready depth c.classes true) k h z

  -- the copy of a lambda's object
  pub closure_copy : (n : ℕ) (q v : Bool) → lambda n ≡ true → is_whole c.classes (typ (closure n) q v) ≡ true
      → CopiesOne s (typ (closure n) q v) (node Pieces (typ (closure n) q v) Prvalue at (closure_pieces c at q v (parts_of c.classes n)))
  closure_copy n q v k h =
      let z = sized_from c.classes (typ (closure n) q v) (whole_sized c.classes (typ (closure n) q v) h) in
      depth_copy (length c.classes) n q v refl k (whole_ready c.classes (typ (closure n) q v) h) (record { complete = z.complete; within = z.within })
