-- What is done to each part of an object has no places: zeros, copies, destructions, and the scalars of an exception.
use Rattle.std.proofs.Common.{◌≡◌, refl, ap, ◌∙◌, ℕ, zero, suc, ◌+◌, Bool, true, false, not, ◌&&◌, ◌||◌, List, [], ◌∷◌, length, Option, Some, None, arith}
use Rattle.elab_rules.specs.tx_ints.declared.kinds.IntKind.{IntKind}
use Rattle.elab_rules.specs.cpp_types.Typ.{Typ, typ, Form, void, int, enum, null, ptr, ref, array, func, class, closure, tx_ex}
use Rattle.elab_rules.specs.cpp_types.Class.{Class}
use Rattle.elab_rules.specs.cpp_types.declared.classes.At.{At}
use Rattle.elab_rules.specs.cpp_tree.Trees.{Tree, node, Trees, none, more}
use Rattle.elab_rules.specs.cpp_tree.Typing.{form_in, kind_in, qualified, unqualified}
use Rattle.elab_rules.specs.cpp_tree.Notation.{plain}
use Rattle.elab_rules.specs.cpp_tree.declared.kinds.TKind.TheVariants.{Literal, Pieces}
use Rattle.elab_rules.specs.cpp_types.declared.ranks.Cat.TheVariants.{Prvalue}
use Rattle.elab_rules.specs.tx_ints.declared.kinds.IntKind.TheVariants.{ULong}
use Rattle.elab_rules.specs.elab_ctx.Ctx.{Ctx, Special, absent, trivial, function}
use Rattle.elab_rules.specs.Objects
use Rattle.elab_rules.specs.Objects.{Part, Leaf, parts_of, element_of, is_array}
use Rattle.elab_rules.specs.Values
use Rattle.elab_rules.specs.Initialising
use Rattle.elab_fits.specs.Standing.{On}
use Rattle.elab_fits.proofs.Steps.{skip, choose}
use Rattle.std.proofs.lemmas.Bool.{and_from}
use Rattle.elab_fits_braces.specs.Qualified.{is_made, are_made}
use Rattle.elab_movable.specs.Movable.{Sought, one_if, is_named_class, held, all_held}

module _ (g : Sought) where
  pub followed : (ts us : Trees) → all_held g (Objects.followed_by ts us) ≡ all_held g ts + all_held g us
  followed none us = omega arith
  followed (more t ts) us = omega (arith, followed ts us)

  -- Destructions

  destroyed : (s : Special) (offset count stride : ℕ) (at : At) → all_held g (Objects.destroyed s offset count stride at) ≡ 0
  destroyed absent offset count stride at = refl
  destroyed trivial offset count stride at = refl
  destroyed (function k) offset count stride at = refl

  destroys_in : (c : Ctx) (offset : ℕ) (at : At) (t : Typ) (f : Form) → all_held g (Objects.destroys_in c offset at t f) ≡ 0
  destroys_in c offset at t (class n) = destroyed (Objects.traits_at c n).destructor offset (Objects.count_in t) (Objects.stride_of c.classes t) at
  destroys_in c offset at t (tx_ex e) = refl
  destroys_in c offset at t f = refl

  backwards : (each : Part → Trees) (ps : List Part) → ((p : Part) → all_held g (each p) ≡ 0) → all_held g (Objects.backwards each ps) ≡ 0
  backwards each [] h = refl
  backwards each (p ∷ ps) h = omega (arith, followed (Objects.backwards each ps) (each p), backwards each ps h, h p)

  destroys_of : (c : Ctx) (at : At) (t : Typ) (f : Form) → all_held g (Objects.destroys_of c at t f) ≡ 0
  destroys_of c at t (closure n) =
      backwards (Objects.destroys_at c at) (parts_of c.classes n) (λ p. destroys_in c p.offset at p.typ (form_in (element_of p.typ)))
  destroys_of c at t f = destroys_in c 0 at t f

  pub destroys : (c : Ctx) (at : At) (t : Typ) → all_held g (Objects.destroys c at t) ≡ 0
  destroys c at t = destroys_of c at t (form_in (element_of t))

  -- Scalars of an exception

  scalar_field : (at : At) (offset : ℕ) (o : Option IntKind) → all_held g (Objects.scalar_field at offset o) ≡ 0
  scalar_field at offset (Some k) = refl
  scalar_field at offset None = refl

  fields_of_parts : (each : Part → Trees) (ps : List Part) → ((p : Part) → all_held g (each p) ≡ 0) → all_held g (Objects.fields_of_parts each ps) ≡ 0
  fields_of_parts each [] h = refl
  fields_of_parts each (p ∷ ps) h = omega (arith, followed (each p) (Objects.fields_of_parts each ps), fields_of_parts each ps h, h p)

  repeated : (each : ℕ → Trees) (offset stride n : ℕ) → ((o : ℕ) → all_held g (each o) ≡ 0) → all_held g (Objects.repeated each offset stride n) ≡ 0
  repeated each offset stride zero h = refl
  repeated each offset stride (suc n) h =
      omega (arith, followed (each offset) (Objects.repeated each (offset + stride) stride n), repeated each (offset + stride) stride n h, h offset)

  mutual
    fields_in : (each : ℕ → ℕ → Trees) (classes : List Class) (at : At) (offset : ℕ) (t : Typ) → ((n o : ℕ) → all_held g (each n o) ≡ 0)
        → all_held g (Objects.fields_in each classes at offset t) ≡ 0
    fields_in each classes at offset (typ f c v) h = fields_form each classes at offset f h

    fields_form : (each : ℕ → ℕ → Trees) (classes : List Class) (at : At) (offset : ℕ) (f : Form) → ((n o : ℕ) → all_held g (each n o) ≡ 0)
        → all_held g (Objects.fields_form each classes at offset f) ≡ 0
    fields_form each classes at offset (array t n) h =
        repeated (λ o. Objects.fields_in each classes at o t) offset (Objects.size_of classes t) n (λ o. fields_in each classes at o t h)
    fields_form each classes at offset (class n) h = h n offset
    fields_form each classes at offset (closure n) h = h n offset
    fields_form each classes at offset (tx_ex t) h = fields_in each classes at offset t h
    fields_form each classes at offset f h = scalar_field at offset (kind_in f)

  class_fields : (depth : ℕ) (classes : List Class) (at : At) (n offset : ℕ) → all_held g (Objects.class_fields depth classes at n offset) ≡ 0
  class_fields zero classes at n offset = refl
  class_fields (suc depth) classes at n offset =
      fields_of_parts (λ (p : Part). Objects.fields_in (Objects.class_fields depth classes at) classes at (offset + p.offset) p.typ) (parts_of classes n)
      (λ p. fields_in (Objects.class_fields depth classes at) classes at (offset + p.offset) p.typ (class_fields depth classes at))

  pub fields : (classes : List Class) (at : At) (t : Typ) → all_held g (Objects.fields classes at t) ≡ 0
  fields classes at t = fields_in (Objects.class_fields (length classes) classes at) classes at 0 t (class_fields (length classes) classes at)

  -- What is done to each scalar: it holds nothing, and is made by itself

  abbrev IsBare : Tree → Type 0
  IsBare e = (held g e ≡ 0) × (is_made e ≡ true)

  -- objects of classes, as those of lambdas too
  record Bare (each : ℕ → Bool → Bool → Tree) : Type 0 where
    class : (n : ℕ) (c v : Bool) → IsBare (each n c v)
    closure : (n : ℕ) (c v : Bool) → IsBare (Objects.as_closure n c v (each n c v))

  none_of : (b : Bool) → one_if (b && false) ≡ 0
  none_of true = refl
  none_of false = refl

  mutual
    whole : (each : ℕ → Bool → Bool → Tree) (leaf : Leaf) (classes : List Class) (at : At) (c v : Bool) (t : Typ)
        → Bare each → ((u : Typ) (p : At) → IsBare (leaf u p)) → IsBare (Objects.whole each leaf classes at c v t)
    whole each leaf classes at c v (typ f d w) h i = whole_form each leaf classes at (c || d) (v || w) f h i

    whole_form : (each : ℕ → Bool → Bool → Tree) (leaf : Leaf) (classes : List Class) (at : At) (c v : Bool) (f : Form)
        → Bare each → ((u : Typ) (p : At) → IsBare (leaf u p)) → IsBare (Objects.whole_form each leaf classes at c v f)
    whole_form each leaf classes at c v (array t n) h i = let a = whole each leaf classes at c v t h i in let x = a.0 in (omega arith, a.1)
    whole_form each leaf classes at c v (class n) h i = h.class n c v
    whole_form each leaf classes at c v (closure n) h i = h.closure n c v
    whole_form each leaf classes at c v (tx_ex (typ f d w)) h i = whole_form each leaf classes at c v f h i
    whole_form each leaf classes at c v void h i = i _ at
    whole_form each leaf classes at c v (int k) h i = i _ at
    whole_form each leaf classes at c v (enum n s) h i = i _ at
    whole_form each leaf classes at c v null h i = i _ at
    whole_form each leaf classes at c v (ptr t) h i = i _ at
    whole_form each leaf classes at c v (ref t) h i = i _ at
    whole_form each leaf classes at c v (func s) h i = i _ at

  abbrev AreBare : Trees → Type 0
  AreBare ts = (all_held g ts ≡ 0) × (are_made ts ≡ true)

  pieces : (each : Part → Tree) (type : Part → Typ) (at : At) (ps : List Part) → ((p : Part) → IsBare (each p)) → AreBare (Objects.pieces each type at ps)
  pieces each type at [] h = (refl, refl)
  pieces each type at (p ∷ ps) h = let a = h p in let b = pieces each type at ps h in let x = a.0 in let y = b.0 in
      (omega arith, and_from (is_made (each p)) (are_made (Objects.pieces each type at ps)) a.1 b.1)

  class_pieces : (depth : ℕ) (leaf : Leaf) (classes : List Class) (at : At) (n : ℕ) (c v : Bool) → Bare (Objects.class_whole depth leaf classes at)
      → ((u : Typ) (p : At) → IsBare (leaf u p))
      → AreBare (Objects.pieces (λ (p : Part). Objects.whole (Objects.class_whole depth leaf classes at) leaf classes at c v p.typ)
      (λ (p : Part). qualified c v p.typ) at (parts_of classes n))
  class_pieces depth leaf classes at n c v h i = pieces
      (λ (p : Part). Objects.whole (Objects.class_whole depth leaf classes at) leaf classes at c v p.typ) (λ (p : Part). qualified c v p.typ) at
      (parts_of classes n) (λ p. whole (Objects.class_whole depth leaf classes at) leaf classes at c v p.typ h i)

  object_bare : (t : Typ) (at : At) (ts : Trees) → AreBare ts → IsBare (node Pieces t Prvalue at ts)
  object_bare t at ts h =
      let m = h.1 in let x = h.0 in
      let a : one_if (is_named_class t && not (are_made ts)) ≡ 0 = ap (λ (b : Bool). one_if (is_named_class t && not b)) m ∙ none_of (is_named_class t) in
      (omega arith, m)

  class_whole : (depth : ℕ) (leaf : Leaf) (classes : List Class) (at : At) → ((u : Typ) (p : At) → IsBare (leaf u p))
      → Bare (Objects.class_whole depth leaf classes at)
  class_whole zero leaf classes at i = record {
    class = λ n c v. object_bare (typ (class n) c v) at none (refl, refl);
    closure = λ n c v. object_bare (typ (closure n) c v) at none (refl, refl);
  }
  class_whole (suc depth) leaf classes at i = record {
    class = λ n c v. object_bare (typ (class n) c v) at _ (class_pieces depth leaf classes at n c v (class_whole depth leaf classes at i) i);
    closure = λ n c v. object_bare (typ (closure n) c v) at _ (class_pieces depth leaf classes at n c v (class_whole depth leaf classes at i) i);
  }

  each_scalar : (leaf : Leaf) (classes : List Class) (at : At) (t : Typ) → ((u : Typ) (p : At) → IsBare (leaf u p))
      → IsBare (Objects.each_scalar leaf classes at t)
  each_scalar leaf classes at t i = whole (Objects.class_whole (length classes) leaf classes at) leaf classes at false false t
      (class_whole (length classes) leaf classes at i) i

  stored_as : (at : At) (o : Option IntKind) (t : Typ) (v : Tree) → held g (Values.stored_as at o t v) ≡ held g v
  stored_as at (Some k) t v = omega arith
  stored_as at None t v = refl

  made_as : (at : At) (o : Option IntKind) (t : Typ) (v : Tree) → is_made v ≡ true → is_made (Values.stored_as at o t v) ≡ true
  made_as at (Some k) t v h = refl
  made_as at None t v h = h

  pub stored : (at : At) (t : Typ) (v : Tree) → held g (Values.stored at t v) ≡ held g v
  stored at t v = stored_as at (kind_in (form_in t)) t v

  stored_bare : (at : At) (t : Typ) (v : Tree) → held g v ≡ 0 → is_made v ≡ true → IsBare (Values.stored at t v)
  stored_bare at t v h m = (stored at t v ∙ h, made_as at (kind_in (form_in t)) t v m)

  zero_leaf : (t : Typ) (at : At) → IsBare (Objects.zero_leaf t at)
  zero_leaf (typ (ref u) c v) at = stored_bare at (typ (ref u) c v) (node (Literal 0) (plain (int ULong)) Prvalue at none) refl refl
  zero_leaf (typ f c v) at = stored_bare at (typ f c v) (node (Literal 0) (unqualified (typ f c v)) Prvalue at none) refl refl

  pub zeros : (classes : List Class) (at : At) (t : Typ) → held g (Objects.zeros classes at t) ≡ 0
  zeros classes at t = (each_scalar Objects.zero_leaf classes at t zero_leaf).0

  copied_scalar : (o : Option IntKind) (t : Typ) (at : At) → IsBare (Objects.copied_scalar o t at)
  copied_scalar (Some k) t at = (refl, refl)
  copied_scalar None t at = object_bare t at none (refl, refl)

  pub copies : (classes : List Class) (at : At) (t : Typ) → held g (Objects.copies classes at t) ≡ 0
  copies classes at t = (each_scalar Objects.copy_leaf classes at t (λ u p. copied_scalar (kind_in (form_in u)) u p)).0

  -- Copies of lambdas' objects

  copied_part : (c : Ctx) (at : At) (t : Typ) (s : Special) → held g (Initialising.copied_part c at t s) ≡ 0
  copied_part c at t (function k) = choose (λ (e : Tree). held g e ≡ 0) (is_array t) _ _ (omega (arith, destroys c at (element_of t))) refl
  copied_part c at t absent = copies c.classes at t
  copied_part c at t trivial = copies c.classes at t

  pub closure_part : (c : Ctx) (at : At) (p : Part) → held g (Initialising.closure_part c at p) ≡ 0
  closure_part c at p = copied_part c at p.typ (Initialising.copy_of_held c (Initialising.class_number (element_of p.typ)))

  closure_piece : (c : Ctx) (at : At) (p : Part) → held g (Initialising.closure_piece c at p) ≡ 0
  closure_piece c at p = omega (arith, closure_part c at p, destroys c at p.typ)

  pub closure_pieces : (c : Ctx) (at : At) (q v : Bool) (ps : List Part) → all_held g (Initialising.closure_pieces c at q v ps) ≡ 0
  closure_pieces c at q v [] = refl
  closure_pieces c at q v (p ∷ ps) = omega (arith, closure_piece c at (Initialising.qualified_part q v p), closure_pieces c at q v ps)

  -- Nothing

  each_constructed : (c : Ctx) (k : ℕ) (t : Typ) (at : At) → held g (Initialising.each_constructed c k t at) ≡ 0
  each_constructed c k t at = choose (λ (e : Tree). held g e ≡ 0) (is_array t) _ _ (omega (arith, destroys c at (element_of t))) refl

  default_by : (c : Ctx) (t : Typ) (at : At) (s : Special) → On (λ (e : Tree). held g e ≡ 0) (Initialising.default_by c t at s)
  default_by c t at absent = tt
  default_by c t at trivial = zeros c.classes at t
  default_by c t at (function k) = each_constructed c k t at

  default_in : (c : Ctx) (t : Typ) (at : At) (f : Form) → On (λ (e : Tree). held g e ≡ 0) (Initialising.default_in c t at f)
  default_in c t at (class n) = skip (λ (e : Tree). held g e ≡ 0) (Initialising.makeable c at n) _ (λ k. default_by c t at (Objects.traits_at c n).default)
  default_in c t at (tx_ex e) = tt
  default_in c t at (closure n) = tt
  default_in c t at (ref e) = tt
  default_in c t at void = tt
  default_in c t at (func s) = tt
  default_in c t at f = zeros c.classes at t

  pub from_nothing : (c : Ctx) (t : Typ) (at : At) → On (λ (e : Tree). held g e ≡ 0) (Initialising.from_nothing c t at)
  from_nothing c t at = default_in c t at (form_in (element_of t))
