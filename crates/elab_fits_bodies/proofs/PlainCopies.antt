-- What copies an lvalue has no temporary with a destructor in it.
use Rattle.std.proofs.Common.{◌≡◌, refl, sym, ap, subst, ℕ, zero, suc, Bool, true, false, not, ◌&&◌, ◌||◌, List, [], ◌∷◌, length, Option, Some, None}
use Rattle.std.specs.Prelude.{if◌then◌else◌}
use Rattle.elab_rules.specs.tx_ints.declared.kinds.IntKind.{IntKind}
use Rattle.elab_rules.specs.cpp_types.Typ.{Typ, typ, Form, void, int, enum, null, ptr, ref, array, func, class, closure, tx_ex, Typs, none as no_typs, more as and_typ}
use Rattle.elab_rules.specs.cpp_types.Class.{Class}
use Rattle.elab_rules.specs.cpp_types.Conversion.{referred}
use Rattle.elab_rules.specs.cpp_types.Equal.{typ_eq, kind_eq, form_eq}
use Rattle.elab_rules.specs.cpp_types.declared.classes.At.{At}
use Rattle.elab_rules.specs.cpp_types.declared.ranks.Binding.{Binding}
use Rattle.elab_rules.specs.cpp_types.declared.ranks.Binding.TheVariants.{Value, Direct, Temporary}
use Rattle.elab_rules.specs.cpp_types.declared.ranks.Cat.{Cat}
use Rattle.elab_rules.specs.cpp_types.declared.ranks.Cat.TheVariants.{Lvalue, Prvalue}
use Rattle.elab_rules.specs.cpp_types.declared.ranks.Step.{Step}
use Rattle.elab_rules.specs.cpp_types.declared.ranks.Step.TheVariants.{NullPointer}
use Rattle.elab_rules.specs.cpp_overload.Choosing.{chosen}
use Rattle.elab_rules.specs.cpp_tree.declared.kinds.TKind.TheVariants.{Pieces}
use Rattle.elab_rules.specs.cpp_tree.declared.faults.IllRule.TheVariants.{NoConversion, NoCopy, OutOfProfile}
use Rattle.elab_rules.specs.cpp_tree.Trees.{Tree, node, one, two, typ_in, cat_of}
use Rattle.elab_rules.specs.cpp_tree.Typing.{form_in, kind_in, unqualified, is_volatile_typ, is_class_typ, is_class_prvalue, without_exception}
use Rattle.elab_rules.specs.elab_ctx.Ctx.{Ctx, Work, Special, absent, trivial, function}
use Rattle.elab_rules.specs.elab_ctx.Steps.{expect, check, Operand, Made, MadeAll}
use Rattle.elab_rules.specs.Values.{loaded, value_in, valued, retyped_if, between, stepped, stored_as, stored, temporary, builder}
use Rattle.elab_rules.specs.Objects.{Part, whole, whole_form, class_whole, as_closure, pieces, copy_leaf, copied_scalar, copies, parts_of, traits_at, is_array, element_of}
use Rattle.elab_rules.specs.Objects.{destroys}
use Rattle.elab_rules.specs.Initialising.{object_of, bound_by, conversion, initial, argument, meant, makers, constructor_at, parameters_at, as_base}
use Rattle.elab_rules.specs.Initialising.{as_source, reference_word, constructed_copy, has_copy, copied_object, copied_part, copy_of_held, closure_part, closure_piece, qualified_part}
use Rattle.elab_rules.specs.Initialising.{closure_pieces, class_from, class_number, same_number, is_closure_itself, is_prvalue_of_class}
use Rattle.elab_rules.specs.Initialising.{is_same_or_base, makeable}
use Rattle.elab_rules.specs.Statements.{holds_temporary, hold_temporary}
use Rattle.elab_fits.specs.Standing.{On}
use Rattle.elab_fits.proofs.Nodes.{clash}
use Rattle.elab_fits.proofs.Steps.{bind, skip, either}
use Rattle.elab_fits_bodies.proofs.Plain.{none_of, plain_if, destroys_plain, IsPlain}

-- Kids

pub one_plain : (e : Tree) → IsPlain e → hold_temporary (one e) ≡ false
one_plain e h = none_of (holds_temporary e) false h refl

pub two_plain : (a b : Tree) → IsPlain a → IsPlain b → hold_temporary (two a b) ≡ false
two_plain a b h g = none_of (holds_temporary a) (hold_temporary (one b)) h (one_plain b g)

-- Values

loaded_plain : (at : At) (o : Option IntKind) (e : Tree) → IsPlain e → IsPlain (loaded at o e)
loaded_plain at (Some k) e h = one_plain e h
loaded_plain at None e h = h

value_plain : (at : At) (f : Form) (cat : Cat) (e : Tree) → IsPlain e → IsPlain (value_in at f cat e)
value_plain at (func s) cat e h = one_plain e h
value_plain at (array t n) cat e h = one_plain e h
value_plain at f Lvalue e h = loaded_plain at (kind_in f) e h
value_plain at f Prvalue e h = h

pub valued_plain : (at : At) (e : Tree) → IsPlain e → IsPlain (valued at e)
valued_plain at e h = value_plain at (form_in (typ_in e)) (cat_of e) e h

retyped_plain : (at : At) (b : Bool) (t : Typ) (v : Tree) → IsPlain v → IsPlain (retyped_if at b t v)
retyped_plain at true t v h = h
retyped_plain at false t v h = one_plain v h

between_plain : (at : At) (j k : Option IntKind) (t : Typ) (v : Tree) → IsPlain v → IsPlain (between at j k t v)
between_plain at (Some j) (Some k) t v h = plain_if (kind_eq j k) _ _ (retyped_plain at (typ_eq t (typ_in v)) t v h) (one_plain v h)
between_plain at (Some j) None t v h = h
between_plain at None (Some k) t v h = h
between_plain at None None t v h = h

stepped_plain : (at : At) (step : Step) (t : Typ) (v : Tree) → IsPlain v → IsPlain (stepped at step t v)
stepped_plain at NullPointer t v h = one_plain v h
stepped_plain at step t v h = between_plain at (kind_in (form_in (typ_in v))) (kind_in (form_in t)) (unqualified t) v h

stored_by : (at : At) (o : Option IntKind) (t : Typ) (v : Tree) → IsPlain v → IsPlain (stored_as at o t v)
stored_by at (Some k) t v h = one_plain v h
stored_by at None t v h = h

pub stored_plain : (at : At) (t : Typ) (v : Tree) → IsPlain v → IsPlain (stored at t v)
stored_plain at t v h = stored_by at (kind_in (form_in t)) t v h

-- Copies, scalar by scalar

scalar_plain : (o : Option IntKind) (t : Typ) (at : At) → IsPlain (copied_scalar o t at)
scalar_plain (Some k) t at = refl
scalar_plain None t at = refl

leaf_plain : (t : Typ) (at : At) → IsPlain (copy_leaf t at)
leaf_plain t at = scalar_plain (kind_in (form_in t)) t at

pieces_plain : (each : Part → Tree) (type : Part → Typ) (at : At) (ps : List Part) → ((p : Part) → IsPlain (each p)) → hold_temporary (pieces each type at ps) ≡ false
pieces_plain each type at [] h = refl
pieces_plain each type at (p ∷ ps) h = none_of (hold_temporary (one (each p))) (hold_temporary (pieces each type at ps)) (one_plain (each p) (h p))
    (pieces_plain each type at ps h)

module _ (classes : List Class) (at : At) where
  module _ (each : ℕ → Bool → Bool → Tree) (h : (n : ℕ) (c v : Bool) → IsPlain (each n c v)) where
    closure_plain : (n : ℕ) (c v : Bool) (e : Tree) → IsPlain e → IsPlain (as_closure n c v e)
    closure_plain n c v (node kind t cat p kids) g = g

    form_plain : (c v : Bool) (f : Form) → IsPlain (whole_form each copy_leaf classes at c v f)
    form_plain c v void = leaf_plain (typ void c v) at
    form_plain c v (int k) = leaf_plain (typ (int k) c v) at
    form_plain c v (enum n s) = leaf_plain (typ (enum n s) c v) at
    form_plain c v null = leaf_plain (typ null c v) at
    form_plain c v (ptr t) = leaf_plain (typ (ptr t) c v) at
    form_plain c v (ref t) = leaf_plain (typ (ref t) false false) at
    form_plain c v (array (typ f d w) n) = one_plain (whole_form each copy_leaf classes at (c || d) (v || w) f) (form_plain (c || d) (v || w) f)
    form_plain c v (func s) = leaf_plain (typ (func s) c v) at
    form_plain c v (class n) = h n c v
    form_plain c v (closure n) = closure_plain n c v (each n c v) (h n c v)
    form_plain c v (tx_ex (typ f d w)) = form_plain c v f

    typ_plain : (c v : Bool) (t : Typ) → IsPlain (whole each copy_leaf classes at c v t)
    typ_plain c v (typ f d w) = form_plain (c || d) (v || w) f

  class_plain : (depth n : ℕ) (c v : Bool) → IsPlain (class_whole depth copy_leaf classes at n c v)
  class_plain zero n c v = refl
  class_plain (suc depth) n c v = pieces_plain (λ (p : Part). whole (class_whole depth copy_leaf classes at) copy_leaf classes at c v p.typ) _ at (parts_of classes n)
      (λ p. typ_plain (class_whole depth copy_leaf classes at) (class_plain depth) c v p.typ)

  pub copies_plain : (t : Typ) → IsPlain (copies classes at t)
  copies_plain t = typ_plain (class_whole (length classes) copy_leaf classes at) (class_plain (length classes)) false false t

-- Copies of what lambdas captured, and of elements

special_plain : (c : Ctx) (at : At) (t : Typ) (x : Special) → IsPlain (copied_part c at t x)
special_plain c at t (function k) = plain_if (is_array t) _ _ (destroys_plain c at (element_of t)) refl
special_plain c at t absent = copies_plain c.classes at t
special_plain c at t trivial = copies_plain c.classes at t

pub part_plain : (c : Ctx) (at : At) (p : Part) → IsPlain (closure_part c at p)
part_plain c at p = special_plain c at p.typ (copy_of_held c (class_number (element_of p.typ)))

closure_pieces_plain : (c : Ctx) (at : At) (q v : Bool) (ps : List Part) → hold_temporary (closure_pieces c at q v ps) ≡ false
closure_pieces_plain c at q v [] = refl
closure_pieces_plain c at q v (p ∷ ps) = none_of (holds_temporary (closure_piece c at (qualified_part q v p))) (hold_temporary (closure_pieces c at q v ps))
    (none_of (holds_temporary (closure_part c at (qualified_part q v p))) (hold_temporary (destroys c at (qualified_part q v p).typ))
    (part_plain c at (qualified_part q v p)) (destroys_plain c at (qualified_part q v p).typ)) (closure_pieces_plain c at q v ps)

-- Objects of classes, from an lvalue

based_plain : (at : At) (n : ℕ) (t : Typ) (e : Tree) → IsPlain e → IsPlain (as_base at n t e)
based_plain at n (typ f c v) e h = one_plain e h

pub source_plain : (at : At) (n : ℕ) (e : Tree) → IsPlain e → IsPlain (as_source at n e)
source_plain at n e h = plain_if (same_number n (class_number (typ_in e))) e (as_base at n (typ_in e) e) h (based_plain at n (typ_in e) e h)

abbrev MadePlain : Made → Type 0
MadePlain m = IsPlain m.tree

abbrev AllPlain : MadeAll → Type 0
AllPlain m = hold_temporary m.trees ≡ false

module _ (c : Ctx) (w : Work) (o : Operand) (l : cat_of o.tree ≡ Lvalue) (h : IsPlain o.tree) where
  no_prvalue : is_class_prvalue (typ_in o.tree) (cat_of o.tree) ≡ false
  no_prvalue = ap (λ (x : Cat). is_class_prvalue (typ_in o.tree) x) l

  object_plain : (at : At) → IsPlain (object_of c w at o.tree).tree
  object_plain at = subst (λ (b : Bool). IsPlain (if b then temporary w (typ_in o.tree) at (builder o.tree) (destroys c at (typ_in o.tree)) else
      record { tree = o.tree; work = w }).tree) (sym no_prvalue) h

  bound_plain : (b : Binding) (step : Step) (t : Typ) (at : At) → IsPlain (bound_by c w b step t at o.tree).tree
  bound_plain Value step t at = stepped_plain at step t (valued at o.tree) (valued_plain at o.tree h)
  bound_plain Direct step t at = plain_if (typ_eq (referred t) (typ_in (object_of c w at o.tree).tree)) _ _ (object_plain at)
      (one_plain (object_of c w at o.tree).tree (object_plain at))
  bound_plain Temporary step t at = one_plain (stored at (unqualified (referred t)) (stepped at step (referred t) (valued at o.tree)))
      (stored_plain at (unqualified (referred t)) (stepped at step (referred t) (valued at o.tree))
      (stepped_plain at step (referred t) (valued at o.tree) (valued_plain at o.tree h)))

  initial_plain : (t : Typ) → On MadePlain (initial c w t o)
  initial_plain t = skip MadePlain (expect o.at NoConversion (conversion c t o)) _ (λ v. bound_plain v.binding v.step t o.at)

  word_plain : (ps : Typs) → On AllPlain (reference_word c w ps o)
  word_plain no_typs = tt
  word_plain (and_typ p no_typs) = skip AllPlain (check o.at OutOfProfile (not (is_class_typ p))) _
      (λ y. bind MadePlain AllPlain (initial c w p o) _ (initial_plain p) (λ m g. one_plain m.tree g))
  word_plain (and_typ p (and_typ r ps)) = tt

  constructed_plain : (n : ℕ) (t : Typ) (at : At) (x : Option ℕ) → On MadePlain (constructed_copy c w n t at o x)
  constructed_plain n t at None = two_plain (as_source o.at n (object_of c w o.at o.tree).tree) (copies c.classes at t)
      (source_plain o.at n (object_of c w o.at o.tree).tree (object_plain o.at)) (copies_plain c.classes at t)
  constructed_plain n t at (Some k) = bind AllPlain MadePlain (reference_word c w (parameters_at c.funcs k) o) _ (word_plain (parameters_at c.funcs k)) (λ m g. g)

  copied_plain : (n : ℕ) (t : Typ) (at : At) → On MadePlain (copied_object c w n t at o)
  copied_plain n t at = skip MadePlain (check o.at NoCopy (not (is_volatile_typ (typ_in o.tree)) && has_copy (traits_at c n).copy)) _
      (λ y. skip MadePlain (meant at (chosen c.classes (makers c n) (argument o ∷ []))) _
      (λ i. constructed_plain n t at (constructor_at c n i)))

  no_itself : (n : ℕ) → is_prvalue_of_class n o.tree ≡ false
  no_itself n = ap (λ (b : Bool). b && same_number n (class_number (typ_in o.tree))) no_prvalue

  pub from_plain : (t : Typ) (at : At) → On MadePlain (class_from c w t at o)
  from_plain (typ (closure n) q v) at = either MadePlain (is_closure_itself n q v o.tree) _ _ (λ e. h)
      (λ e. skip MadePlain (check o.at NoConversion (same_number n (class_number (typ_in o.tree)))) _
      (λ y. skip MadePlain (check o.at NoCopy (not (is_volatile_typ (typ_in o.tree)))) _
      (λ z. two_plain (object_of c w o.at o.tree).tree (node Pieces (typ (closure n) q v) Prvalue at (closure_pieces c at q v (parts_of c.classes n))) (object_plain o.at) (closure_pieces_plain c at q v (parts_of c.classes n)))))
  from_plain (typ (class n) q v) at = skip MadePlain (makeable c at n) _
      (λ k. either MadePlain (is_prvalue_of_class n o.tree) _ _ (λ e. clash _ (is_prvalue_of_class n o.tree) (no_itself n) e)
      (λ e. skip MadePlain (check o.at NoConversion (is_same_or_base c.classes (class_number (typ_in o.tree)) (Some n))) _
      (λ y. copied_plain n (typ (class n) q v) at)))
  from_plain (typ (tx_ex t) q v) at = skip MadePlain (check o.at NoConversion (form_eq (form_in (typ_in o.tree)) (tx_ex t))) _
      (λ y. either MadePlain (is_class_prvalue (typ_in o.tree) (cat_of o.tree)) _ _
      (λ e. clash _ (is_class_prvalue (typ_in o.tree) (cat_of o.tree)) no_prvalue e)
      (λ e. skip MadePlain (check o.at NoCopy (not (is_volatile_typ (typ_in o.tree)))) _
      (λ z. two_plain o.tree (copies c.classes at (without_exception (typ (tx_ex t) q v))) h (copies_plain c.classes at (without_exception (typ (tx_ex t) q v))))))
  from_plain (typ void q v) at = tt
  from_plain (typ (int k) q v) at = tt
  from_plain (typ (enum n s) q v) at = tt
  from_plain (typ null q v) at = tt
  from_plain (typ (ptr t) q v) at = tt
  from_plain (typ (ref t) q v) at = tt
  from_plain (typ (array t n) q v) at = tt
  from_plain (typ (func s) q v) at = tt
