-- What stands beside a tree that is made stood there for what was made before it too.
use Rattle.std.proofs.Common.{◌≡◌, ℕ, zero, suc, Bool, true, false, not, ◌&&◌, List, [], ◌∷◌, ◌++◌, slice_get, Option, Some, None, Result, Ok, Err}
use Rattle.std.specs.Prelude.{if◌then◌else◌}
use Rattle.elab_rules.specs.cpp_types.Typ.{Typ, typ, class, closure, tx_ex, array, Typs, none as no_typs, more as and_typ}
use Rattle.elab_rules.specs.cpp_overload.Choosing.{chosen}
use Rattle.elab_rules.specs.cpp_types.Equal.{form_eq}
use Rattle.elab_rules.specs.cpp_types.declared.classes.At.{At}
use Rattle.elab_rules.specs.cpp_types.declared.ranks.Step.{Step}
use Rattle.elab_rules.specs.cpp_types.declared.ranks.Binding.{Binding}
use Rattle.elab_rules.specs.cpp_types.declared.ranks.Binding.TheVariants.{Value, Direct, Temporary}
use Rattle.elab_rules.specs.cpp_tree.declared.faults.ElabFault.{ElabFault}
use Rattle.elab_rules.specs.cpp_tree.declared.faults.IllRule.TheVariants.{NoConversion, NoViable, NoCopy, BadInit, OutOfProfile}
use Rattle.elab_rules.specs.cpp_tree.Trees.{Tree, typ_in, cat_of}
use Rattle.elab_rules.specs.cpp_tree.Typing.{form_in, is_volatile_typ, unqualified, is_class_typ, is_class_prvalue, without_exception}
use Rattle.elab_rules.specs.cpp_tree.Rows.{Setting}
use Rattle.elab_rules.specs.elab_ctx.Ctx.{Ctx, Work, with_item}
use Rattle.elab_rules.specs.elab_ctx.Steps.{and_then, expect, check, Operand, Made, MadeAll}
use Rattle.elab_rules.specs.Values as Values
use Rattle.elab_rules.specs.Objects as Objects
use Rattle.elab_rules.specs.Initialising as rules
use Rattle.elab_fits.specs.Standing.{Reaches, On}
use Rattle.elab_fits.proofs.Steps.{bind, skip, either}

found_before : {A : Type 0} (xs ys : List A) (i : ℕ) (x : A) → slice_get xs i ≡ Some x → slice_get (xs ++ ys) i ≡ Some x
found_before {A} [] ys i x h = absurd cc
found_before {A} (z ∷ xs) ys zero x h = h
found_before {A} (z ∷ xs) ys (suc i) x h = found_before xs ys i x h

abbrev pub Keeps : Setting → Work → Work → Type 0
Keeps s w x = Reaches s x → Reaches s w

pub item_keeps : (s : Setting) (w : Work) (t : Typ) → Keeps s w (with_item w t)
item_keeps s w t = λ h. record { frame = λ i u g. h.frame i u (found_before w.frame (t ∷ []) i u g); globals = h.globals }

abbrev pub made : Setting → Work → Made → Type 0
made s w m = Reaches s m.work → Reaches s w

abbrev pub all_made : Setting → Work → MadeAll → Type 0
all_made s w m = Reaches s m.work → Reaches s w

moved : (s : Setting) (w x : Work) (r : Result Made ElabFault) → Keeps s w x → On (made s x) r → On (made s w) r
moved s w x (Ok m) h g = λ k. h (g k)
moved s w x (Err e) h g = tt

module _ (s : Setting) where
  object_by : (c : Ctx) (w : Work) (at : At) (e : Tree) (b : Bool)
      → Keeps s w (if b then Values.temporary w (typ_in e) at (Values.builder e) (Objects.destroys c at (typ_in e)) else record { tree = e; work = w }).work
  object_by c w at e true = item_keeps s w (typ_in e)
  object_by c w at e false = λ h. h

  pub object : (c : Ctx) (w : Work) (at : At) (e : Tree) → Keeps s w (rules.object_of c w at e).work
  object c w at e = object_by c w at e (is_class_prvalue (typ_in e) (cat_of e))

  bound : (c : Ctx) (w : Work) (b : Binding) (k : Step) (t : Typ) (at : At) (e : Tree) → Keeps s w (rules.bound_by c w b k t at e).work
  bound c w Value k t at e = λ h. h
  bound c w Direct k t at e = object c w at e
  bound c w Temporary k t at e = item_keeps s w _

  pub initial : (c : Ctx) (w : Work) (t : Typ) (o : Operand) → On (made s w) (rules.initial c w t o)
  initial c w t o = skip (made s w) (expect o.at NoConversion (rules.conversion c t o)) _ (λ v. bound c w v.binding v.step t o.at o.tree)

  reference_word : (c : Ctx) (w : Work) (ps : Typs) (o : Operand) → On (all_made s w) (rules.reference_word c w ps o)
  reference_word c w (and_typ p no_typs) o = skip (all_made s w) (check o.at OutOfProfile (not (is_class_typ p))) _
      (λ y. bind (made s w) (all_made s w) (rules.initial c w p o) _ (initial c w p o) (λ m g. g))
  reference_word c w no_typs o = tt
  reference_word c w (and_typ p (and_typ q ps)) o = tt

  constructed_copy : (c : Ctx) (w : Work) (n : ℕ) (t : Typ) (at : At) (o : Operand) (f : Option ℕ) → On (made s w) (rules.constructed_copy c w n t at o f)
  constructed_copy c w n t at o None = object c w o.at o.tree
  constructed_copy c w n t at o (Some i) = bind (all_made s w) (made s w) (rules.reference_word c w (rules.parameters_at c.funcs i) o) _
      (reference_word c w (rules.parameters_at c.funcs i) o) (λ m g. g)

  copied_object : (c : Ctx) (w : Work) (n : ℕ) (t : Typ) (at : At) (o : Operand) → On (made s w) (rules.copied_object c w n t at o)
  copied_object c w n t at o = skip (made s w) (check o.at NoCopy (not (is_volatile_typ (typ_in o.tree)) && rules.has_copy (Objects.traits_at c n).copy)) _
      (λ y. skip (made s w) (rules.meant at (chosen c.classes (rules.makers c n) (rules.argument o ∷ []))) _
      (λ i. constructed_copy c w n t at o (rules.constructor_at c n i)))

  exception_by : (c : Ctx) (w : Work) (t : Typ) (at : At) (o : Operand) (b : Bool)
      → Keeps s w (if b then rules.with_tree (rules.exception_copied c t at) (rules.object_of c w o.at o.tree) else
      record { tree = rules.exception_built c.classes t (Values.builder o.tree); work = w }).work
  exception_by c w t at o true = object c w o.at o.tree
  exception_by c w t at o false = λ h. h

  exception_made : (c : Ctx) (w : Work) (t : Typ) (at : At) (o : Operand) → Keeps s w (rules.exception_made c w t at o).work
  exception_made c w t at o = exception_by c w t at o (rules.is_given_value (Values.builder o.tree))

  pub class_from : (c : Ctx) (w : Work) (t : Typ) (at : At) (o : Operand) → On (made s w) (rules.class_from c w t at o)
  class_from c w (typ (closure n) q v) at o = either (made s w) (rules.is_closure_itself n q v o.tree) _ _ (λ e. (λ h. h))
      (λ e. skip (made s w) (check o.at NoConversion (rules.same_number n (rules.class_number (typ_in o.tree)))) _
      (λ y. skip (made s w) (check o.at NoCopy (not (is_volatile_typ (typ_in o.tree)))) _ (λ z. object c w o.at o.tree)))
  class_from c w (typ (class n) q v) at o = skip (made s w) (rules.makeable c at n) _
      (λ i. either (made s w) (rules.is_prvalue_of_class n o.tree) _ _ (λ e. (λ h. h))
      (λ e. skip (made s w) (check o.at NoConversion (rules.is_same_or_base c.classes (rules.class_number (typ_in o.tree)) (Some n))) _
      (λ y. copied_object c w n (typ (class n) q v) at o)))
  class_from c w (typ (tx_ex t) q v) at o = skip (made s w) (check o.at NoConversion (form_eq (form_in (typ_in o.tree)) (tx_ex t))) _
      (λ y. either (made s w) (is_class_prvalue (typ_in o.tree) (cat_of o.tree)) _ _ (λ e. exception_made c w (typ (tx_ex t) q v) at o)
      (λ e. skip (made s w) (check o.at NoCopy (not (is_volatile_typ (typ_in o.tree)))) _ (λ z. (λ h. h))))
  class_from c w t at o = tt

  pub passed : (c : Ctx) (w : Work) (p : Typ) (o : Operand) → On (made s w) (rules.passed c w p o)
  passed c w p o = either (made s w) (is_class_typ p) _ _
      (λ e. bind (made s (with_item w (unqualified p))) (made s w) (rules.class_from c (with_item w (unqualified p)) (unqualified p) o.at o) _
      (class_from c (with_item w (unqualified p)) (unqualified p) o.at o) (λ m g. (λ k. item_keeps s w (unqualified p) (g k))))
      (λ e. initial c w p o)

  pub words : (c : Ctx) (w : Work) (ps : Typs) (os : List Operand) → On (all_made s w) (rules.words c w ps os)
  words c w (and_typ p ps) (o ∷ os) = bind (made s w) (all_made s w) (rules.passed c w p o) _ (passed c w p o)
      (λ m g. bind (all_made s m.work) (all_made s w) (rules.words c m.work ps os) _ (words c m.work ps os) (λ r h. (λ k. g (h k))))
  words c w no_typs os = λ h. h
  words c w (and_typ p ps) [] = λ h. h

  nothing : (w : Work) (r : Result Tree ElabFault) → On (made s w) (and_then r (λ (e : Tree). Ok (record { tree = e; work = w })))
  nothing w (Ok e) = λ h. h
  nothing w (Err e) = tt

  constructed_by : (c : Ctx) (w : Work) (n : ℕ) (t : Typ) (at : At) (os : List Operand) (f : Option ℕ)
      → On (made s w) (rules.constructed_by c w n t at os f)
  constructed_by c w n t at os (Some i) = bind (all_made s w) (made s w) (rules.words c w (rules.parameters_at c.funcs i) os) _
      (words c w (rules.parameters_at c.funcs i) os) (λ m g. g)
  constructed_by c w n t at (o ∷ []) None = skip (made s w) (check o.at NoCopy (not (is_volatile_typ (typ_in o.tree)))) _ (λ y. object c w o.at o.tree)
  constructed_by c w n t at [] None = tt
  constructed_by c w n t at (o ∷ p ∷ os) None = tt

  pub constructed : (c : Ctx) (w : Work) (n : ℕ) (t : Typ) (at : At) (os : List Operand) → On (made s w) (rules.constructed c w n t at os)
  constructed c w n t at [] = nothing w (rules.from_nothing c t at)
  constructed c w n t at (o ∷ os) = skip (made s w) (rules.makeable c at n) _
      (λ i. either (made s w) (rules.is_prvalue_itself n (o ∷ os)) _ _ (λ e. (λ h. h))
      (λ e. skip (made s w) (rules.meant at (chosen c.classes (rules.makers c n) (rules.arguments (o ∷ os)))) _
      (λ j. constructed_by c w n t at (o ∷ os) (rules.constructor_at c n j))))

  pub scalar_from : (c : Ctx) (w : Work) (t : Typ) (o : Operand) → On (made s w) (rules.scalar_from c w t o)
  scalar_from c w t o = bind (made s w) (made s w) (rules.initial c w t o) _ (initial c w t o) (λ m g. g)

  pub exact_object : (c : Ctx) (w : Work) (t : Typ) (at : At) (o : Operand) → On (made s w) (rules.exact_object c w t at o)
  exact_object c w t at o = either (made s w) (rules.is_other_prvalue t o.tree) _ _ (λ e. moved s w x.work (rules.class_from c x.work t at p)
      (object c w o.at o.tree) (class_from c x.work t at p)) (λ e. class_from c w t at o)
    where
      x : Made
      x = rules.object_of c w o.at o.tree

      p : Operand
      p = rules.object_operand o x.tree

  pub exception_from : (c : Ctx) (w : Work) (t : Typ) (at : At) (os : List Operand) → On (made s w) (rules.exception_from c w t at os)
  exception_from c w t at os = skip (made s w) (expect at NoViable (rules.only os)) _ (λ o. either (made s w) (is_class_typ t) _ _
      (λ e. exact_object c w t at o) (λ e. scalar_from c w t o))

  one_value : (c : Ctx) (w : Work) (t : Typ) (at : At) (o : Operand) (os : List Operand)
      → On (made s w) (if is_class_typ t then rules.class_from c w t at o else and_then (expect at BadInit (rules.only (o ∷ os)))
      (λ (p : Operand). rules.scalar_from c w t p))
  one_value c w t at o os = either (made s w) (is_class_typ t) _ _ (λ e. class_from c w t at o) (λ e. skip (made s w) (expect at BadInit (rules.only (o ∷ os))) _ (λ p. scalar_from c w t p))

  pub from_values : (c : Ctx) (w : Work) (t : Typ) (at : At) (os : List Operand) → On (made s w) (rules.from_values c w t at os)
  from_values c w (typ (class n) q v) at os = constructed c w n (typ (class n) q v) at os
  from_values c w (typ (tx_ex t) q v) at [] = tt
  from_values c w (typ (tx_ex t) q v) at (o ∷ os) = either (made s w) (rules.is_exception_itself t (o ∷ os)) _ _
      (λ e. class_from c w (typ (tx_ex t) q v) at o) (λ e. exception_from c w (without_exception (typ (tx_ex t) q v)) at (o ∷ os))
  from_values c w (typ (array e n) q v) at (o ∷ os) = tt
  from_values c w t at [] = nothing w (rules.from_nothing c t at)
  from_values c w t at (o ∷ os) = one_value c w t at o os
