-- What initialises an object owns what its operands own, and what was added for it.
use Rattle.std.proofs.Common.{◌≡◌, refl, ℕ, ◌+◌, ◌≤◌, Bool, not, ◌&&◌, List, [], ◌∷◌, Option, Some, None, Result, Ok, arith}
use Rattle.std.specs.Prelude.{if◌then◌else◌}
use Rattle.elab_rules.specs.cpp_types.Typ.{Typ, typ, array, class, closure, tx_ex, Typs, none as no_typs, more as and_typ}
use Rattle.elab_rules.specs.cpp_types.Equal.{form_eq}
use Rattle.elab_rules.specs.cpp_types.Conversion.{referred}
use Rattle.elab_rules.specs.cpp_types.declared.classes.At.{At}
use Rattle.elab_rules.specs.cpp_types.declared.ranks.Step.{Step}
use Rattle.elab_rules.specs.cpp_types.declared.ranks.Binding.{Binding}
use Rattle.elab_rules.specs.cpp_types.declared.ranks.Binding.TheVariants.{Value, Direct, Temporary}
use Rattle.elab_rules.specs.cpp_types.declared.ranks.Conversion.{Conversion}
use Rattle.elab_rules.specs.cpp_overload.Choosing.{chosen}
use Rattle.elab_rules.specs.cpp_tree.declared.faults.ElabFault.{ElabFault}
use Rattle.elab_rules.specs.cpp_tree.declared.faults.IllRule.TheVariants.{NoConversion, NoCopy, BadInit, OutOfProfile}
use Rattle.elab_rules.specs.cpp_tree.Trees.{Tree, node, Trees, none, two, typ_in, cat_of}
use Rattle.elab_rules.specs.cpp_tree.declared.kinds.TKind.TheVariants.{CopyFrom}
use Rattle.elab_rules.specs.cpp_types.declared.ranks.Cat.TheVariants.{Prvalue}
use Rattle.elab_rules.specs.cpp_tree.Typing.{form_in, unqualified, is_class_typ, is_volatile_typ, without_exception, is_class_prvalue}
use Rattle.elab_rules.specs.elab_ctx.Ctx.{Ctx, Work, with_item}
use Rattle.elab_rules.specs.elab_ctx.Steps.{and_then, expect, check, Operand, Made}
use Rattle.elab_rules.specs.Objects
use Rattle.elab_rules.specs.Objects.{parts_of, traits_at}
use Rattle.elab_rules.specs.Values
use Rattle.elab_rules.specs.Initialising
use Rattle.elab_fits.specs.Standing.{On}
use Rattle.elab_fits.proofs.Steps.{bind, skip, either_way as either, choose, weaken as turn}
use Rattle.elab_movable.specs.Movable.{Sought, held, all_held}
use Rattle.elab_movable.proofs.Counting.{operands_held, used, item_fits, Gives, GiveAll, same}
use Rattle.elab_movable.proofs.Parts as parts
use Rattle.elab_movable.proofs.Values as values

module _ (g : Sought) where
  -- from an earlier work, and from more
  pub later : (b d : ℕ) (w x : Work) (r : Result Made ElabFault) → b + used g w ≤ d + used g x → On (Gives g b x) r → On (Gives g d w) r
  later b d w x r h = turn (Gives g b x) (Gives g d w) r (λ m i. omega arith)

  pub wider : (b d : ℕ) (w : Work) (r : Result Made ElabFault) → b ≤ d → On (Gives g b w) r → On (Gives g d w) r
  wider b d w r h = turn (Gives g b w) (Gives g d w) r (λ m i. omega arith)

  -- Objects and conversions

  pub temporary : (b : ℕ) (w : Work) (t : Typ) (at : At) (init : Tree) (destroys : Trees) → held g init ≤ b → all_held g destroys ≡ 0
      → Gives g b w (Values.temporary w t at init destroys)
  temporary b w t at init destroys h i = omega (arith, item_fits g w t)

  pub object : (c : Ctx) (w : Work) (at : At) (e : Tree) → Gives g (held g e) w (Initialising.object_of c w at e)
  object c w at e = choose (Gives g (held g e) w) (is_class_prvalue (typ_in e) (cat_of e)) _ _
      (temporary (held g e) w (typ_in e) at (Values.builder e) (Objects.destroys c at (typ_in e)) (values.builder g e) (parts.destroys g c at (typ_in e)))
      (same (held g e + used g w))

  -- what is made of an object
  pub of_object : (c : Ctx) (w : Work) (at : At) (e : Tree) (f : Tree → Tree) → ((x : Tree) → held g (f x) ≤ held g x)
      → Gives g (held g e) w (Initialising.with_tree f (Initialising.object_of c w at e))
  of_object c w at e f h = omega (arith, object c w at e, h (Initialising.object_of c w at e).tree)

  bound : (c : Ctx) (w : Work) (b : Binding) (s : Step) (t : Typ) (at : At) (e : Tree) → Gives g (held g e) w (Initialising.bound_by c w b s t at e)
  bound c w Value s t at e = omega (arith, values.stepped g at s t (Values.valued at e), values.valued g at e)
  bound c w Direct s t at e = of_object c w at e (Initialising.seen_as at (referred t)) (λ x. values.seen_as g at (referred t) x)
  bound c w Temporary s t at e = temporary (held g e) w (unqualified (referred t)) at
      (Values.stored at (unqualified (referred t)) (Values.stepped at s (referred t) (Values.valued at e))) none
      (omega (
        arith,
        parts.stored g at (unqualified (referred t)) (Values.stepped at s (referred t) (Values.valued at e)),
        values.stepped g at s (referred t) (Values.valued at e),
        values.valued g at e,
      )) refl

  pub initial : (c : Ctx) (w : Work) (t : Typ) (o : Operand) → On (Gives g (held g o.tree) w) (Initialising.initial c w t o)
  initial c w t o = skip (Gives g (held g o.tree) w) (expect o.at NoConversion (Initialising.conversion c t o)) _
      (λ (v : Conversion). bound c w v.binding v.step t o.at o.tree)

  reference_word : (c : Ctx) (w : Work) (ps : Typs) (o : Operand) → On (GiveAll g (held g o.tree) w) (Initialising.reference_word c w ps o)
  reference_word c w (and_typ p no_typs) o = skip (GiveAll g (held g o.tree) w) (check o.at OutOfProfile (not (is_class_typ p))) _
      (λ y. bind (Gives g (held g o.tree) w) (GiveAll g (held g o.tree) w) (Initialising.initial c w p o) _ (initial c w p o) (λ m h. omega arith))
  reference_word c w (and_typ p (and_typ q ps)) o = tt
  reference_word c w no_typs o = tt

  copied_in_place : (c : Ctx) (w : Work) (n : ℕ) (t : Typ) (at : At) (o : Operand) → Gives g (held g o.tree) w (Initialising.copied_in_place c w n t at o)
  copied_in_place c w n t at o = of_object c w o.at o.tree
      (λ (s : Tree). node CopyFrom t Prvalue at (two (Initialising.as_source o.at n s) (Objects.copies c.classes at t)))
      (λ x. omega (arith, values.as_source g o.at n x, parts.copies g c.classes at t))

  constructed_copy : (c : Ctx) (w : Work) (n : ℕ) (t : Typ) (at : At) (o : Operand) (f : Option ℕ)
      → On (Gives g (held g o.tree) w) (Initialising.constructed_copy c w n t at o f)
  constructed_copy c w n t at o None = copied_in_place c w n t at o
  constructed_copy c w n t at o (Some k) = bind (GiveAll g (held g o.tree) w) (Gives g (held g o.tree) w)
      (Initialising.reference_word c w (Initialising.parameters_at c.funcs k) o) _ (reference_word c w (Initialising.parameters_at c.funcs k) o)
      (λ m h. omega arith)

  copied_object : (c : Ctx) (w : Work) (n : ℕ) (t : Typ) (at : At) (o : Operand) → On (Gives g (held g o.tree) w) (Initialising.copied_object c w n t at o)
  copied_object c w n t at o = skip (Gives g (held g o.tree) w)
      (check o.at NoCopy (not (is_volatile_typ (typ_in o.tree)) && Initialising.has_copy (traits_at c n).copy)) _
      (λ y. skip (Gives g (held g o.tree) w)
      (Initialising.meant at (chosen c.classes (Initialising.makers c n) (Initialising.argument o ∷ []))) _
      (λ i. constructed_copy c w n t at o (Initialising.constructor_at c n i)))

  exception_made : (c : Ctx) (w : Work) (t : Typ) (at : At) (o : Operand) → Gives g (held g o.tree) w (Initialising.exception_made c w t at o)
  exception_made c w t at o = choose (Gives g (held g o.tree) w) (Initialising.is_given_value (Values.builder o.tree)) _ _
      (of_object c w o.at o.tree (Initialising.exception_copied c t at) (λ x. values.exception_copied g c t at x))
      (omega (arith, values.exception_built g c.classes t (Values.builder o.tree), values.builder g o.tree))

  closure_copied : (c : Ctx) (n : ℕ) (q v : Bool) (at : At) (e : Tree) → held g (Initialising.closure_copied c n q v at e) ≤ held g e
  closure_copied c n q v at e = omega (arith, parts.closure_pieces g c at q v (parts_of c.classes n))

  pub class_from : (c : Ctx) (w : Work) (t : Typ) (at : At) (o : Operand) → On (Gives g (held g o.tree) w) (Initialising.class_from c w t at o)
  class_from c w (typ (closure n) q v) at o = either (Gives g (held g o.tree) w) (Initialising.is_closure_itself n q v o.tree) _ _
      (same (held g o.tree + used g w))
      (skip (Gives g (held g o.tree) w) (check o.at NoConversion (Initialising.same_number n (Initialising.class_number (typ_in o.tree)))) _
      (λ y. skip (Gives g (held g o.tree) w) (check o.at NoCopy (not (is_volatile_typ (typ_in o.tree)))) _
      (λ z. of_object c w o.at o.tree (Initialising.closure_copied c n q v at) (λ x. closure_copied c n q v at x))))
  class_from c w (typ (class n) q v) at o = skip (Gives g (held g o.tree) w) (Initialising.makeable c at n) _
      (λ k. either (Gives g (held g o.tree) w) (Initialising.is_prvalue_of_class n o.tree) _ _
      (omega (arith, values.building g c.classes (typ (class n) q v) o.tree))
      (skip (Gives g (held g o.tree) w)
      (check o.at NoConversion (Initialising.is_same_or_base c.classes (Initialising.class_number (typ_in o.tree)) (Some n))) _
      (λ y. copied_object c w n (typ (class n) q v) at o)))
  class_from c w (typ (tx_ex t) q v) at o = skip (Gives g (held g o.tree) w) (check o.at NoConversion (form_eq (form_in (typ_in o.tree)) (tx_ex t))) _
      (λ y. either (Gives g (held g o.tree) w) (is_class_prvalue (typ_in o.tree) (cat_of o.tree)) _ _ (exception_made c w (typ (tx_ex t) q v) at o)
      (skip (Gives g (held g o.tree) w) (check o.at NoCopy (not (is_volatile_typ (typ_in o.tree)))) _
      (λ z. omega (arith, values.exception_copied g c (typ (tx_ex t) q v) at o.tree))))
  class_from c w t at o = tt

  pub exact_object : (c : Ctx) (w : Work) (t : Typ) (at : At) (o : Operand) → On (Gives g (held g o.tree) w) (Initialising.exact_object c w t at o)
  exact_object c w t at o = either (Gives g (held g o.tree) w) (Initialising.is_other_prvalue t o.tree) _ _
      (later (held g x.tree) (held g o.tree) w x.work (Initialising.class_from c x.work t at p) (object c w o.at o.tree) (class_from c x.work t at p))
      (class_from c w t at o)
    where
      x : Made
      x = Initialising.object_of c w o.at o.tree

      p : Operand
      p = Initialising.object_operand o x.tree

  -- Words of calls

  argument_object : (b : ℕ) (w : Work) (t : Typ) (at : At) (ds : Trees) (m : Made) → all_held g ds ≡ 0 → Gives g b (with_item w t) m
      → Gives g b w (Initialising.argument_object w t at ds m)
  argument_object b w t at ds m h i = omega (arith, item_fits g w t)

  passed : (c : Ctx) (w : Work) (p : Typ) (o : Operand) → On (Gives g (held g o.tree) w) (Initialising.passed c w p o)
  passed c w p o = either (Gives g (held g o.tree) w) (is_class_typ p) _ _
      (bind (Gives g (held g o.tree) (with_item w (unqualified p))) (Gives g (held g o.tree) w)
      (Initialising.class_from c (with_item w (unqualified p)) (unqualified p) o.at o) _
      (class_from c (with_item w (unqualified p)) (unqualified p) o.at o)
      (λ m h. argument_object (held g o.tree) w (unqualified p) o.at (Objects.destroys c o.at (unqualified p)) m (parts.destroys g c o.at (unqualified p)) h))
      (initial c w p o)

  nothing : (b : ℕ) (w : Work) → GiveAll g b w (record { trees = none; work = w })
  nothing b w = omega arith

  pub words : (c : Ctx) (w : Work) (ps : Typs) (os : List Operand) → On (GiveAll g (operands_held g os) w) (Initialising.words c w ps os)
  words c w (and_typ p ps) (o ∷ os) = bind (Gives g (held g o.tree) w) (GiveAll g (operands_held g (o ∷ os)) w) (Initialising.passed c w p o) _ (passed c w p o)
      (λ m h. bind (GiveAll g (operands_held g os) m.work) (GiveAll g (operands_held g (o ∷ os)) w) (Initialising.words c m.work ps os) _
      (words c m.work ps os) (λ r i. omega arith))
  words c w (and_typ p ps) [] = nothing 0 w
  words c w no_typs os = nothing (operands_held g os) w

  -- Values in parentheses

  constructed_by : (c : Ctx) (w : Work) (n : ℕ) (t : Typ) (at : At) (os : List Operand) (f : Option ℕ)
      → On (Gives g (operands_held g os) w) (Initialising.constructed_by c w n t at os f)
  constructed_by c w n t at os (Some k) = bind (GiveAll g (operands_held g os) w) (Gives g (operands_held g os) w)
      (Initialising.words c w (Initialising.parameters_at c.funcs k) os) _ (words c w (Initialising.parameters_at c.funcs k) os) (λ m h. omega arith)
  constructed_by c w n t at (o ∷ []) None = skip (Gives g (operands_held g (o ∷ [])) w) (check o.at NoCopy (not (is_volatile_typ (typ_in o.tree)))) _
      (λ y. omega (arith, copied_in_place c w n t at o))
  constructed_by c w n t at [] None = tt
  constructed_by c w n t at (o ∷ p ∷ os) None = tt

  nothing_made : (c : Ctx) (w : Work) (t : Typ) (at : At) (b : ℕ)
      → On (Gives g b w) (and_then (Initialising.from_nothing c t at) (λ (e : Tree). Ok (record { tree = e; work = w })))
  nothing_made c w t at b =
      bind (λ (e : Tree). held g e ≡ 0) (Gives g b w) (Initialising.from_nothing c t at) _ (parts.from_nothing g c t at) (λ e h. omega arith)

  constructed : (c : Ctx) (w : Work) (n : ℕ) (t : Typ) (at : At) (os : List Operand)
      → On (Gives g (operands_held g os) w) (Initialising.constructed c w n t at os)
  constructed c w n t at [] = nothing_made c w t at 0
  constructed c w n t at (o ∷ os) = skip (Gives g (operands_held g (o ∷ os)) w) (Initialising.makeable c at n) _
      (λ k. either (Gives g (operands_held g (o ∷ os)) w) (Initialising.is_prvalue_itself n (o ∷ os)) _ _
      (omega (arith, values.building g c.classes t o.tree))
      (skip (Gives g (operands_held g (o ∷ os)) w)
      (Initialising.meant at (chosen c.classes (Initialising.makers c n) (Initialising.arguments (o ∷ os)))) _
      (λ i. constructed_by c w n t at (o ∷ os) (Initialising.constructor_at c n i))))

  pub scalar_from : (c : Ctx) (w : Work) (t : Typ) (o : Operand) → On (Gives g (held g o.tree) w) (Initialising.scalar_from c w t o)
  scalar_from c w t o = bind (Gives g (held g o.tree) w) (Gives g (held g o.tree) w) (Initialising.initial c w t o) _ (initial c w t o)
      (λ m h. omega (arith, parts.stored g o.at t m.tree))

  -- the one operand
  one_scalar : (c : Ctx) (w : Work) (t : Typ) (at : At) (os : List Operand)
      → On (Gives g (operands_held g os) w) (and_then (expect at BadInit (Initialising.only os)) (λ (p : Operand). Initialising.scalar_from c w t p))
  one_scalar c w t at [] = tt
  one_scalar c w t at (o ∷ []) = wider (held g o.tree) (operands_held g (o ∷ [])) w (Initialising.scalar_from c w t o) (omega arith) (scalar_from c w t o)
  one_scalar c w t at (o ∷ p ∷ os) = tt

  exception_from : (c : Ctx) (w : Work) (t : Typ) (at : At) (os : List Operand)
      → On (Gives g (operands_held g os) w) (Initialising.exception_from c w t at os)
  exception_from c w t at [] = tt
  exception_from c w t at (o ∷ []) = either (Gives g (operands_held g (o ∷ [])) w) (is_class_typ t) _ _
      (wider (held g o.tree) (operands_held g (o ∷ [])) w (Initialising.exact_object c w t at o) (omega arith) (exact_object c w t at o))
      (wider (held g o.tree) (operands_held g (o ∷ [])) w (Initialising.scalar_from c w t o) (omega arith) (scalar_from c w t o))
  exception_from c w t at (o ∷ p ∷ os) = tt

  class_of_first : (c : Ctx) (w : Work) (t : Typ) (at : At) (o : Operand) (os : List Operand)
      → On (Gives g (operands_held g (o ∷ os)) w) (Initialising.class_from c w t at o)
  class_of_first c w t at o os = wider (held g o.tree) (operands_held g (o ∷ os)) w (Initialising.class_from c w t at o) (omega arith) (class_from c w t at o)

  one_value : (c : Ctx) (w : Work) (t : Typ) (at : At) (o : Operand) (os : List Operand)
      → On (Gives g (operands_held g (o ∷ os)) w) (if is_class_typ t then Initialising.class_from c w t at o else
      and_then (expect at BadInit (Initialising.only (o ∷ os))) (λ (p : Operand). Initialising.scalar_from c w t p))
  one_value c w t at o os = either (Gives g (operands_held g (o ∷ os)) w) (is_class_typ t) _ _ (class_of_first c w t at o os) (one_scalar c w t at (o ∷ os))

  pub from_values : (c : Ctx) (w : Work) (t : Typ) (at : At) (os : List Operand)
      → On (Gives g (operands_held g os) w) (Initialising.from_values c w t at os)
  from_values c w (typ (class n) q v) at os = constructed c w n (typ (class n) q v) at os
  from_values c w (typ (tx_ex t) q v) at [] = tt
  from_values c w (typ (tx_ex t) q v) at (o ∷ os) = either (Gives g (operands_held g (o ∷ os)) w) (Initialising.is_exception_itself t (o ∷ os)) _ _
      (class_of_first c w (typ (tx_ex t) q v) at o os) (exception_from c w (without_exception (typ (tx_ex t) q v)) at (o ∷ os))
  from_values c w (typ (array e n) q v) at (o ∷ os) = tt
  from_values c w t at [] = nothing_made c w t at 0
  from_values c w t at (o ∷ os) = one_value c w t at o os
