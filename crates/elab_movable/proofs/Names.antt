-- Names, members and `this` have no places of their own.
use Rattle.std.proofs.Common.{◌≡◌, refl, sym, ap, ◌∙◌, ℕ, zero, suc, ◌≤◌, Bool, true, false, not, List, [], ◌∷◌, Option, Some, None, is_some, Result, Ok, Err, arith, slice_get, codes}
use Rattle.std.specs.Str.{bytes_eq}
use Rattle.elab_rules.specs.cpp_types.Typ.{Typ, typ, void, ptr}
use Rattle.elab_rules.specs.cpp_types.Equal.{typ_eq}
use Rattle.elab_rules.specs.tx_ints.declared.kinds.IntKind.TheVariants.{ULong}
use Rattle.elab_rules.specs.cpp_types.Class.{completion_of}
use Rattle.elab_rules.specs.cpp_types.declared.classes.At.{At}
use Rattle.elab_rules.specs.cpp_types.declared.ranks.Cat.TheVariants.{Lvalue, Prvalue}
use Rattle.elab_rules.specs.cpp_names.Names.{found_in}
use Rattle.elab_rules.specs.cpp_names.declared.entity.Entity.{Entity}
use Rattle.elab_rules.specs.cpp_names.declared.entity.EntityKind.{EntityKind}
use Rattle.elab_rules.specs.cpp_names.declared.entity.EntityKind.TheVariants as entities
use Rattle.elab_rules.specs.cpp_tree.declared.kinds.TKind.TheVariants.{Local, Load, Function, Default, Builtin}
use Rattle.elab_rules.specs.cpp_tree.declared.faults.ElabFault.{ElabFault}
use Rattle.elab_rules.specs.cpp_tree.declared.faults.IllRule.TheVariants.{UnknownName, OutOfProfile, BadOperand, Incomplete}
use Rattle.elab_rules.specs.cpp_tree.declared.faults.IllRule.TheVariants.{NoMember}
use Rattle.elab_rules.specs.cpp_tree.Trees.{Tree, node, Trees, none, more, typ_in}
use Rattle.elab_rules.specs.cpp_tree.Notation.{plain}
use Rattle.elab_rules.specs.cpp_tree.Typing.{form_in}
use Rattle.elab_rules.specs.cpp_tree.Units.{Global}
use Rattle.elab_rules.specs.elab_ctx.Ctx.{Ctx, Work, Variable, This, Lambda}
use Rattle.elab_rules.specs.elab_ctx.Steps.{and_then, expect, check, Operand, Made}
use Rattle.elab_rules.specs.Values
use Rattle.elab_rules.specs.Initialising
use Rattle.elab_rules.specs.Initialising.{func_at, places_from}
use Rattle.elab_rules.specs.Names
use Rattle.elab_rules.specs.Names.{Found, field, methods}
use Rattle.elab_rules.proofs.cpp_types.EqualTests.{typ_eq_is}
use Rattle.elab_fits.specs.Standing.{On}
use Rattle.elab_fits.proofs.Steps.{bind, skip, either_way as either}
use Rattle.elab_movable.specs.Movable.{Sought, one_if, held, IsFirst, OnlyThis}
use Rattle.elab_movable.proofs.Counting.{Gives, HoldsAtMost, same}
use Rattle.elab_movable.proofs.Initials as initials

typ_refl : (t : Typ) → typ_eq t t ≡ true
typ_refl t = sym (typ_eq_is true t t ((λ h. refl), (λ h. refl)))

module _ (g : Sought) where
  abbrev pub Bare : Tree → Type 0
  Bare e = held g e ≡ 0

  -- Variables: there are none, and `this` is the first item

  pub none_known : (c : Ctx) (w : Work) (at : At) (i : ℕ) → OnlyThis g c → On Bare (Names.variable_in c w at i None)
  none_known c w at i o = by (slice_get c.variables i) (o.variables i)
    where
      by : (v : Option Variable) → v ≡ None → On Bare (and_then (expect at UnknownName v) (λ (x : Variable). Names.own_variable w at x))
      by None e = tt
      by (Some x) e = absurd cc

  variable_in : (c : Ctx) (w : Work) (at : At) (i : ℕ) → OnlyThis g c → On Bare (Names.variable_in c w at i (Names.is_outer i c.lambda))
  variable_in c w at i o = by c.lambda o.outside
    where
      by : (l : Option Lambda) → l ≡ None → On Bare (Names.variable_in c w at i (Names.is_outer i l))
      by None e = none_known c w at i o
      by (Some l) e = absurd cc

  first_held : (at : At) (p : ℕ) (u : Typ) → p ≡ 0 → u ≡ g → Bare (node (Load ULong false) u Prvalue at (more (node (Local p) u Lvalue at none) none))
  first_held at zero u e f = ap (λ (b : Bool). one_if (not b)) (ap (typ_eq g) f ∙ typ_refl g)
  first_held at (suc p) u e f = absurd (omega arith)

  this_in : (c : Ctx) (at : At) (t : Option This) → ((x : This) → t ≡ Some x → IsFirst g x)
      → On Bare (and_then (expect at UnknownName t) (λ (x : This). Ok (Names.this_pointer at x)))
  this_in c at None h = tt
  this_in c at (Some x) h = let y = h x refl in first_held at x.place (plain (ptr x.typ)) y.place y.typ

  pub this_tree : (c : Ctx) (at : At) → OnlyThis g c → On Bare (Names.this_tree c at)
  this_tree c at o = by c.lambda o.outside
    where
      by : (l : Option Lambda) → l ≡ None → On Bare (Names.this_in c at l)
      by None e = this_in c at c.this o.this
      by (Some l) e = absurd cc

  -- Members

  member_of : (c : Ctx) (at : At) (e : Tree) (f : Found) → held g (Names.member_of c at e f) ≤ held g e
  member_of c at e (field n i t) = omega arith
  member_of c at e (methods k) = omega arith

  exception_member : (at : At) (name : List ℕ) (e : Tree) → On (HoldsAtMost g (held g e)) (Names.exception_member at name e)
  exception_member at name e = either (HoldsAtMost g (held g e)) (bytes_eq name (codes "get")) _ _ (omega arith) tt

  class_member : (c : Ctx) (at dot : At) (name : List ℕ) (e : Tree) → On (HoldsAtMost g (held g e)) (Names.class_member c at dot name e)
  class_member c at dot name e = skip (HoldsAtMost g (held g e)) (expect dot BadOperand (Initialising.class_number (typ_in e))) _
      (λ n. skip (HoldsAtMost g (held g e)) (check at Incomplete (is_some (completion_of c.classes n))) _
      (λ y. skip (HoldsAtMost g (held g e)) (expect at NoMember (Names.member_found c name n)) _ (λ (f : Found). member_of c at e f)))

  pub member_access : (c : Ctx) (w : Work) (at dot : At) (name : List ℕ) (o : Operand)
      → On (Gives g (held g o.tree) w) (Names.member_access c w at dot name o)
  member_access c w at dot name o = either (Gives g (held g o.tree) w) (Names.is_tx_exception (typ_in o.tree)) _ _
      (bind (HoldsAtMost g (held g x.tree)) (Gives g (held g o.tree) w) (Names.exception_member at name x.tree) _ (exception_member at name x.tree)
      (λ t h. omega (arith, initials.object g c w o.at o.tree)))
      (bind (HoldsAtMost g (held g x.tree)) (Gives g (held g o.tree) w) (Names.class_member c at dot name x.tree) _ (class_member c at dot name x.tree)
      (λ t h. omega (arith, initials.object g c w o.at o.tree)))
    where
      x : Made
      x = Initialising.object_of c w o.at o.tree

  -- Names

  enumerator : (c : Ctx) (at : At) (i : ℕ) → On Bare (Names.enumerator_tree c at i)
  enumerator c at i = skip Bare (expect at UnknownName (slice_get c.enumerators i)) _ (λ e. refl)

  global : (w : Work) (at : At) (i : ℕ) → On Bare (Names.global_tree w at i)
  global w at i = skip Bare (expect at UnknownName (slice_get w.globals i)) _ (λ (x : Global). refl)

  pub of_entity : (c : Ctx) (w : Work) (at : At) (kind : EntityKind) (i : ℕ) → OnlyThis g c → On Bare (Names.of_entity c w at kind i)
  of_entity c w at entities.Local i o = variable_in c w at i o
  of_entity c w at entities.Global i o = global w at i
  of_entity c w at entities.Funcs i o = refl
  of_entity c w at entities.Enumerator i o = enumerator c at i
  of_entity c w at kind i o = tt

  file_name : (c : Ctx) (w : Work) (at : At) (e : Option Entity) → OnlyThis g c → On Bare (Names.file_name c w at e)
  file_name c w at (Some e) o = of_entity c w at e.kind e.id o
  file_name c w at None o = tt

  bare_member : (c : Ctx) (at : At) (t : Typ) (p : Tree) (f : Found) → Bare p → Bare (Names.member_of c at (Values.retyped at t Lvalue p) f)
  bare_member c at t p f h = omega (arith, member_of c at (Values.retyped at t Lvalue p) f)

  implicit_member : (c : Ctx) (at : At) (f : Found) → OnlyThis g c → On Bare (Names.implicit_member c at f)
  implicit_member c at f o = bind Bare Bare (Names.this_tree c at) _ (this_tree c at o)
      (λ p h. skip Bare (expect at UnknownName (Names.target_of (form_in (typ_in p)))) _ (λ (t : Typ). bare_member c at t p f h))

  class_name : (c : Ctx) (w : Work) (at : At) (name : List ℕ) (e : Option Entity) (f : Option Found) → OnlyThis g c
      → On Bare (Names.class_name c w at name e f)
  class_name c w at name e (Some f) o = implicit_member c at f o
  class_name c w at name e None o = file_name c w at e o

  pub named : (c : Ctx) (w : Work) (at : At) (name : List ℕ) → OnlyThis g c → On Bare (Names.named c w at name)
  named c w at name o = either Bare (Names.is_local_entity (found_in c.scopes name)) _ _ (file_name c w at (found_in c.scopes name) o)
      (class_name c w at name (found_in c.scopes name) (Names.member_here c name c.class) o)

  -- One function for those that an expression names

  only_function : (c : Ctx) (at : At) (k : ℕ) (is : List ℕ) → On Bare (Names.only_function c at k is)
  only_function c at k (i ∷ []) = skip Bare (check at OutOfProfile (not (is_some (func_at c.funcs i).builtin))) _ (λ y. refl)
  only_function c at k [] = tt
  only_function c at k (i ∷ j ∷ is) = tt

  resolved_function : (b : ℕ) (c : Ctx) (at : At) (k : ℕ) (ts : Trees) → On (HoldsAtMost g b) (Names.resolved_function c at k ts)
  resolved_function b c at k none = turned (Names.only_function c at k places) (only_function c at k places)
    where
      places : List ℕ
      places = places_from (Names.is_free (func_at c.funcs k).declared.name) 0 c.funcs

      turned : (r : Result Tree ElabFault) → On Bare r → On (HoldsAtMost g b) r
      turned (Ok e) h = omega arith
      turned (Err e) h = tt
  resolved_function b c at k (more t ts) = tt

  pub resolved : (c : Ctx) (e : Tree) → On (HoldsAtMost g (held g e)) (Names.resolved c e)
  resolved c (node (Function k) (typ void d v) Lvalue at ts) = resolved_function (held g (node (Function k) (typ void d v) Lvalue at ts)) c at k ts
  resolved c (node Default t cat at ts) = tt
  resolved c (node (Builtin b) (typ void d v) Lvalue at ts) = tt
  resolved c e = same (held g e)
