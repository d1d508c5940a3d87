-- Names, members and `this` have no places of their own.
use Rattle.std.proofs.Common.{◌≡◌, refl, ℕ, ◌≤◌, Bool, true, false, not, ◌&&◌, List, [], ◌∷◌, Option, Some, None, is_some, Result, Ok, Err, arith, slice_get, codes}
use Rattle.std.specs.Prelude.{if◌then◌else◌}
use Rattle.std.specs.Str.{bytes_eq}
use Rattle.elab_rules.specs.cpp_types.Typ.{Typ, typ, void, ref}
use Rattle.elab_rules.specs.cpp_types.Class.{completion_of}
use Rattle.elab_rules.specs.cpp_types.declared.classes.At.{At}
use Rattle.elab_rules.specs.cpp_types.declared.ranks.Cat.TheVariants.{Lvalue}
use Rattle.elab_rules.specs.cpp_names.Names.{found_in}
use Rattle.elab_rules.specs.cpp_names.declared.entity.Entity.{Entity}
use Rattle.elab_rules.specs.cpp_names.declared.entity.EntityKind.{EntityKind}
use Rattle.elab_rules.specs.cpp_names.declared.entity.EntityKind.TheVariants as entities
use Rattle.elab_rules.specs.cpp_tree.declared.kinds.TKind.TheVariants.{Local, Function, Default, Builtin}
use Rattle.elab_rules.specs.cpp_tree.declared.faults.ElabFault.{ElabFault}
use Rattle.elab_rules.specs.cpp_tree.declared.faults.IllRule.TheVariants.{UnknownName, BadInit, Capture as CaptureRule, OutOfProfile, BadOperand, Incomplete}
use Rattle.elab_rules.specs.cpp_tree.declared.faults.IllRule.TheVariants.{NoMember}
use Rattle.elab_rules.specs.cpp_tree.Trees.{Tree, node, Trees, none, more, typ_in}
use Rattle.elab_rules.specs.cpp_tree.Typing.{form_in, is_class_typ}
use Rattle.elab_rules.specs.cpp_tree.Units.{Global}
use Rattle.elab_rules.specs.elab_ctx.Ctx.{Ctx, Work, Variable, This, Lambda}
use Rattle.elab_rules.specs.elab_ctx.Steps.{expect, check, Operand, Made}
use Rattle.elab_rules.specs.Values
use Rattle.elab_rules.specs.Initialising
use Rattle.elab_rules.specs.Initialising.{func_at, places_from}
use Rattle.elab_rules.specs.Names
use Rattle.elab_rules.specs.Names.{Found, field, methods, Captured}
use Rattle.elab_places.proofs.Counting.{Sought, held, Gives, HoldsAtMost, same}
use Rattle.elab_places.proofs.Steps.{On, bind, skip, either}
use Rattle.elab_places.proofs.Values as values
use Rattle.elab_places.proofs.Initials as initials

module _ (g : Sought) where
  abbrev pub Bare : Tree → Type 0
  Bare e = held g e ≡ 0

  -- Variables

  slot : (at : At) (place : ℕ) (item t : Typ) (b : Bool)
      → held g (if b then Names.held_by t item at place else node (Local place) t Lvalue at none) ≡ 0
  slot at place item t true = refl
  slot at place item t false = refl

  variable_tree : (at : At) (place : ℕ) (item t : Typ) → held g (Names.variable_tree at place item t) ≡ 0
  variable_tree at place item (typ (ref u) c v) = refl
  variable_tree at place item (typ f c v) = slot at place item (typ f c v) (is_class_typ (typ f c v) && Names.is_pointer item)

  captured_tree : (c : Ctx) (at : At) (t : This) (l : Lambda) (i : ℕ) (u : Typ) → held g (Names.in_capture c at t l i u) ≡ 0
  captured_tree c at t l i (typ (ref u) d v) = refl
  captured_tree c at t l i (typ f d v) = refl

  captured_variable : (c : Ctx) (at : At) (i : ℕ) (l : Lambda) → On Bare (Names.captured_variable c at i l)
  captured_variable c at i l = skip Bare (expect at CaptureRule (Names.captured_from 0 (Some i) l.captures)) _
      (λ (x : Captured). skip Bare (expect at UnknownName c.this) _ (λ (t : This). captured_tree c at t l x.index x.capture.typ))

  own_variable : (w : Work) (at : At) (v : Variable) → On Bare (Names.own_variable w at v)
  own_variable w at v = skip Bare (expect at BadInit v.typ) _ (λ (t : Typ). variable_tree at v.place (Names.item_at w v.place t) t)

  pub variable_in : (c : Ctx) (w : Work) (at : At) (i : ℕ) (l : Option Lambda) → On Bare (Names.variable_in c w at i l)
  variable_in c w at i (Some l) = captured_variable c at i l
  variable_in c w at i None = skip Bare (expect at UnknownName (slice_get c.variables i)) _ (λ (v : Variable). own_variable w at v)

  valued_bare : (at : At) (e : Tree) → Bare e → Bare (Values.valued at e)
  valued_bare at e h = omega (arith, values.valued g at e)

  this_in : (c : Ctx) (at : At) (l : Option Lambda) → On Bare (Names.this_in c at l)
  this_in c at None = skip Bare (expect at UnknownName c.this) _ (λ (t : This). refl)
  this_in c at (Some l) = skip Bare (expect at CaptureRule (Names.captured_from 0 None l.captures)) _
      (λ (x : Captured). skip Bare (expect at UnknownName c.this) _
      (λ (t : This). valued_bare at (Names.captured_tree c at t l x) (captured_tree c at t l x.index x.capture.typ)))

  pub this_tree : (c : Ctx) (at : At) → On Bare (Names.this_tree c at)
  this_tree c at = this_in c at c.lambda

  -- Members

  member_of : (c : Ctx) (at : At) (e : Tree) (f : Found) → held g (Names.member_of c at e f) ≤ held g e
  member_of c at e (field n i t) = omega arith
  member_of c at e (methods k) = omega arith

  exception_member : (at : At) (name : List ℕ) (e : Tree) → On (HoldsAtMost g (held g e)) (Names.exception_member at name e)
  exception_member at name e = either (HoldsAtMost g (held g e)) (bytes_eq name (codes "get")) _ _ (omega arith) tt

  class_member : (c : Ctx) (at dot : At) (name : List ℕ) (e : Tree) → On (HoldsAtMost g (held g e)) (Names.class_member c at dot name e)
  class_member c at dot name e = skip (HoldsAtMost g (held g e)) (expect dot BadOperand (Initialising.class_number (typ_in e))) _
      (λ n. skip (HoldsAtMost g (held g e)) (check at Incomplete (is_some (completion_of c.classes n))) _
      (λ y. skip (HoldsAtMost g (held g e)) (expect at NoMember (Names.member_found c name n)) _ (λ (f : Found). member_of c at e f)))

  pub member_access : (c : Ctx) (w : Work) (at dot : At) (name : List ℕ) (o : Operand)
      → On (Gives g (held g o.tree) w) (Names.member_access c w at dot name o)
  member_access c w at dot name o = either (Gives g (held g o.tree) w) (Names.is_tx_exception (typ_in o.tree)) _ _
      (bind (HoldsAtMost g (held g x.tree)) (Gives g (held g o.tree) w) (Names.exception_member at name x.tree) _ (exception_member at name x.tree)
      (λ t h. omega (arith, initials.object g c w o.at o.tree)))
      (bind (HoldsAtMost g (held g x.tree)) (Gives g (held g o.tree) w) (Names.class_member c at dot name x.tree) _ (class_member c at dot name x.tree)
      (λ t h. omega (arith, initials.object g c w o.at o.tree)))
    where
      x : Made
      x = Initialising.object_of c w o.at o.tree

  -- Names

  enumerator : (c : Ctx) (at : At) (i : ℕ) → On Bare (Names.enumerator_tree c at i)
  enumerator c at i = skip Bare (expect at UnknownName (slice_get c.enumerators i)) _ (λ e. refl)

  global : (w : Work) (at : At) (i : ℕ) → On Bare (Names.global_tree w at i)
  global w at i = skip Bare (expect at UnknownName (slice_get w.globals i)) _ (λ (x : Global). refl)

  pub of_entity : (c : Ctx) (w : Work) (at : At) (kind : EntityKind) (i : ℕ) → On Bare (Names.of_entity c w at kind i)
  of_entity c w at entities.Local i = variable_in c w at i (Names.is_outer i c.lambda)
  of_entity c w at entities.Global i = global w at i
  of_entity c w at entities.Funcs i = refl
  of_entity c w at entities.Enumerator i = enumerator c at i
  of_entity c w at kind i = tt

  file_name : (c : Ctx) (w : Work) (at : At) (o : Option Entity) → On Bare (Names.file_name c w at o)
  file_name c w at (Some e) = of_entity c w at e.kind e.id
  file_name c w at None = tt

  bare_member : (c : Ctx) (at : At) (t : Typ) (p : Tree) (f : Found) → Bare p → Bare (Names.member_of c at (Values.retyped at t Lvalue p) f)
  bare_member c at t p f h = omega (arith, member_of c at (Values.retyped at t Lvalue p) f)

  implicit_member : (c : Ctx) (at : At) (f : Found) → On Bare (Names.implicit_member c at f)
  implicit_member c at f = bind Bare Bare (Names.this_tree c at) _ (this_tree c at)
      (λ p h. skip Bare (expect at UnknownName (Names.target_of (form_in (typ_in p)))) _ (λ (t : Typ). bare_member c at t p f h))

  class_name : (c : Ctx) (w : Work) (at : At) (name : List ℕ) (e : Option Entity) (f : Option Found) → On Bare (Names.class_name c w at name e f)
  class_name c w at name e (Some f) = implicit_member c at f
  class_name c w at name e None = file_name c w at e

  pub named : (c : Ctx) (w : Work) (at : At) (name : List ℕ) → On Bare (Names.named c w at name)
  named c w at name = either Bare (Names.is_local_entity (found_in c.scopes name)) _ _ (file_name c w at (found_in c.scopes name))
      (class_name c w at name (found_in c.scopes name) (Names.member_here c name c.class))

  -- One function for those that an expression names

  only_function : (c : Ctx) (at : At) (k : ℕ) (is : List ℕ) → On Bare (Names.only_function c at k is)
  only_function c at k (i ∷ []) = skip Bare (check at OutOfProfile (not (is_some (func_at c.funcs i).builtin))) _ (λ y. refl)
  only_function c at k [] = tt
  only_function c at k (i ∷ j ∷ is) = tt

  resolved_function : (b : ℕ) (c : Ctx) (at : At) (k : ℕ) (ts : Trees) → On (HoldsAtMost g b) (Names.resolved_function c at k ts)
  resolved_function b c at k none = turned (Names.only_function c at k places) (only_function c at k places)
    where
      places : List ℕ
      places = places_from (Names.is_free (func_at c.funcs k).declared.name) 0 c.funcs

      turned : (r : Result Tree ElabFault) → On Bare r → On (HoldsAtMost g b) r
      turned (Ok e) h = omega arith
      turned (Err e) h = tt
  resolved_function b c at k (more t ts) = tt

  pub resolved : (c : Ctx) (e : Tree) → On (HoldsAtMost g (held g e)) (Names.resolved c e)
  resolved c (node (Function k) (typ void d v) Lvalue at ts) = resolved_function (held g (node (Function k) (typ void d v) Lvalue at ts)) c at k ts
  resolved c (node Default t cat at ts) = tt
  resolved c (node (Builtin b) (typ void d v) Lvalue at ts) = tt
  resolved c e = same (held g e)
