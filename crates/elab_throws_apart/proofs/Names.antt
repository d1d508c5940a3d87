-- What a name or a member means is no `throw` of an object.
use Rattle.std.proofs.Common.{refl, ℕ, not, ◌&&◌, List, [], ◌∷◌, Option, Some, None, is_some, codes}
use Rattle.std.specs.Prelude.{slice_get}
use Rattle.std.specs.Str.{bytes_eq}
use Rattle.elab_rules.specs.cpp_types.Typ.{Typ, typ, void, ref, enum}
use Rattle.elab_rules.specs.cpp_types.Class.{completion_of}
use Rattle.elab_rules.specs.cpp_types.declared.classes.At.{At}
use Rattle.elab_rules.specs.cpp_types.declared.ranks.Cat.TheVariants.{Lvalue}
use Rattle.elab_rules.specs.cpp_names.Names.{found_in}
use Rattle.elab_rules.specs.cpp_names.declared.entity.Entity.{Entity}
use Rattle.elab_rules.specs.cpp_names.declared.entity.EntityKind.{EntityKind}
use Rattle.elab_rules.specs.cpp_names.declared.entity.EntityKind.TheVariants as entities
use Rattle.elab_rules.specs.cpp_tree.declared.kinds.TKind.TheVariants.{Local, Function, Default, Builtin}
use Rattle.elab_rules.specs.cpp_tree.declared.faults.IllRule.TheVariants.{UnknownName, BadInit, Capture as CaptureRule, OutOfProfile, BadOperand, Incomplete}
use Rattle.elab_rules.specs.cpp_tree.declared.faults.IllRule.TheVariants.{NoMember}
use Rattle.elab_rules.specs.cpp_tree.Trees.{Tree, node, Trees, none, more, typ_in}
use Rattle.elab_rules.specs.cpp_tree.Typing.{form_in, is_class_typ}
use Rattle.elab_rules.specs.elab_ctx.Ctx.{Ctx, Work, Variable, This, Lambda}
use Rattle.elab_rules.specs.elab_ctx.Steps.{expect, check, Operand}
use Rattle.elab_rules.specs.Values.{retyped}
use Rattle.elab_rules.specs.Types.{type_named}
use Rattle.elab_rules.specs.Initialising.{func_at, object_of, class_number, places_from}
use Rattle.elab_rules.specs.Names as names
use Rattle.elab_rules.specs.Names.{Found, field, methods, captured_from}
use Rattle.elab_rules.specs.Expressions as expressions
use Rattle.elab_fits.specs.Standing.{On}
use Rattle.elab_fits.proofs.Steps.{bind, skip, either}
use Rattle.elab_throws_apart.proofs.Trees.{Apart, MadeApart, tree_if, valued_apart}

-- Variables

variable_tree : (at : At) (place : ℕ) (item t : Typ) → Apart (names.variable_tree at place item t)
variable_tree at place item (typ (ref t) c v) = refl
variable_tree at place item t = tree_if (is_class_typ t && names.is_pointer item) (names.held_by t item at place) (node (Local place) t Lvalue at none) refl refl

own_variable : (w : Work) (at : At) (v : Variable) → On Apart (names.own_variable w at v)
own_variable w at v = skip Apart (expect at BadInit v.typ) _ (λ t. variable_tree at v.place (names.item_at w v.place t) t)

captured_tree : (c : Ctx) (at : At) (t : This) (l : Lambda) (i : ℕ) (u : Typ) → Apart (names.in_capture c at t l i u)
captured_tree c at t l i (typ (ref u) d v) = refl
captured_tree c at t l i u = refl

variable_in : (c : Ctx) (w : Work) (at : At) (i : ℕ) (o : Option Lambda) → On Apart (names.variable_in c w at i o)
variable_in c w at i (Some l) = skip Apart (expect at CaptureRule (captured_from 0 (Some i) l.captures)) _
    (λ x. skip Apart (expect at UnknownName c.this) _ (λ t. captured_tree c at t l x.index x.capture.typ))
variable_in c w at i None = skip Apart (expect at UnknownName (slice_get c.variables i)) _ (λ v. own_variable w at v)

-- `this`

this_in : (c : Ctx) (at : At) (o : Option Lambda) → On Apart (names.this_in c at o)
this_in c at None = skip Apart (expect at UnknownName c.this) _ (λ t. refl)
this_in c at (Some l) = skip Apart (expect at CaptureRule (captured_from 0 None l.captures)) _
    (λ x. skip Apart (expect at UnknownName c.this) _
    (λ t. valued_apart at (names.captured_tree c at t l x) (captured_tree c at t l x.index x.capture.typ)))

pub this_tree : (c : Ctx) (at : At) → On Apart (names.this_tree c at)
this_tree c at = this_in c at c.lambda

-- Members

member_of : (c : Ctx) (at : At) (e : Tree) (f : Found) → Apart (names.member_of c at e f)
member_of c at e (field n i t) = refl
member_of c at e (methods k) = refl

exception_member : (at : At) (name : List ℕ) (e : Tree) → On Apart (names.exception_member at name e)
exception_member at name e = either Apart (bytes_eq name (codes "get")) _ _ (λ h. refl) (λ h. tt)

class_member : (c : Ctx) (at dot : At) (name : List ℕ) (e : Tree) → On Apart (names.class_member c at dot name e)
class_member c at dot name e = skip Apart (expect dot BadOperand (class_number (typ_in e))) _
    (λ n. skip Apart (check at Incomplete (is_some (completion_of c.classes n))) _
    (λ y. skip Apart (expect at NoMember (names.member_found c name n)) _ (λ f. member_of c at e f)))

pub member_access : (c : Ctx) (w : Work) (at dot : At) (name : List ℕ) (o : Operand) → On MadeApart (names.member_access c w at dot name o)
member_access c w at dot name o = either MadeApart (names.is_tx_exception (typ_in o.tree)) _ _
    (λ h. bind Apart MadeApart (names.exception_member at name (object_of c w o.at o.tree).tree) _
    (exception_member at name (object_of c w o.at o.tree).tree) (λ t i. i))
    (λ h. bind Apart MadeApart (names.class_member c at dot name (object_of c w o.at o.tree).tree) _
    (class_member c at dot name (object_of c w o.at o.tree).tree) (λ t i. i))

-- Names

of_entity : (c : Ctx) (w : Work) (at : At) (kind : EntityKind) (i : ℕ) → On Apart (names.of_entity c w at kind i)
of_entity c w at entities.Local i = variable_in c w at i (names.is_outer i c.lambda)
of_entity c w at entities.Global i = skip Apart (expect at UnknownName (slice_get w.globals i)) _ (λ g. refl)
of_entity c w at entities.Funcs i = refl
of_entity c w at entities.Enumerator i = skip Apart (expect at UnknownName (slice_get c.enumerators i)) _ (λ e. refl)
of_entity c w at kind i = tt

file_name : (c : Ctx) (w : Work) (at : At) (e : Option Entity) → On Apart (names.file_name c w at e)
file_name c w at (Some e) = of_entity c w at e.kind e.id
file_name c w at None = tt

implicit_member : (c : Ctx) (at : At) (f : Found) → On Apart (names.implicit_member c at f)
implicit_member c at f = skip Apart (names.this_tree c at) _ (λ p. skip Apart (expect at UnknownName (names.target_of (form_in (typ_in p)))) _
    (λ t. member_of c at (retyped at t Lvalue p) f))

class_name : (c : Ctx) (w : Work) (at : At) (name : List ℕ) (e : Option Entity) (f : Option Found) → On Apart (names.class_name c w at name e f)
class_name c w at name e (Some f) = implicit_member c at f
class_name c w at name e None = file_name c w at e

pub named : (c : Ctx) (w : Work) (at : At) (name : List ℕ) → On Apart (names.named c w at name)
named c w at name = either Apart (names.is_local_entity (found_in c.scopes name)) _ _ (λ h. file_name c w at (found_in c.scopes name))
    (λ h. class_name c w at name (found_in c.scopes name) (names.member_here c name c.class))

-- One function for those that an expression names

only_function : (c : Ctx) (at : At) (k : ℕ) (is : List ℕ) → On Apart (names.only_function c at k is)
only_function c at k (i ∷ []) = skip Apart (check at OutOfProfile (not (is_some (func_at c.funcs i).builtin))) _ (λ y. refl)
only_function c at k [] = tt
only_function c at k (i ∷ j ∷ is) = tt

resolved_function : (c : Ctx) (at : At) (k : ℕ) (kids : Trees) → On Apart (names.resolved_function c at k kids)
resolved_function c at k none = only_function c at k (places_from (names.is_free (func_at c.funcs k).declared.name) 0 c.funcs)
resolved_function c at k (more t ts) = tt

pub resolved : (c : Ctx) (e : Tree) → Apart e → On Apart (names.resolved c e)
resolved c (node (Function k) (typ void d v) Lvalue at kids) h = resolved_function c at k kids
resolved c (node Default t cat at kids) h = tt
resolved c (node (Builtin b) (typ void d v) Lvalue at kids) h = tt
resolved c t h = h

-- Enumerators by the name of their enum

enumerator_named : (c : Ctx) (w : Work) (at : At) (o : Option Entity) → On Apart (expressions.enumerator_named c w at o)
enumerator_named c w at (Some e) = of_entity c w at e.kind e.id
enumerator_named c w at None = tt

name_in : (c : Ctx) (w : Work) (at : At) (name : List ℕ) (t : Typ) → On Apart (expressions.name_in c w at name t)
name_in c w at name (typ (enum e scoped) d v) = enumerator_named c w at (found_in c.scopes (expressions.scope_name e name))
name_in c w at name t = tt

pub qualified_name : (c : Ctx) (w : Work) (at : At) (owner name : List ℕ) → On Apart (expressions.qualified_name c w at owner name)
qualified_name c w at owner name = skip Apart (expect at UnknownName (type_named owner c.types)) _ (λ t. name_in c w at name t)
