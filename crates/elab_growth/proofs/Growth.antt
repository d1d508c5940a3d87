-- Each form of an expression: what is made for it stands behind what was made before.
use Rattle.std.proofs.Common.{◌≡◌, refl, sym, ap, ◌∙◌, ℕ, Bool, true, false, not, ◌&&◌, ◌||◌, List, [], ◌∷◌, ◌++◌, append_assoc, append-nil, Option, Some, None}
use Rattle.std.proofs.Common.{Result, Ok, Err, if◌then◌else◌, codes}
use Rattle.std.specs.Str.{bytes_eq}
use Rattle.elab_rules.specs.tx_ints.declared.kinds.BinOp.{BinOp}
use Rattle.elab_rules.specs.cpp_types.Typ.{Typ, typ, Form, void, ptr, ref, array, func, class, closure, tx_ex, Signature, Typs, none as no_typs}
use Rattle.elab_rules.specs.cpp_types.Typ.{more as and_typ}
use Rattle.elab_rules.specs.cpp_types.Equal.{form_eq}
use Rattle.elab_rules.specs.cpp_types.declared.classes.At.{At}
use Rattle.elab_rules.specs.cpp_types.declared.ranks.Cat.TheVariants.{Lvalue}
use Rattle.elab_rules.specs.cpp_types.declared.ranks.Step.{Step}
use Rattle.elab_rules.specs.cpp_types.declared.ranks.Binding.{Binding}
use Rattle.elab_rules.specs.cpp_types.declared.ranks.Binding.TheVariants.{Value, Direct, Temporary}
use Rattle.elab_rules.specs.cpp_lex.Tokens.{Lexeme}
use Rattle.elab_rules.specs.cpp_ast.declared.kinds.NodeKind.{NodeKind}
use Rattle.elab_rules.specs.cpp_ast.declared.kinds.NodeKind.TheVariants as k
use Rattle.elab_rules.specs.cpp_ast.Trees as syntax
use Rattle.elab_rules.specs.cpp_tree.declared.kinds.Builtin.{Builtin}
use Rattle.elab_rules.specs.cpp_tree.declared.kinds.TKind.{TKind}
use Rattle.elab_rules.specs.cpp_tree.declared.kinds.TKind.TheVariants as forms
use Rattle.elab_rules.specs.cpp_tree.declared.faults.ElabFault.{ElabFault}
use Rattle.elab_rules.specs.cpp_tree.declared.faults.IllRule.TheVariants.{NoConversion, NoViable, BadInit, OutOfProfile}
use Rattle.elab_rules.specs.cpp_tree.Trees.{Tree, node, Trees, none, more, typ_in, cat_of}
use Rattle.elab_rules.specs.cpp_tree.Units.{Global}
use Rattle.elab_rules.specs.cpp_tree.Typing.{form_in, unqualified, is_class_typ, without_exception, is_void, kind_in, is_class_prvalue}
use Rattle.elab_rules.specs.elab_ctx.Ctx.{Ctx, Work, Capture, Closure, with_item}
use Rattle.elab_rules.specs.elab_ctx.Steps.{and_then, expect, check, at_of, spelling, token_place, Operand, Made, MadeAll, Typed, TypedAll}
use Rattle.elab_rules.specs.Objects
use Rattle.elab_rules.specs.Objects.{Part, parts_of}
use Rattle.elab_rules.specs.Types.{no_specifiers, specified_type}
use Rattle.elab_rules.specs.Values
use Rattle.elab_rules.specs.Initialising
use Rattle.elab_rules.specs.Operators
use Rattle.elab_rules.specs.Names
use Rattle.elab_rules.specs.Calls
use Rattle.elab_rules.specs.Casts
use Rattle.elab_rules.specs.Strings
use Rattle.elab_rules.specs.Expressions

-- What is made is what was made before, with more behind it

pub record Behind (a b : Work) : Type 0 where
  pub items : List Typ
  pub frame : b.frame ≡ a.frame ++ items
  pub texts : List Global
  pub globals : b.globals ≡ a.globals ++ texts

all_more : {A : Type 0} (xs ys zs i j : List A) → ys ≡ xs ++ i → zs ≡ ys ++ j → zs ≡ xs ++ (i ++ j)
all_more {A} xs ys zs i j h g = g ∙ ap (λ (z : List A). z ++ j) h ∙ append_assoc xs i j

pub same : (w : Work) → Behind w w
same w = record { items = []; frame = sym (append-nil w.frame); texts = []; globals = sym (append-nil w.globals) }

pub after : {a b c : Work} → Behind a b → Behind b c → Behind a c
after {a} {b} {c} h g = record {
  items = h.items ++ g.items;
  frame = all_more a.frame b.frame c.frame h.items g.items h.frame g.frame;
  texts = h.texts
      ++ g.texts;
  globals = all_more a.globals b.globals c.globals h.texts g.texts h.globals g.globals;
}

one_item : (w : Work) (t : Typ) → Behind w (with_item w t)
one_item w t = record { items = t ∷ []; frame = refl; texts = []; globals = sym (append-nil w.globals) }

one_text : (w : Work) (g : Global) → Behind w (record w { globals = w.globals ++ g ∷ [] })
one_text w g = record { items = []; frame = sym (append-nil w.frame); texts = g ∷ []; globals = refl }

-- What is answered, if it is no fault

abbrev pub Holds : {A : Type 0} → (A → Type 0) → Result A ElabFault → Type 0
Holds P (Ok a) = P a
Holds P (Err e) = Unit {0}

abbrev pub made : Work → Made → Type 0
made w m = Behind w m.work

abbrev pub all_made : Work → MadeAll → Type 0
all_made w m = Behind w m.work

abbrev pub typed : Work → Typed → Type 0
typed w x = Behind w x.work

abbrev pub all_typed : Work → TypedAll → Type 0
all_typed w x = Behind w x.work

passes : {A B : Type 0} (P : A → Type 0) (Q : B → Type 0) (r : Result A ElabFault) (f : A → Result B ElabFault) → Holds P r → ((a : A) → P a → Holds Q (f a))
    → Holds Q (and_then r f)
passes P Q (Ok a) f h g = g a h
passes P Q (Err e) f h g = tt

-- of the first step nothing is asked
behind : {A B : Type 0} (Q : B → Type 0) (r : Result A ElabFault) (f : A → Result B ElabFault) → ((a : A) → Holds Q (f a)) → Holds Q (and_then r f)
behind Q (Ok a) f g = g a
behind Q (Err e) f g = tt

either : {B : Type 0} (Q : B → Type 0) (b : Bool) (x y : Result B ElabFault) → Holds Q x → Holds Q y → Holds Q (if b then x else y)
either Q true x y h g = h
either Q false x y h g = g

-- what stands behind something stands behind what that stands behind
moved : (w x : Work) (r : Result Made ElabFault) → Behind w x → Holds (made x) r → Holds (made w) r
moved w x (Ok m) h g = after h g
moved w x (Err e) h g = tt

moved_on : (w x : Work) (r : Result Typed ElabFault) → Behind w x → Holds (typed x) r → Holds (typed w) r
moved_on w x (Ok m) h g = after h g
moved_on w x (Err e) h g = tt

-- Objects and conversions

object_by : (c : Ctx) (w : Work) (at : At) (e : Tree) (b : Bool)
    → Behind w (if b then Values.temporary w (typ_in e) at (Values.builder e) (Objects.destroys c at (typ_in e)) else record { tree = e; work = w }).work
object_by c w at e true = one_item w (typ_in e)
object_by c w at e false = same w

object : (c : Ctx) (w : Work) (at : At) (e : Tree) → Behind w (Initialising.object_of c w at e).work
object c w at e = object_by c w at e (is_class_prvalue (typ_in e) (cat_of e))

bound : (c : Ctx) (w : Work) (b : Binding) (s : Step) (t : Typ) (at : At) (e : Tree) → Behind w (Initialising.bound_by c w b s t at e).work
bound c w Value s t at e = same w
bound c w Direct s t at e = object c w at e
bound c w Temporary s t at e = one_item w _

pub initial : (c : Ctx) (w : Work) (t : Typ) (o : Operand) → Holds (made w) (Initialising.initial c w t o)
initial c w t o = search (behind, bound)

reference_word : (c : Ctx) (w : Work) (ps : Typs) (o : Operand) → Holds (all_made w) (Initialising.reference_word c w ps o)
reference_word c w (and_typ p no_typs) o = behind (all_made w) (check o.at OutOfProfile (not (is_class_typ p))) _
    (λ y. passes (made w) (all_made w) (Initialising.initial c w p o) _ (initial c w p o) (λ m g. g))
reference_word c w ps o = tt

constructed_copy : (c : Ctx) (w : Work) (n : ℕ) (t : Typ) (at : At) (o : Operand) (f : Option ℕ) → Holds (made w) (Initialising.constructed_copy c w n t at o f)
constructed_copy c w n t at o None = object c w o.at o.tree
constructed_copy c w n t at o (Some i) = passes (all_made w) (made w) (Initialising.reference_word c w (Initialising.parameters_at c.funcs i) o) _
    (reference_word c w (Initialising.parameters_at c.funcs i) o) (λ m g. g)

copied_object : (c : Ctx) (w : Work) (n : ℕ) (t : Typ) (at : At) (o : Operand) → Holds (made w) (Initialising.copied_object c w n t at o)
copied_object c w n t at o = search (behind, constructed_copy)

exception_by : (c : Ctx) (w : Work) (t : Typ) (at : At) (o : Operand) (b : Bool)
    → Behind w (if b then Initialising.with_tree (Initialising.exception_copied c t at) (Initialising.object_of c w o.at o.tree) else
    record { tree = Initialising.exception_built c.classes t (Values.builder o.tree); work = w }).work
exception_by c w t at o true = object c w o.at o.tree
exception_by c w t at o false = same w

exception_made : (c : Ctx) (w : Work) (t : Typ) (at : At) (o : Operand) → Behind w (Initialising.exception_made c w t at o).work
exception_made c w t at o = exception_by c w t at o (Initialising.is_given_value (Values.builder o.tree))

class_from : (c : Ctx) (w : Work) (t : Typ) (at : At) (o : Operand) → Holds (made w) (Initialising.class_from c w t at o)
class_from c w (typ (closure n) q v) at o = either (made w) (Initialising.is_closure_itself n q v o.tree) _ _ (same w) (search (behind, object))
class_from c w (typ (class n) q v) at o = behind (made w) (Initialising.makeable c at n) _
    (λ i. either (made w) (Initialising.is_prvalue_of_class n o.tree) _ _ (same w) (search (behind, copied_object)))
class_from c w (typ (tx_ex t) q v) at o = behind (made w) (check o.at NoConversion (form_eq (form_in (typ_in o.tree)) (tx_ex t))) _
    (λ y. either (made w) (is_class_prvalue (typ_in o.tree) (cat_of o.tree)) _ _ (exception_made c w (typ (tx_ex t) q v) at o) (search (behind, same)))
class_from c w t at o = tt

passed : (c : Ctx) (w : Work) (p : Typ) (o : Operand) → Holds (made w) (Initialising.passed c w p o)
passed c w p o = either (made w) (is_class_typ p) _ _
    (passes (made (with_item w (unqualified p))) (made w) (Initialising.class_from c (with_item w (unqualified p)) (unqualified p) o.at o) _
    (class_from c (with_item w (unqualified p)) (unqualified p) o.at o) (λ m g. after (one_item w (unqualified p)) g))
    (initial c w p o)

words : (c : Ctx) (w : Work) (ps : Typs) (os : List Operand) → Holds (all_made w) (Initialising.words c w ps os)
words c w (and_typ p ps) (o ∷ os) = passes (made w) (all_made w) (Initialising.passed c w p o) _ (passed c w p o)
    (λ m g. passes (all_made m.work) (all_made w) (Initialising.words c m.work ps os) _ (words c m.work ps os) (λ r h. after g h))
words c w ps os = same w

constructed_by : (c : Ctx) (w : Work) (n : ℕ) (t : Typ) (at : At) (os : List Operand) (f : Option ℕ)
    → Holds (made w) (Initialising.constructed_by c w n t at os f)
constructed_by c w n t at os (Some i) = passes (all_made w) (made w) (Initialising.words c w (Initialising.parameters_at c.funcs i) os) _
    (words c w (Initialising.parameters_at c.funcs i) os) (λ m g. g)
constructed_by c w n t at (o ∷ []) None = search (behind, object)
constructed_by c w n t at os None = tt

constructed : (c : Ctx) (w : Work) (n : ℕ) (t : Typ) (at : At) (os : List Operand) → Holds (made w) (Initialising.constructed c w n t at os)
constructed c w n t at [] = search (behind, same)
constructed c w n t at (o ∷ os) = behind (made w) (Initialising.makeable c at n) _
    (λ i. either (made w) (Initialising.is_prvalue_itself n (o ∷ os)) _ _ (same w) (search (behind, constructed_by)))

scalar_from : (c : Ctx) (w : Work) (t : Typ) (o : Operand) → Holds (made w) (Initialising.scalar_from c w t o)
scalar_from c w t o = passes (made w) (made w) (Initialising.initial c w t o) _ (initial c w t o) (λ m g. g)

exact_object : (c : Ctx) (w : Work) (t : Typ) (at : At) (o : Operand) → Holds (made w) (Initialising.exact_object c w t at o)
exact_object c w t at o = either (made w) (Initialising.is_other_prvalue t o.tree) _ _ (moved w x.work (Initialising.class_from c x.work t at p)
    (object c w o.at o.tree) (class_from c x.work t at p)) (class_from c w t at o)
  where
    x : Made
    x = Initialising.object_of c w o.at o.tree

    p : Operand
    p = Initialising.object_operand o x.tree

exception_from : (c : Ctx) (w : Work) (t : Typ) (at : At) (os : List Operand) → Holds (made w) (Initialising.exception_from c w t at os)
exception_from c w t at os = behind (made w) (expect at NoViable (Initialising.only os)) _ (λ o. either (made w) (is_class_typ t) _ _
    (exact_object c w t at o) (scalar_from c w t o))

one_value : (c : Ctx) (w : Work) (t : Typ) (at : At) (o : Operand) (os : List Operand)
    → Holds (made w) (if is_class_typ t then Initialising.class_from c w t at o else and_then (expect at BadInit (Initialising.only (o ∷ os)))
    (λ (p : Operand). Initialising.scalar_from c w t p))
one_value c w t at o os = either (made w) (is_class_typ t) _ _ (class_from c w t at o) (search (behind, scalar_from))

from_values : (c : Ctx) (w : Work) (t : Typ) (at : At) (os : List Operand) → Holds (made w) (Initialising.from_values c w t at os)
from_values c w (typ (class n) q v) at os = constructed c w n (typ (class n) q v) at os
from_values c w (typ (tx_ex t) q v) at [] = tt
from_values c w (typ (tx_ex t) q v) at (o ∷ os) = either (made w) (Initialising.is_exception_itself t (o ∷ os)) _ _ (class_from c w (typ (tx_ex t) q v) at o)
    (exception_from c w (without_exception (typ (tx_ex t) q v)) at (o ∷ os))
from_values c w (typ (array e n) q v) at (o ∷ os) = tt
from_values c w t at [] = search (behind, same)
from_values c w t at (o ∷ os) = one_value c w t at o os

-- Operators

copy_assigned : (c : Ctx) (w : Work) (at : At) (a b : Operand) (f : Tree → Tree) (t : Typ) → Holds (made w) (Operators.copy_assigned c w at a b f t)
copy_assigned c w at a b f t = search (behind, object)

class_assigned_in : (c : Ctx) (w : Work) (at : At) (a b : Operand) (f : Form) → Holds (made w) (Operators.class_assigned_in c w at a b f)
class_assigned_in c w at a b (class n) = search (behind, copy_assigned)
class_assigned_in c w at a b (tx_ex t) = search (behind, copy_assigned)
class_assigned_in c w at a b f = tt

scalar_assigned : (c : Ctx) (w : Work) (at : At) (a b : Operand)
    → Holds (made w) (and_then (Initialising.initial c w (unqualified (typ_in a.tree)) b)
    (λ (m : Made). and_then (Operators.assigned at (kind_in (form_in (typ_in a.tree))) a m.tree) (λ (t : Tree). Ok (record { tree = t; work = m.work }))))
scalar_assigned c w at a b = passes (made w) (made w) (Initialising.initial c w (unqualified (typ_in a.tree)) b) _ (initial c w (unqualified (typ_in a.tree)) b)
    (λ m g. search (behind, g))

assignment : (c : Ctx) (w : Work) (at : At) (a b : Operand) → Holds (made w) (Operators.assignment c w at a b)
assignment c w at a b = behind (made w) (Operators.target at a) _
    (λ y. either (made w) (is_class_typ (typ_in a.tree)) _ _ (class_assigned_in c w at a b (form_in (typ_in a.tree))) (search (behind, scalar_assigned)))

dropped_by : (c : Ctx) (w : Work) (o : Operand) (b d : Bool)
    → Behind w (if b then record { tree = Operators.bare_throw o.tree; work = w } else
    (if d then record { tree = Operators.value o; work = w } else Initialising.object_of c w o.at o.tree)).work
dropped_by c w o true d = same w
dropped_by c w o false true = same w
dropped_by c w o false false = object c w o.at o.tree

dropped : (c : Ctx) (w : Work) (o : Operand) → Behind w (Operators.dropped c w o).work
dropped c w o = dropped_by c w o (Operators.throws o.tree) (Operators.is_volatile_scalar (typ_in o.tree) && Operators.is_read_when_dropped o.tree)

settled_by : (c : Ctx) (w : Work) (o : Operand) (b : Bool)
    → Behind w (if b then Initialising.with_tree (Initialising.exception_copied c (typ_in o.tree) o.at) (Initialising.object_of c w o.at o.tree) else
    record { tree = o.tree; work = w }).work
settled_by c w o true = object c w o.at o.tree
settled_by c w o false = same w

settled : (c : Ctx) (w : Work) (o : Operand) → Behind w (Operators.settled c w o).work
settled c w o = settled_by c w o (Initialising.is_written_exception o.tree)

comma : (c : Ctx) (w : Work) (at : At) (a b : Operand) → Behind w (Operators.comma c w at a b).work
comma c w at a b = after (dropped c w a) (settled c (Operators.dropped c w a).work b)

two_objects : (c : Ctx) (w : Work) (at : At) (test : Tree) (a b : Operand) → Holds (made w) (Operators.two_objects c w at test a b)
two_objects c w at test a b = passes (made w) (made w) (Initialising.exact_object c w t a.at a) _ (exact_object c w t a.at a)
    (λ x g. passes (made x.work) (made w) (Initialising.exact_object c x.work t b.at b) _ (exact_object c x.work t b.at b) (λ y h. after g h))
  where
    t : Typ
    t = Operators.joined_class a b

same_work : (w : Work) (r : Result Tree ElabFault) → Holds (made w) (Operators.same_work w r)
same_work w r = behind (made w) r _ (λ t. same w)

branches : (c : Ctx) (w : Work) (at : At) (test : Tree) (a b : Operand) → Holds (made w) (Operators.branches c w at test a b)
branches c w at test a b =
    either (made w) (Operators.throws a.tree && Operators.throws b.tree) _ _ (same w) (
    either (made w) (Operators.throws b.tree) _ _ (settled c w a) (
    either (made w) (Operators.throws a.tree) _ _ (settled c w b) (
    either (made w) (Operators.same_lvalues a b || (is_void (typ_in a.tree) && is_void (typ_in b.tree))) _ _ (same w) (
    either (made w) (Operators.is_shared a b) _ _ (same w) (
    either (made w) (Operators.both_of_class a b) _ _ (two_objects c w at test a b)
    (same_work w (Operators.two_values at test (Operators.value_form a) (Operators.value_form b) a b)))))))

conditional : (c : Ctx) (w : Work) (at : At) (test a b : Operand) → Holds (made w) (Operators.conditional c w at test a b)
conditional c w at test a b = behind (made w) (Operators.truth c w test) _ (λ t. branches c w at t a b)

-- Members and calls

member_access : (c : Ctx) (w : Work) (at dot : At) (name : List ℕ) (o : Operand) → Holds (made w) (Names.member_access c w at dot name o)
member_access c w at dot name o = either (made w) (Names.is_tx_exception (typ_in o.tree)) _ _ (search (behind, object)) (search (behind, object))

called : (c : Ctx) (w : Work) (at : At) (kind : TKind) (sig : Signature) (self : Trees) (os : List Operand)
    → Holds (made w) (Calls.called c w at kind sig self os)
called c w at kind sig self os = behind (made w) (Calls.complete_result c at (Initialising.signature_result sig)) _ (λ y.
    passes (all_made w) (made w) (Initialising.words c w (Initialising.signature_parameters sig) os) _ (words c w (Initialising.signature_parameters sig) os)
    (λ m g. g))

called_after : (c : Ctx) (w x : Work) (at : At) (kind : TKind) (sig : Signature) (self : Trees) (os : List Operand) → Behind w x
    → Holds (made w) (Calls.called c x at kind sig self os)
called_after c w x at kind sig self os h = moved w x (Calls.called c x at kind sig self os) h (called c x at kind sig self os)

call_free : (c : Ctx) (w : Work) (at : At) (f : ℕ) (os : List Operand) → Holds (made w) (Calls.call_free c w at f os)
call_free c w at f os = search (behind, called)

call_method_of : (c : Ctx) (w : Work) (at : At) (n f : ℕ) (self : Tree) (os : List Operand) → Holds (made w) (Calls.call_method_of c w at n f self os)
call_method_of c w at n f self os = search (behind, called)

call_method : (c : Ctx) (w : Work) (at : At) (f : ℕ) (self : Tree) (os : List Operand) → Holds (made w) (Calls.call_method c w at f self os)
call_method c w at f self os = search (behind, call_method_of)

call_get : (c : Ctx) (w : Work) (at : At) (e : Tree) (os : List Operand) → Holds (made w) (Calls.call_get c w at e os)
call_get c w at e [] = search (behind, same)
call_get c w at e (o ∷ os) = tt

call_closure : (c : Ctx) (w : Work) (at : At) (n : ℕ) (callee : Operand) (os : List Operand) → Holds (made w) (Calls.call_closure c w at n callee os)
call_closure c w at n callee os = search (behind, called_after, object)

call_pointer : (c : Ctx) (w : Work) (at : At) (f : Form) (p : Tree) (os : List Operand) → Holds (made w) (Calls.call_pointer c w at f p os)
call_pointer c w at (ptr (typ (func sig) d v)) p os = search (behind, called)
call_pointer c w at f p os = tt

call_value : (c : Ctx) (w : Work) (at : At) (f : Form) (callee : Operand) (os : List Operand) → Holds (made w) (Calls.call_value c w at f callee os)
call_value c w at (closure n) callee os = call_closure c w at n callee os
call_value c w at f callee os = call_pointer c w at (form_in (typ_in (Values.valued callee.at callee.tree))) (Values.valued callee.at callee.tree) os

call_abort : (w : Work) (at : At) (b : Builtin) (os : List Operand) → Holds (made w) (Calls.call_abort w at b os)
call_abort w at b [] = same w
call_abort w at b (o ∷ os) = tt

call_form : (c : Ctx) (w : Work) (at : At) (callee : Operand) (t : Tree) (os : List Operand) → Holds (made w) (Calls.call_form c w at callee t os)
call_form c w at callee (node (forms.Function i) (typ void d v) Lvalue p none) os = call_free c w at i os
call_form c w at callee (node (forms.Function i) (typ void d v) Lvalue p (more self none)) os = call_method c w at i self os
call_form c w at callee (node forms.Default t cat p (more e none)) os = call_get c w at e os
call_form c w at callee (node (forms.Builtin b) (typ void d v) Lvalue p none) os = call_abort w at b os
call_form c w at callee t os = call_value c w at (form_in (typ_in t)) callee os

-- Casts and throws

scalar_cast : (c : Ctx) (w : Work) (at : At) (t : Typ) (o : Operand) → Holds (made w) (Casts.scalar_cast c w at t o)
scalar_cast c w at t o = either (made w) (Casts.is_numeric (form_in (typ_in (Operators.value o))) && Casts.is_numeric (form_in t)) _ _ (same w)
    (initial c w (unqualified t) (record { tree = Operators.value o; at = at; zero = o.zero }))

object_cast : (c : Ctx) (w : Work) (t : Typ) (at : At) (os : List Operand) (f : Tree → Tree)
    → Holds (made w) (and_then (Initialising.from_values c w t at os) (λ (m : Made). Ok (Initialising.with_tree f m)))
object_cast c w t at os f = passes (made w) (made w) (Initialising.from_values c w t at os) _ (from_values c w t at os) (λ m g. g)

cast_in : (c : Ctx) (w : Work) (at : At) (t : Typ) (f : Form) (o : Operand) → Holds (made w) (Casts.cast_in c w at t f o)
cast_in c w at t void o = dropped c w o
cast_in c w at t (ref u) o = passes (made w) (made w) (Initialising.initial c w t o) _ (initial c w t o) (λ m g. g)
cast_in c w at t (func s) o = tt
cast_in c w at t (array u n) o = tt
cast_in c w at t f o = either (made w) (is_class_typ t) _ _ (object_cast c w t at (o ∷ []) (Casts.as_expression at t))
    (scalar_cast c w at t o)

functional : (c : Ctx) (w : Work) (at : At) (t : Typ) (os : List Operand) → Holds (made w) (Casts.functional c w at t os)
functional c w at t (o ∷ []) = cast_in c w at t (form_in t) o
functional c w at t [] = either (made w) (is_class_typ t) _ _ (object_cast c w t at [] (Casts.as_expression at t))
    (either (made w) (is_void t) _ _ (same w) (search (behind, same)))
functional c w at t (o ∷ p ∷ os) = either (made w) (is_class_typ t) _ _
    (object_cast c w t at (o ∷ p ∷ os) (Casts.as_expression at t)) tt

throw_object : (c : Ctx) (w : Work) (at : At) (o : Operand) → Holds (made w) (Casts.throw_object c w at o)
throw_object c w at o = search (behind, object)

throw_in : (c : Ctx) (w : Work) (at : At) (f : Form) (o : Operand) → Holds (made w) (Casts.throw_in c w at f o)
throw_in c w at (class n) o = search (behind, throw_object)
throw_in c w at (tx_ex t) o = throw_object c w at o
throw_in c w at f o = search (behind, same)

throw : (c : Ctx) (w : Work) (at : At) (os : List Operand) → Holds (made w) (Casts.throw c w at os)
throw c w at [] = same w
throw c w at (o ∷ os) =
    passes (made w) (made w) (Casts.throw_in c w at (form_in (typ_in o.tree)) o) _ (throw_in c w at (form_in (typ_in o.tree)) o) (λ m g. g)

-- Lambdas

captured_value : (c : Ctx) (w : Work) (x : Capture) (t : Typ) (o : Operand) → Holds (made w) (Expressions.captured_value c w x t o)
captured_value c w x (typ (ref u) d v) o = same w
captured_value c w x (typ (class n) d v) o = class_from c w (typ (class n) d v) x.at o
captured_value c w x (typ (closure n) d v) o = class_from c w (typ (closure n) d v) x.at o
captured_value c w x (typ (array e n) d v) o = same w
captured_value c w x (typ (tx_ex e) d v) o = class_from c w (typ (tx_ex e) d v) x.at o
captured_value c w x t o = same w

captured : (c : Ctx) (w : Work) (x : Capture) → Holds (made w) (Expressions.captured c w x)
captured c w x = behind (made w) (Expressions.capture_source c w x x.variable) _
    (λ e. captured_value c w x x.typ (record { tree = e; at = x.at; zero = false }))

captured_pieces : (c : Ctx) (w : Work) (ps : List Part) (xs : List Capture) → Holds (all_made w) (Expressions.captured_pieces c w ps xs)
captured_pieces c w (p ∷ ps) (x ∷ xs) = passes (made w) (all_made w) (Expressions.captured c w x) _ (captured c w x)
    (λ m g. passes (all_made m.work) (all_made w) (Expressions.captured_pieces c m.work ps xs) _ (captured_pieces c m.work ps xs) (λ r h. after g h))
captured_pieces c w ps xs = same w

closure_object : (c : Ctx) (l : List Closure) (w : Work) (at : At) → Holds (made w) (Expressions.closure_object c l w at)
closure_object c l w at = behind (made w) (expect at OutOfProfile (Expressions.closure_at at l)) _ (λ x.
    passes (all_made w) (made w) (Expressions.captured_pieces c w (parts_of c.classes x.class) x.captures) _
    (captured_pieces c w (parts_of c.classes x.class) x.captures) (λ m g. g))

-- Expressions

an_operand : (at : At) (w : Work) (r : Result Made ElabFault) → Holds (made w) r → Holds (typed w) (Expressions.an_operand at r)
an_operand at w r h = passes (made w) (typed w) r _ h (λ m g. g)

-- an operand behind others
an_operand_after : (at : At) (w x : Work) (r : Result Made ElabFault) → Behind w x → Holds (made x) r → Holds (typed w) (Expressions.an_operand at r)
an_operand_after at w x r h g = passes (made x) (typed w) r _ g (λ m i. after h i)

pub chosen : (c : Ctx) (w : Work) (r : Result Typed ElabFault) → Holds (typed w) r → Holds (typed w) (and_then r (Expressions.chosen_operand c))
chosen c w r h = passes (typed w) (typed w) r _ h (λ x g. behind (typed w) (Names.resolved c x.operand.tree) _ (λ t. g))

leaf_of : (s : List Lexeme) (c : Ctx) (w : Work) (kind : NodeKind) (at : At) (t : ℕ) → Holds (typed w) (Expressions.leaf_of s c w kind at t)
leaf_of s c w k.IntegerLiteral at t = search (behind, same)
leaf_of s c w k.CharacterLiteral at t = same w
leaf_of s c w k.BooleanLiteral at t = same w
leaf_of s c w k.PointerLiteral at t = same w
leaf_of s c w k.StringLiteral at t = one_text w (Casts.string_global at (Strings.string_bytes (spelling s t)))
leaf_of s c w k.This at t = search (behind, same)
leaf_of s c w k.UnqualifiedId at t = search (behind, same)
leaf_of s c w k.StdAbort at t = same w
leaf_of s c w kind at t = tt

assignment_of : (c : Ctx) (w : Work) (at : At) (name : List ℕ) (a b : Operand) → Holds (made w) (Expressions.assignment_of c w at name a b)
assignment_of c w at name a b = either (made w) (bytes_eq name (codes "=")) _ _ (assignment c w at a b)
    (same_work w (and_then (expect at OutOfProfile (Operators.compound_operator name)) (λ (op : BinOp). Operators.compound c op at a b)))

row_of : (s : List Lexeme) (c : Ctx) (w : Work) (kind : NodeKind) (at : At) (t : ℕ) (os : List Operand)
    → Holds (typed w) (Expressions.row_of s c w kind at t os)
row_of s c w k.Subscript at t (a ∷ b ∷ []) = search (behind, same)
row_of s c w k.PostfixIncrement at t (a ∷ []) = search (behind, same)
row_of s c w k.UnaryExpression at t (a ∷ []) = search (behind, same)
row_of s c w k.BinaryExpression at t (a ∷ b ∷ []) = search (behind, same)
row_of s c w k.ConditionalExpression at t (a ∷ b ∷ d ∷ []) = an_operand at w (Operators.conditional c w at a b d) (conditional c w at a b d)
row_of s c w k.AssignmentExpression at t (a ∷ b ∷ []) =
    an_operand at w (Expressions.assignment_of c w at (spelling s t) a b) (assignment_of c w at (spelling s t) a b)
row_of s c w k.CommaExpression at t (a ∷ b ∷ []) = comma c w at a b
row_of s c w k.ThrowExpression at t os = an_operand at w (Casts.throw c w at os) (throw c w at os)
row_of s c w k.MemberAccess at t (a ∷ []) = an_operand at w (Names.member_access c w at (token_place s at.source t) (spelling s t) a)
    (member_access c w at (token_place s at.source t) (spelling s t) a)
row_of s c w k.PointerMemberAccess at t (a ∷ []) = behind (typed w) (Expressions.pointed_operand at a) _
    (λ o. an_operand at w (Names.member_access c w at (token_place s at.source t) (spelling s t) o)
    (member_access c w at (token_place s at.source t) (spelling s t) o))
row_of s c w kind at t os = tt

leaf_or_row : (s : List Lexeme) (c : Ctx) (w : Work) (kind : NodeKind) (at : At) (t : ℕ) → Holds (typed w) (Expressions.leaf_or_row s c w kind at t)
leaf_or_row s c w k.ThrowExpression at t = an_operand at w (Casts.throw c w at []) (throw c w at [])
leaf_or_row s c w kind at t = leaf_of s c w kind at t

row_after : (s : List Lexeme) (c : Ctx) (w x : Work) (kind : NodeKind) (at : At) (t : ℕ) (os : List Operand) → Behind w x
    → Holds (typed w) (Expressions.row_of s c x kind at t os)
row_after s c w x kind at t os h = moved_on w x (Expressions.row_of s c x kind at t os) h (row_of s c x kind at t os)

cast_after : (c : Ctx) (w x : Work) (at : At) (u : Typ) (o : Operand) → Behind w x → Holds (typed w) (Expressions.an_operand at (Casts.cast c x at u o))
cast_after c w x at u o h = an_operand_after at w x (Casts.cast c x at u o) h (cast_in c x at u (form_in u) o)

module _ (s : List Lexeme) (c : Ctx) where
  mutual
    pub expression : (l : List Closure) (w : Work) (e : syntax.Tree) → Holds (typed w) (Expressions.expression_with s c l w e)
    expression l w (syntax.node k.ParenthesizedExpression p token (syntax.more e syntax.none)) =
        passes (typed w) (typed w) (Expressions.expression_with s c l w e) _ (expression l w e) (λ x g. g)
    expression l w (syntax.node k.FunctionCall p token (syntax.more f es)) =
        passes (typed w) (typed w) (Expressions.expression_with s c l w f) _ (expression l w f) (λ x g.
        passes (all_typed x.work) (typed w) (Expressions.operands_with s c l x.work es) _ (operands l x.work es) (λ xs h.
        an_operand_after (at_of p) w xs.work (Calls.call c xs.work (at_of p) x.operand xs.operands) (after g h)
        (call_form c xs.work (at_of p) x.operand x.operand.tree xs.operands)))
    expression l w (syntax.node k.FunctionalCast p token (syntax.more base es)) =
        behind (typed w) (Expressions.specified_with s c l w no_specifiers base) _ (λ d.
        behind (typed w) (and_then (specified_type (at_of p) d) (Expressions.written_type (at_of p))) _ (λ t.
        passes (all_typed w) (typed w) (Expressions.operands_with s c l w es) _ (operands l w es)
        (λ xs h. an_operand_after (at_of p) w xs.work (Casts.functional c xs.work (at_of p) t xs.operands) h
        (functional c xs.work (at_of p) t xs.operands))))
    expression l w (syntax.node k.StaticCast p token (syntax.more t (syntax.more e syntax.none))) =
        behind (typed w) (and_then (Expressions.type_id_with s c l w t) (Expressions.written_type (at_of p))) _ (λ u.
        passes (typed w) (typed w) (and_then (Expressions.expression_with s c l w e) (Expressions.chosen_operand c)) _
        (chosen c w (Expressions.expression_with s c l w e) (expression l w e)) (λ x h. cast_after c w x.work (at_of p) u x.operand h))
    expression l w (syntax.node k.CastExpression p token (syntax.more t (syntax.more e syntax.none))) =
        behind (typed w) (and_then (Expressions.type_id_with s c l w t) (Expressions.written_type (at_of p))) _ (λ u.
        passes (typed w) (typed w) (and_then (Expressions.expression_with s c l w e) (Expressions.chosen_operand c)) _
        (chosen c w (Expressions.expression_with s c l w e) (expression l w e)) (λ x h. cast_after c w x.work (at_of p) u x.operand h))
    expression l w (syntax.node k.SizeofExpression p token (syntax.more e syntax.none)) = search (behind, same)
    expression l w (syntax.node k.SizeofType p token (syntax.more t syntax.none)) = search (behind, same)
    expression l w (syntax.node k.Lambda p token kids) = an_operand (at_of p) w (Expressions.closure_object c l w (at_of p)) (closure_object c l w (at_of p))
    expression l w (syntax.node k.QualifiedId p (Some n) (syntax.more (syntax.node kind q (Some t) kids) syntax.none)) = search (behind, same)
    expression l w (syntax.node kind p (Some t) syntax.none) = leaf_or_row s c w kind (at_of p) t
    expression l w (syntax.node kind p (Some t) kids) =
        passes (all_typed w) (typed w) (Expressions.operands_with s c l w kids) _ (operands l w kids)
        (λ xs h. row_after s c w xs.work kind (at_of p) t xs.operands h)
    expression l w (syntax.node kind p None kids) = tt

    pub operands : (l : List Closure) (w : Work) (es : syntax.Trees) → Holds (all_typed w) (Expressions.operands_with s c l w es)
    operands l w syntax.none = same w
    operands l w (syntax.more t ts) = passes (typed w) (all_typed w) (and_then (Expressions.expression_with s c l w t) (Expressions.chosen_operand c)) _
        (chosen c w (Expressions.expression_with s c l w t) (expression l w t)) (λ x g.
        passes (all_typed x.work) (all_typed w) (Expressions.operands_with s c l x.work ts) _ (operands l x.work ts) (λ xs h. after g h))
