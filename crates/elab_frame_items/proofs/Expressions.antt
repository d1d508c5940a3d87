-- Each form of an expression adds whole items alone, where its operands are whole.
use Rattle.std.proofs.Common.{◌≡◌, refl, ℕ, Bool, true, false, ◌&&◌, ◌||◌, not, List, [], ◌∷◌, ◌++◌, Option, Some, None, is_some, Result, Ok, Err}
use Rattle.std.specs.Prelude.{if◌then◌else◌, codes}
use Rattle.std.specs.Str.{bytes_eq}
use Rattle.elab_rules.specs.tx_ints.declared.kinds.BinOp.{BinOp}
use Rattle.elab_rules.specs.cpp_types.Typ.{Typ, typ, Form, void, int, enum, null, ptr, ref, array, func, class, closure, tx_ex, Signature}
use Rattle.elab_rules.specs.cpp_types.Class.{Class}
use Rattle.elab_rules.specs.cpp_types.Equal.{form_eq}
use Rattle.elab_rules.specs.cpp_types.declared.classes.At.{At}
use Rattle.elab_rules.specs.cpp_types.declared.ranks.Cat.TheVariants.{Lvalue, Prvalue}
use Rattle.elab_rules.specs.cpp_lex.Tokens.{Lexeme}
use Rattle.elab_rules.specs.cpp_lex.Ints.{int_type_of}
use Rattle.elab_rules.specs.cpp_ast.declared.arena.At.{At as SyntaxAt}
use Rattle.elab_rules.specs.cpp_ast.declared.kinds.NodeKind.{NodeKind}
use Rattle.elab_rules.specs.cpp_ast.declared.kinds.NodeKind.TheVariants as k
use Rattle.elab_rules.specs.cpp_ast.Trees as syntax
use Rattle.elab_rules.specs.cpp_overload.Choosing.{chosen}
use Rattle.elab_rules.specs.cpp_tree.declared.kinds.Builtin.{Builtin}
use Rattle.elab_rules.specs.cpp_tree.declared.kinds.TKind.{TKind}
use Rattle.elab_rules.specs.cpp_tree.declared.kinds.TKind.TheVariants as forms
use Rattle.elab_rules.specs.cpp_tree.declared.faults.ElabFault.{ElabFault}
use Rattle.elab_rules.specs.cpp_tree.declared.faults.IllRule.TheVariants.{NoConversion, NoCopy, OutOfProfile, NoViable, BadInit, BadMain, BadOperand, NotCallable}
use Rattle.elab_rules.specs.cpp_tree.declared.faults.IllRule.TheVariants.{NotTriviallyCopyable, BadThrow}
use Rattle.elab_rules.specs.cpp_tree.Trees.{Tree, node, Trees, none, more, one, typ_in}
use Rattle.elab_rules.specs.cpp_tree.Typing.{unqualified, is_class_typ, form_in, is_volatile_typ, is_void, is_reference, kind_in}
use Rattle.elab_rules.specs.elab_ctx.Ctx.{Ctx, Work, Closure, Capture}
use Rattle.elab_rules.specs.elab_ctx.Steps.{and_then, expect, check, Operand, Made, Typed, TypedAll, at_of, spelling, value_at, token_place}
use Rattle.elab_rules.specs.Values
use Rattle.elab_rules.specs.Objects.{Part, traits_at, parts_of}
use Rattle.elab_rules.specs.Initialising
use Rattle.elab_rules.specs.Initialising.{func_at, places_from, class_number, arguments, meant, signature_parameters, signature_result}
use Rattle.elab_rules.specs.Operators
use Rattle.elab_rules.specs.Names
use Rattle.elab_rules.specs.Calls
use Rattle.elab_rules.specs.Casts
use Rattle.elab_rules.specs.Types.{no_specifiers, specified_type}
use Rattle.elab_rules.specs.Strings
use Rattle.elab_rules.specs.Expressions
use Rattle.elab_places.proofs.Steps.{On, bind, skip, either}
use Rattle.elab_frame_items.specs.Supplies.{IsCallee, Supplies}
use Rattle.elab_frame_items.specs.Items.{IsWhole, AllWhole, AreParameters, FunctionsWhole}
use Rattle.elab_frame_items.proofs.Objects.{Adds, same, after, Mades, AllMades, later, object, initial, class_from, words, at_function, exact_object, from_values, both}

abbrev pub Types : List Class → Work → Typed → Type 0
Types classes w x = Adds classes w x.work

abbrev pub AllTypes : List Class → Work → TypedAll → Type 0
AllTypes classes w x = Adds classes w x.work

-- Operators

copy_assigned : (c : Ctx) (w : Work) (at : At) (a b : Operand) (f : Tree → Tree) (t : Typ) → IsWhole c.classes b.tree → On (Mades c.classes w) (Operators.copy_assigned c w at a b f t)
copy_assigned c w at a b f t h = skip (Mades c.classes w) (check b.at NoCopy (not (is_volatile_typ (typ_in b.tree)))) _ (λ z. object c w b.at b.tree h)

class_assigned_in : (c : Ctx) (w : Work) (at : At) (a b : Operand) (f : Form) → IsWhole c.classes b.tree → On (Mades c.classes w) (Operators.class_assigned_in c w at a b f)
class_assigned_in c w at a b (class n) h =
    skip (Mades c.classes w) (check b.at NoConversion (Initialising.is_same_or_base c.classes (class_number (typ_in b.tree)) (Some n))) _
    (λ x. skip (Mades c.classes w) (check at NoCopy ((traits_at c n).is_assignable && not (is_volatile_typ (typ_in a.tree)))) _
    (λ y. copy_assigned c w at a b (Initialising.as_source b.at n) (typ_in a.tree) h))
class_assigned_in c w at a b (tx_ex t) h = skip (Mades c.classes w) (check b.at NoConversion (form_eq (form_in (typ_in b.tree)) (tx_ex t))) _
    (λ x. skip (Mades c.classes w) (check at NoCopy (Operators.is_assignable_form c (form_in t) && not (is_volatile_typ (typ_in a.tree)))) _
    (λ y. copy_assigned c w at a b Operators.same_object t h))
class_assigned_in c w at a b void h = tt
class_assigned_in c w at a b (int j) h = tt
class_assigned_in c w at a b (enum n d) h = tt
class_assigned_in c w at a b null h = tt
class_assigned_in c w at a b (ptr t) h = tt
class_assigned_in c w at a b (ref t) h = tt
class_assigned_in c w at a b (array t n) h = tt
class_assigned_in c w at a b (func g) h = tt
class_assigned_in c w at a b (closure n) h = tt

assignment : (c : Ctx) (w : Work) (at : At) (a b : Operand) → IsWhole c.classes b.tree → On (Mades c.classes w) (Operators.assignment c w at a b)
assignment c w at a b h = skip (Mades c.classes w) (Operators.target at a) _
    (λ y. either (Mades c.classes w) (is_class_typ (typ_in a.tree)) _ _ (class_assigned_in c w at a b (form_in (typ_in a.tree)) h)
    (skip (Mades c.classes w) (check at BadOperand (is_some (kind_in (form_in (typ_in a.tree))))) _
    (λ x. bind (Mades c.classes w) (Mades c.classes w) (Initialising.initial c w (unqualified (typ_in a.tree)) b) _ (initial c w (unqualified (typ_in a.tree)) b h)
    (λ m g. skip (Mades c.classes w) (Operators.assigned at (kind_in (form_in (typ_in a.tree))) a m.tree) _ (λ t. g)))))

dropped_by : (c : Ctx) (w : Work) (o : Operand) (b d : Bool) → IsWhole c.classes o.tree
    → Adds c.classes w (if b then record { tree = Operators.bare_throw o.tree; work = w } else
    (if d then record { tree = Operators.value o; work = w } else Initialising.object_of c w o.at o.tree)).work
dropped_by c w o true d h = same c.classes w
dropped_by c w o false true h = same c.classes w
dropped_by c w o false false h = object c w o.at o.tree h

pub dropped : (c : Ctx) (w : Work) (o : Operand) → IsWhole c.classes o.tree → Adds c.classes w (Operators.dropped c w o).work
dropped c w o h = dropped_by c w o (Operators.throws o.tree) (Operators.is_volatile_scalar (typ_in o.tree) && Operators.is_read_when_dropped o.tree) h

settled_by : (c : Ctx) (w : Work) (o : Operand) (b : Bool) → IsWhole c.classes o.tree
    → Adds c.classes w (if b then Initialising.with_tree (Initialising.exception_copied c (typ_in o.tree) o.at) (Initialising.object_of c w o.at o.tree) else
    record { tree = o.tree; work = w }).work
settled_by c w o true h = object c w o.at o.tree h
settled_by c w o false h = same c.classes w

settled : (c : Ctx) (w : Work) (o : Operand) → IsWhole c.classes o.tree → Adds c.classes w (Operators.settled c w o).work
settled c w o h = settled_by c w o (Initialising.is_written_exception o.tree) h

comma : (c : Ctx) (w : Work) (at : At) (a b : Operand) → IsWhole c.classes a.tree → IsWhole c.classes b.tree → Adds c.classes w (Operators.comma c w at a b).work
comma c w at a b h i = after c.classes w (Operators.dropped c w a).work (Operators.comma c w at a b).work (dropped c w a h) (settled c (Operators.dropped c w a).work b i)

two_objects : (c : Ctx) (w : Work) (at : At) (test : Tree) (a b : Operand) → IsWhole c.classes a.tree → IsWhole c.classes b.tree
    → On (Mades c.classes w) (Operators.two_objects c w at test a b)
two_objects c w at test a b h i = bind (Mades c.classes w) (Mades c.classes w) (Initialising.exact_object c w t a.at a) _ (exact_object c w t a.at a h)
    (λ x g. bind (Mades c.classes x.work) (Mades c.classes w) (Initialising.exact_object c x.work t b.at b) _ (exact_object c x.work t b.at b i)
    (λ y e. after c.classes w x.work y.work g e))
  where
    t : Typ
    t = Operators.joined_class a b

same_work : (c : Ctx) (w : Work) (r : Result Tree ElabFault) → On (Mades c.classes w) (Operators.same_work w r)
same_work c w r = skip (Mades c.classes w) r _ (λ t. same c.classes w)

branches : (c : Ctx) (w : Work) (at : At) (test : Tree) (a b : Operand) → IsWhole c.classes a.tree → IsWhole c.classes b.tree
    → On (Mades c.classes w) (Operators.branches c w at test a b)
branches c w at test a b h i =
    either (Mades c.classes w) (Operators.throws a.tree && Operators.throws b.tree) _ _ (same c.classes w) (
    either (Mades c.classes w) (Operators.throws b.tree) _ _ (settled c w a h) (
    either (Mades c.classes w) (Operators.throws a.tree) _ _ (settled c w b i) (
    either (Mades c.classes w) (Operators.same_lvalues a b || (is_void (typ_in a.tree) && is_void (typ_in b.tree))) _ _ (same c.classes w) (
    either (Mades c.classes w) (Operators.is_shared a b) _ _ (same c.classes w) (
    either (Mades c.classes w) (Operators.both_of_class a b) _ _ (two_objects c w at test a b h i)
    (same_work c w (Operators.two_values at test (Operators.value_form a) (Operators.value_form b) a b)))))))

conditional : (c : Ctx) (w : Work) (at : At) (test a b : Operand) → IsWhole c.classes a.tree → IsWhole c.classes b.tree → On (Mades c.classes w) (Operators.conditional c w at test a b)
conditional c w at test a b h i = skip (Mades c.classes w) (Operators.truth c w test) _ (λ t. branches c w at t a b h i)

-- Members and calls

member_access : (c : Ctx) (w : Work) (at dot : At) (name : List ℕ) (o : Operand) → IsWhole c.classes o.tree → On (Mades c.classes w) (Names.member_access c w at dot name o)
member_access c w at dot name o h = either (Mades c.classes w) (Names.is_tx_exception (typ_in o.tree)) _ _
    (skip (Mades c.classes w) (Names.exception_member at name (Initialising.object_of c w o.at o.tree).tree) _ (λ t. object c w o.at o.tree h))
    (skip (Mades c.classes w) (Names.class_member c at dot name (Initialising.object_of c w o.at o.tree).tree) _ (λ t. object c w o.at o.tree h))

called : (c : Ctx) (w : Work) (at : At) (kind : TKind) (sig : Signature) (self : Trees) (os : List Operand) → AreParameters c.classes (signature_parameters sig)
    → AllWhole c.classes os → On (Mades c.classes w) (Calls.called c w at kind sig self os)
called c w at kind sig self os p h = skip (Mades c.classes w) (Calls.complete_result c at (signature_result sig)) _
    (λ y. bind (AllMades c.classes w) (Mades c.classes w) (Initialising.words c w (signature_parameters sig) os) _ (words c w (signature_parameters sig) os p h) (λ m g. g))

call_free : (c : Ctx) (w : Work) (at : At) (f : ℕ) (os : List Operand) → FunctionsWhole c.classes c.funcs → AllWhole c.classes os → On (Mades c.classes w) (Calls.call_free c w at f os)
call_free c w at f os q h = skip (Mades c.classes w) (check at BadMain (not (Calls.is_main (func_at c.funcs f)))) _
    (λ y. skip (Mades c.classes w) (Calls.best_of c at (places_from (Names.is_free (func_at c.funcs f).declared.name) 0 c.funcs) os) _
    (λ i. called c w at (Calls.call_kind (func_at c.funcs i).builtin i) (func_at c.funcs i).declared.signature none os (at_function c i q) h))

call_method_of : (c : Ctx) (w : Work) (at : At) (n f : ℕ) (self : Tree) (os : List Operand) → FunctionsWhole c.classes c.funcs → AllWhole c.classes os
    → On (Mades c.classes w) (Calls.call_method_of c w at n f self os)
call_method_of c w at n f self os q h =
    skip (Mades c.classes w) (Calls.best_of c at (places_from (Names.is_method n (func_at c.funcs f).declared.name) 0 c.funcs)
    (record { tree = self; at = at; zero = false } ∷ os)) _
    (λ i. called c w at (Calls.member_kind c n i) (func_at c.funcs i).declared.signature (one (Calls.as_object at n self)) os (at_function c i q) h)

call_method : (c : Ctx) (w : Work) (at : At) (f : ℕ) (self : Tree) (os : List Operand) → FunctionsWhole c.classes c.funcs → AllWhole c.classes os
    → On (Mades c.classes w) (Calls.call_method c w at f self os)
call_method c w at f self os q h = skip (Mades c.classes w) (expect at NotCallable (func_at c.funcs f).class) _ (λ n. call_method_of c w at n f self os q h)

call_get : (c : Ctx) (w : Work) (at : At) (e : Tree) (os : List Operand) → On (Mades c.classes w) (Calls.call_get c w at e os)
call_get c w at e [] = skip (Mades c.classes w) (expect at NotCallable (Calls.value_type (form_in (typ_in e)))) _
    (λ t. skip (Mades c.classes w) (check at NoViable (not (is_volatile_typ (typ_in e)))) _ (λ y. same c.classes w))
call_get c w at e (o ∷ os) = tt

call_closure : (c : Ctx) (w : Work) (at : At) (n : ℕ) (callee : Operand) (os : List Operand) → FunctionsWhole c.classes c.funcs → IsWhole c.classes callee.tree → AllWhole c.classes os
    → On (Mades c.classes w) (Calls.call_closure c w at n callee os)
call_closure c w at n callee os q i h = skip (Mades c.classes w) (Calls.best_of c at (places_from (Calls.is_closure_call n) 0 c.funcs)
    (record { tree = x.tree; at = callee.at; zero = false } ∷ os)) _
    (λ j. later c.classes w x.work (Calls.called c x.work at (forms.Call j) (func_at c.funcs j).declared.signature (one x.tree) os) (object c w callee.at callee.tree i)
    (called c x.work at (forms.Call j) (func_at c.funcs j).declared.signature (one x.tree) os (at_function c j q) h))
  where
    x : Made
    x = Initialising.object_of c w callee.at callee.tree

call_pointer : (c : Ctx) (w : Work) (at : At) (f : Form) (p : Tree) (os : List Operand)
    → ((sig : Signature) (d v : Bool) → f ≡ ptr (typ (func sig) d v) → AreParameters c.classes (signature_parameters sig)) → AllWhole c.classes os
    → On (Mades c.classes w) (Calls.call_pointer c w at f p os)
call_pointer c w at (ptr (typ (func sig) d v)) p os q h =
    skip (Mades c.classes w) (meant at (chosen c.classes (record { signature = sig; this = None } ∷ []) (arguments os))) _
    (λ i. called c w at forms.PointerCall sig (one p) os (q sig d v refl) h)
call_pointer c w at (ptr (typ void d v)) p os q h = tt
call_pointer c w at (ptr (typ (int j) d v)) p os q h = tt
call_pointer c w at (ptr (typ (enum n b) d v)) p os q h = tt
call_pointer c w at (ptr (typ null d v)) p os q h = tt
call_pointer c w at (ptr (typ (ptr t) d v)) p os q h = tt
call_pointer c w at (ptr (typ (ref t) d v)) p os q h = tt
call_pointer c w at (ptr (typ (array t n) d v)) p os q h = tt
call_pointer c w at (ptr (typ (class n) d v)) p os q h = tt
call_pointer c w at (ptr (typ (closure n) d v)) p os q h = tt
call_pointer c w at (ptr (typ (tx_ex t) d v)) p os q h = tt
call_pointer c w at void p os q h = tt
call_pointer c w at (int j) p os q h = tt
call_pointer c w at (enum n b) p os q h = tt
call_pointer c w at null p os q h = tt
call_pointer c w at (ref t) p os q h = tt
call_pointer c w at (array t n) p os q h = tt
call_pointer c w at (func g) p os q h = tt
call_pointer c w at (class n) p os q h = tt
call_pointer c w at (closure n) p os q h = tt
call_pointer c w at (tx_ex t) p os q h = tt

-- a value that is no lambda's object is called by its pointer
by_pointer : (c : Ctx) (w : Work) (at : At) (callee : Operand) (os : List Operand) → IsCallee c.classes callee → AllWhole c.classes os
    → On (Mades c.classes w) (Calls.call_pointer c w at (form_in (typ_in (Values.valued callee.at callee.tree))) (Values.valued callee.at callee.tree) os)
by_pointer c w at callee os i h =
    call_pointer c w at (form_in (typ_in (Values.valued callee.at callee.tree))) (Values.valued callee.at callee.tree) os i.pointer h

call_value : (c : Ctx) (w : Work) (at : At) (f : Form) (callee : Operand) (os : List Operand) → FunctionsWhole c.classes c.funcs → IsCallee c.classes callee → AllWhole c.classes os
    → On (Mades c.classes w) (Calls.call_value c w at f callee os)
call_value c w at (closure n) callee os q i h = call_closure c w at n callee os q i.whole h
call_value c w at f callee os q i h = by_pointer c w at callee os i h

call_abort : (c : Ctx) (w : Work) (at : At) (b : Builtin) (os : List Operand) → On (Mades c.classes w) (Calls.call_abort w at b os)
call_abort c w at b [] = same c.classes w
call_abort c w at b (o ∷ os) = tt

call_form : (c : Ctx) (w : Work) (at : At) (callee : Operand) (t : Tree) (os : List Operand) → FunctionsWhole c.classes c.funcs → IsCallee c.classes callee → AllWhole c.classes os
    → On (Mades c.classes w) (Calls.call_form c w at callee t os)
call_form c w at callee (node (forms.Function i) (typ void d v) Lvalue p none) os q x h = call_free c w at i os q h
call_form c w at callee (node (forms.Function i) (typ void d v) Lvalue p (more self none)) os q x h = call_method c w at i self os q h
call_form c w at callee (node forms.Default t cat p (more e none)) os q x h = call_get c w at e os
call_form c w at callee (node (forms.Builtin b) (typ void d v) Lvalue p none) os q x h = call_abort c w at b os
call_form c w at callee t os q x h = call_value c w at (form_in (typ_in t)) callee os q x h

-- Casts and throws

-- a value is whole where what it is of is
pub valued_whole : (c : Ctx) (at : At) (e : Tree) → IsWhole c.classes e → IsWhole c.classes (Values.valued at e)
valued_whole c at (node kind (typ (func g) q v) cat p kids) h = record { object = λ z. absurd cc }
valued_whole c at (node kind (typ (array (typ f a b) n) q v) cat p kids) h = record { object = λ z. absurd cc }
valued_whole c at (node kind (typ void q v) Lvalue p kids) h = h
valued_whole c at (node kind (typ void q v) Prvalue p kids) h = h
valued_whole c at (node kind (typ (class n) q v) Lvalue p kids) h = h
valued_whole c at (node kind (typ (class n) q v) Prvalue p kids) h = h
valued_whole c at (node kind (typ (closure n) q v) Lvalue p kids) h = h
valued_whole c at (node kind (typ (closure n) q v) Prvalue p kids) h = h
valued_whole c at (node kind (typ (tx_ex u) q v) Lvalue p kids) h = h
valued_whole c at (node kind (typ (tx_ex u) q v) Prvalue p kids) h = h
valued_whole c at (node kind (typ (int j) q v) Prvalue p kids) h = h
valued_whole c at (node kind (typ (int j) q v) Lvalue p kids) h = record { object = λ z. absurd cc }
valued_whole c at (node kind (typ (enum n b) q v) Prvalue p kids) h = h
valued_whole c at (node kind (typ (enum n b) q v) Lvalue p kids) h = record { object = λ z. absurd cc }
valued_whole c at (node kind (typ null q v) Prvalue p kids) h = h
valued_whole c at (node kind (typ null q v) Lvalue p kids) h = record { object = λ z. absurd cc }
valued_whole c at (node kind (typ (ptr u) q v) Prvalue p kids) h = h
valued_whole c at (node kind (typ (ptr u) q v) Lvalue p kids) h = record { object = λ z. absurd cc }
valued_whole c at (node kind (typ (ref u) q v) Prvalue p kids) h = h
valued_whole c at (node kind (typ (ref u) q v) Lvalue p kids) h = record { object = λ z. absurd cc }

scalar_cast : (c : Ctx) (w : Work) (at : At) (t : Typ) (o : Operand) → IsWhole c.classes o.tree → On (Mades c.classes w) (Casts.scalar_cast c w at t o)
scalar_cast c w at t o h = either (Mades c.classes w) (Casts.is_numeric (form_in (typ_in (Operators.value o))) && Casts.is_numeric (form_in t)) _ _ (same c.classes w)
    (initial c w (unqualified t) (record { tree = Operators.value o; at = at; zero = o.zero }) (valued_whole c o.at o.tree h))

object_cast : (c : Ctx) (w : Work) (t : Typ) (at : At) (os : List Operand) (f : Tree → Tree) → FunctionsWhole c.classes c.funcs → AllWhole c.classes os
    → On (Mades c.classes w) (and_then (Initialising.from_values c w t at os) (λ (m : Made). Ok (Initialising.with_tree f m)))
object_cast c w t at os f q h = bind (Mades c.classes w) (Mades c.classes w) (Initialising.from_values c w t at os) _ (from_values c w t at os q h) (λ m g. g)

to_value : (c : Ctx) (w : Work) (at : At) (t : Typ) (o : Operand) → FunctionsWhole c.classes c.funcs → IsWhole c.classes o.tree
    → On (Mades c.classes w) (if is_class_typ t then and_then (Initialising.from_values c w t at (o ∷ []))
    (λ (m : Made). Ok (Initialising.with_tree (Casts.as_expression at t) m)) else Casts.scalar_cast c w at t o)
to_value c w at t o q h = either (Mades c.classes w) (is_class_typ t) _ _ (object_cast c w t at (o ∷ []) (Casts.as_expression at t) q (h, tt))
    (scalar_cast c w at t o h)

cast_in : (c : Ctx) (w : Work) (at : At) (t : Typ) (f : Form) (o : Operand) → FunctionsWhole c.classes c.funcs → IsWhole c.classes o.tree → On (Mades c.classes w) (Casts.cast_in c w at t f o)
cast_in c w at t void o q h = dropped c w o h
cast_in c w at t (ref u) o q h = bind (Mades c.classes w) (Mades c.classes w) (Initialising.initial c w t o) _ (initial c w t o h) (λ m g. g)
cast_in c w at t (func s) o q h = tt
cast_in c w at t (array u n) o q h = tt
cast_in c w at t (int j) o q h = to_value c w at t o q h
cast_in c w at t (enum n b) o q h = to_value c w at t o q h
cast_in c w at t null o q h = to_value c w at t o q h
cast_in c w at t (ptr u) o q h = to_value c w at t o q h
cast_in c w at t (class n) o q h = to_value c w at t o q h
cast_in c w at t (closure n) o q h = to_value c w at t o q h
cast_in c w at t (tx_ex u) o q h = to_value c w at t o q h

functional : (c : Ctx) (w : Work) (at : At) (t : Typ) (os : List Operand) → FunctionsWhole c.classes c.funcs → AllWhole c.classes os → On (Mades c.classes w) (Casts.functional c w at t os)
functional c w at t (o ∷ []) q h = cast_in c w at t (form_in t) o q h.0
functional c w at t [] q h = either (Mades c.classes w) (is_class_typ t) _ _ (object_cast c w t at [] (Casts.as_expression at t) q tt)
    (either (Mades c.classes w) (is_void t) _ _ (same c.classes w)
    (skip (Mades c.classes w) (check at BadInit (is_some (kind_in (form_in t)) && not (is_reference t))) _ (λ y. same c.classes w)))
functional c w at t (o ∷ p ∷ os) q h = either (Mades c.classes w) (is_class_typ t) _ _
    (object_cast c w t at (o ∷ p ∷ os) (Casts.as_expression at t) q h) tt

throw_object : (c : Ctx) (w : Work) (at : At) (o : Operand) → IsWhole c.classes o.tree → On (Mades c.classes w) (Casts.throw_object c w at o)
throw_object c w at o h = skip (Mades c.classes w) (check o.at NoCopy (not (is_volatile_typ (typ_in o.tree)))) _
    (λ y. skip (Mades c.classes w) (Casts.within_exception c at (typ_in o.tree)) _ (λ z. object c w o.at o.tree h))

thrown_scalar : (c : Ctx) (w : Work) (at : At) (o : Operand)
    → On (Mades c.classes w) (and_then (check at BadThrow (Casts.is_thrown_scalar (form_in (typ_in (Operators.value o)))))
    (λ y. Ok (record { tree = Casts.throw_node c at (typ_in (Operators.value o)) (Operators.value o); work = w })))
thrown_scalar c w at o = skip (Mades c.classes w) (check at BadThrow (Casts.is_thrown_scalar (form_in (typ_in (Operators.value o))))) _ (λ y. same c.classes w)

throw_in : (c : Ctx) (w : Work) (at : At) (f : Form) (o : Operand) → IsWhole c.classes o.tree → On (Mades c.classes w) (Casts.throw_in c w at f o)
throw_in c w at (class n) o h = skip (Mades c.classes w) (check at NotTriviallyCopyable (traits_at c n).is_trivially_copyable) _ (λ y. throw_object c w at o h)
throw_in c w at (tx_ex t) o h = throw_object c w at o h
throw_in c w at void o h = thrown_scalar c w at o
throw_in c w at (int j) o h = thrown_scalar c w at o
throw_in c w at (enum n b) o h = thrown_scalar c w at o
throw_in c w at null o h = thrown_scalar c w at o
throw_in c w at (ptr u) o h = thrown_scalar c w at o
throw_in c w at (ref u) o h = thrown_scalar c w at o
throw_in c w at (array u n) o h = thrown_scalar c w at o
throw_in c w at (func g) o h = thrown_scalar c w at o
throw_in c w at (closure n) o h = thrown_scalar c w at o

throw : (c : Ctx) (w : Work) (at : At) (os : List Operand) → AllWhole c.classes os → On (Mades c.classes w) (Casts.throw c w at os)
throw c w at [] h = same c.classes w
throw c w at (o ∷ os) h = bind (Mades c.classes w) (Mades c.classes w) (Casts.throw_in c w at (form_in (typ_in o.tree)) o) _ (throw_in c w at (form_in (typ_in o.tree)) o h.0)
    (λ m g. g)

-- Lambdas

captured_value : (c : Ctx) (w : Work) (x : Capture) (t : Typ) (o : Operand) → IsWhole c.classes o.tree → On (Mades c.classes w) (Expressions.captured_value c w x t o)
captured_value c w x (typ (class n) d v) o h = class_from c w (typ (class n) d v) x.at o h
captured_value c w x (typ (closure n) d v) o h = class_from c w (typ (closure n) d v) x.at o h
captured_value c w x (typ (tx_ex u) d v) o h = class_from c w (typ (tx_ex u) d v) x.at o h
captured_value c w x (typ void d v) o h = same c.classes w
captured_value c w x (typ (int j) d v) o h = same c.classes w
captured_value c w x (typ (enum n b) d v) o h = same c.classes w
captured_value c w x (typ null d v) o h = same c.classes w
captured_value c w x (typ (ptr u) d v) o h = same c.classes w
captured_value c w x (typ (ref u) d v) o h = same c.classes w
captured_value c w x (typ (array u n) d v) o h = same c.classes w
captured_value c w x (typ (func g) d v) o h = same c.classes w

module _ (P : Work → Type 0) (T : syntax.Tree → Type 0) (Ts : syntax.Trees → Type 0) (s : List Lexeme) (c : Ctx) (supplies : Supplies P T Ts s c)
    (functions : FunctionsWhole c.classes c.funcs) where
  captured : (w : Work) (x : Capture) → On (Mades c.classes w) (Expressions.captured c w x)
  captured w x = bind (IsWhole c.classes) (Mades c.classes w) (Expressions.capture_source c w x x.variable) _ (supplies.captured w x)
      (λ e h. captured_value c w x x.typ (record { tree = e; at = x.at; zero = false }) h)

  captured_pieces : (w : Work) (ps : List Part) (xs : List Capture) → On (AllMades c.classes w) (Expressions.captured_pieces c w ps xs)
  captured_pieces w (p ∷ ps) (x ∷ xs) = bind (Mades c.classes w) (AllMades c.classes w) (Expressions.captured c w x) _ (captured w x)
      (λ m g. bind (AllMades c.classes m.work) (AllMades c.classes w) (Expressions.captured_pieces c m.work ps xs) _ (captured_pieces m.work ps xs)
      (λ r h. after c.classes w m.work r.work g h))
  captured_pieces w [] xs = same c.classes w
  captured_pieces w (p ∷ ps) [] = same c.classes w

  closure_object : (l : List Closure) (w : Work) (at : At) → On (Mades c.classes w) (Expressions.closure_object c l w at)
  closure_object l w at = skip (Mades c.classes w) (expect at OutOfProfile (Expressions.closure_at at l)) _
      (λ x. bind (AllMades c.classes w) (Mades c.classes w) (Expressions.captured_pieces c w (parts_of c.classes x.class) x.captures) _
      (captured_pieces w (parts_of c.classes x.class) x.captures) (λ m g. g))

  -- Expressions

  an_operand : (at : At) (w : Work) (r : Result Made ElabFault) → On (Mades c.classes w) r → On (Types c.classes w) (Expressions.an_operand at r)
  an_operand at w r h = bind (Mades c.classes w) (Types c.classes w) r _ h (λ m g. g)

  -- an operand behind others
  operand_later : (at : At) (w x : Work) (r : Result Made ElabFault) → Adds c.classes w x → On (Mades c.classes x) r → On (Types c.classes w) (Expressions.an_operand at r)
  operand_later at w x r h g = bind (Mades c.classes x) (Types c.classes w) r _ g (λ m i. after c.classes w x m.work h i)

  a_tree : (at : At) (w : Work) (r : Result Tree ElabFault) → On (Types c.classes w) (Expressions.a_tree at w r)
  a_tree at w r = skip (Types c.classes w) r _ (λ t. same c.classes w)

  types_later : (w x : Work) (r : Result Typed ElabFault) → Adds c.classes w x → On (Types c.classes x) r → On (Types c.classes w) r
  types_later w x (Ok m) h g = after c.classes w x m.work h g
  types_later w x (Err e) h g = tt

  one_text : (w : Work) (at : At) (bytes : List ℕ) → Adds c.classes w (record w { globals = w.globals ++ Casts.string_global at bytes ∷ [] })
  one_text w at bytes = record { whole = λ h. h }

  leaf_of : (w : Work) (kind : NodeKind) (at : At) (t : ℕ) → On (Types c.classes w) (Expressions.leaf_of s c w kind at t)
  leaf_of w k.IntegerLiteral at t = skip (Types c.classes w) (expect at OutOfProfile (int_type_of (spelling s t) (value_at s t))) _ (λ x. same c.classes w)
  leaf_of w k.CharacterLiteral at t = same c.classes w
  leaf_of w k.BooleanLiteral at t = same c.classes w
  leaf_of w k.PointerLiteral at t = same c.classes w
  leaf_of w k.StringLiteral at t = one_text w at (Strings.string_bytes (spelling s t))
  leaf_of w k.This at t = a_tree at w (Names.this_tree c at)
  leaf_of w k.UnqualifiedId at t = a_tree at w (Names.named c w at (spelling s t))
  leaf_of w k.StdAbort at t = same c.classes w
  leaf_of w kind at t = tt

  assignment_of : (w : Work) (at : At) (name : List ℕ) (a b : Operand) → IsWhole c.classes b.tree → On (Mades c.classes w) (Expressions.assignment_of c w at name a b)
  assignment_of w at name a b h = either (Mades c.classes w) (bytes_eq name (codes "=")) _ _ (assignment c w at a b h)
      (same_work c w (and_then (expect at OutOfProfile (Operators.compound_operator name)) (λ (op : BinOp). Operators.compound c op at a b)))

  -- what a pointer points to is an lvalue
  pointed : (at : At) (a : Operand) → On (λ (o : Operand). IsWhole c.classes o.tree) (Expressions.pointed_operand at a)
  pointed at a = bind (IsWhole c.classes) (λ (o : Operand). IsWhole c.classes o.tree) (Operators.indirection at a) _
      (skip (IsWhole c.classes) (expect at BadOperand (Operators.pointed (Operators.value_form a))) _ (λ t. record { object = λ z. absurd cc })) (λ t h. h)

  row_of : (w : Work) (kind : NodeKind) (at : At) (t : ℕ) (os : List Operand) → AllWhole c.classes os → On (Types c.classes w) (Expressions.row_of s c w kind at t os)
  row_of w k.Subscript at t (a ∷ b ∷ []) h = a_tree at w (Operators.subscript c at a b)
  row_of w k.PostfixIncrement at t (a ∷ []) h = a_tree at w (Operators.step c (Expressions.postfix_operator (spelling s t)) true at a)
  row_of w k.UnaryExpression at t (a ∷ []) h = a_tree at w (Expressions.unary_of c w at (spelling s t) a)
  row_of w k.BinaryExpression at t (a ∷ b ∷ []) h = a_tree at w (Expressions.operator_of c w at (spelling s t) a b)
  row_of w k.ConditionalExpression at t (a ∷ b ∷ d ∷ []) h =
      an_operand at w (Operators.conditional c w at a b d) (conditional c w at a b d h.1.0 h.1.1.0)
  row_of w k.AssignmentExpression at t (a ∷ b ∷ []) h =
      an_operand at w (Expressions.assignment_of c w at (spelling s t) a b) (assignment_of w at (spelling s t) a b h.1.0)
  row_of w k.CommaExpression at t (a ∷ b ∷ []) h = comma c w at a b h.0 h.1.0
  row_of w k.ThrowExpression at t os h = an_operand at w (Casts.throw c w at os) (throw c w at os h)
  row_of w k.MemberAccess at t (a ∷ []) h = an_operand at w (Names.member_access c w at (token_place s at.source t) (spelling s t) a)
      (member_access c w at (token_place s at.source t) (spelling s t) a h.0)
  row_of w k.PointerMemberAccess at t (a ∷ []) h = bind (λ (o : Operand). IsWhole c.classes o.tree) (Types c.classes w) (Expressions.pointed_operand at a) _ (pointed at a)
      (λ o i. an_operand at w (Names.member_access c w at (token_place s at.source t) (spelling s t) o)
      (member_access c w at (token_place s at.source t) (spelling s t) o i))
  row_of w kind at t os h = tt

  leaf_or_row : (w : Work) (kind : NodeKind) (at : At) (t : ℕ) → On (Types c.classes w) (Expressions.leaf_or_row s c w kind at t)
  leaf_or_row w k.ThrowExpression at t = an_operand at w (Casts.throw c w at []) (throw c w at [] tt)
  leaf_or_row w kind at t = leaf_of w kind at t

  row_later : (w x : Work) (kind : NodeKind) (at : At) (t : ℕ) (os : List Operand) → AllWhole c.classes os → Adds c.classes w x
      → On (Types c.classes w) (Expressions.row_of s c x kind at t os)
  row_later w x kind at t os i h = types_later w x (Expressions.row_of s c x kind at t os) h (row_of x kind at t os i)

  cast_later : (w x : Work) (at : At) (u : Typ) (o : Operand) → IsWhole c.classes o.tree → Adds c.classes w x → On (Types c.classes w) (Expressions.an_operand at (Casts.cast c x at u o))
  cast_later w x at u o i h = operand_later at w x (Casts.cast c x at u o) h (cast_in c x at u (form_in u) o functions i)

  -- what its expression adds, it adds with the one function chosen that it names
  pub chosen_adds : (w : Work) (r : Result Typed ElabFault) → On (Types c.classes w) r → On (Types c.classes w) (and_then r (Expressions.chosen_operand c))
  chosen_adds w r h = bind (Types c.classes w) (Types c.classes w) r _ h (λ x g. skip (Types c.classes w) (Names.resolved c x.operand.tree) _ (λ t. g))

  -- texts of kids
  others : (kind : NodeKind) (p : SyntaxAt) (token : Option ℕ) (t : syntax.Tree) (ts : syntax.Trees) → T (syntax.node kind p token (syntax.more t ts)) → Ts ts
  others kind p token t ts y = supplies.rest t ts (supplies.kids kind p token (syntax.more t ts) y)

  inner : (kind : NodeKind) (p : SyntaxAt) (token : Option ℕ) (t : syntax.Tree) (ts : syntax.Trees) → T (syntax.node kind p token (syntax.more t ts)) → T t
  inner kind p token t ts y = supplies.first t ts (supplies.kids kind p token (syntax.more t ts) y)

  second : (kind : NodeKind) (p : SyntaxAt) (token : Option ℕ) (t u : syntax.Tree)
      → T (syntax.node kind p token (syntax.more t (syntax.more u syntax.none))) → T u
  second kind p token t u y = supplies.first u syntax.none (others kind p token t (syntax.more u syntax.none) y)

  mutual
    pub expression : (w : Work) (e : syntax.Tree) → P w → T e → On (Types c.classes w) (Expressions.expression_with s c c.closures w e)
    expression w (syntax.node k.ParenthesizedExpression p token (syntax.more e syntax.none)) z y =
        bind (Types c.classes w) (Types c.classes w) (Expressions.expression_with s c c.closures w e) _ (expression w e z (inner k.ParenthesizedExpression p token e syntax.none y)) (λ x g. g)
    expression w (syntax.node k.FunctionCall p token (syntax.more f es)) z y =
        bind (λ (x : Typed). Types c.classes w x × (IsCallee c.classes x.operand × P x.work)) (Types c.classes w) (Expressions.expression_with s c c.closures w f) _
        (both (Types c.classes w) (λ (x : Typed). IsCallee c.classes x.operand × P x.work) (Expressions.expression_with s c c.closures w f) (expression w f z (inner k.FunctionCall p token f es y)) (supplies.callee w f z (inner k.FunctionCall p token f es y)))
        (λ x g. bind (λ (xs : TypedAll). AllTypes c.classes x.work xs × (AllWhole c.classes xs.operands × P xs.work)) (Types c.classes w)
        (Expressions.operands_with s c c.closures x.work es) _
        (both (AllTypes c.classes x.work) (λ (xs : TypedAll). AllWhole c.classes xs.operands × P xs.work) (Expressions.operands_with s c c.closures x.work es)
        (operands x.work es g.1.1 (others k.FunctionCall p token f es y)) (supplies.operands x.work es g.1.1 (others k.FunctionCall p token f es y)))
        (λ xs h. operand_later (at_of p) w xs.work (Calls.call c xs.work (at_of p) x.operand xs.operands) (after c.classes w x.work xs.work g.0 h.0)
        (call_form c xs.work (at_of p) x.operand x.operand.tree xs.operands functions g.1.0 h.1.0)))
    expression w (syntax.node k.FunctionalCast p token (syntax.more base es)) z y =
        skip (Types c.classes w) (Expressions.specified_with s c c.closures w no_specifiers base) _ (λ d.
        skip (Types c.classes w) (and_then (specified_type (at_of p) d) (Expressions.written_type (at_of p))) _ (λ t.
        bind (λ (xs : TypedAll). AllTypes c.classes w xs × (AllWhole c.classes xs.operands × P xs.work)) (Types c.classes w) (Expressions.operands_with s c c.closures w es) _
        (both (AllTypes c.classes w) (λ (xs : TypedAll). AllWhole c.classes xs.operands × P xs.work) (Expressions.operands_with s c c.closures w es)
        (operands w es z (others k.FunctionalCast p token base es y)) (supplies.operands w es z (others k.FunctionalCast p token base es y)))
        (λ xs h. operand_later (at_of p) w xs.work (Casts.functional c xs.work (at_of p) t xs.operands) h.0
        (functional c xs.work (at_of p) t xs.operands functions h.1.0))))
    expression w (syntax.node k.StaticCast p token (syntax.more t (syntax.more e syntax.none))) z y =
        skip (Types c.classes w) (and_then (Expressions.type_id_with s c c.closures w t) (Expressions.written_type (at_of p))) _ (λ u.
        bind (λ (x : Typed). Types c.classes w x × (IsWhole c.classes x.operand.tree × P x.work)) (Types c.classes w)
        (and_then (Expressions.expression_with s c c.closures w e) (Expressions.chosen_operand c)) _
        (both (Types c.classes w) (λ (x : Typed). IsWhole c.classes x.operand.tree × P x.work) (and_then (Expressions.expression_with s c c.closures w e) (Expressions.chosen_operand c))
        (chosen_adds w (Expressions.expression_with s c c.closures w e) (expression w e z (second k.StaticCast p token t e y))) (supplies.operand w e z (second k.StaticCast p token t e y)))
        (λ x h. cast_later w x.work (at_of p) u x.operand h.1.0 h.0))
    expression w (syntax.node k.CastExpression p token (syntax.more t (syntax.more e syntax.none))) z y =
        skip (Types c.classes w) (and_then (Expressions.type_id_with s c c.closures w t) (Expressions.written_type (at_of p))) _ (λ u.
        bind (λ (x : Typed). Types c.classes w x × (IsWhole c.classes x.operand.tree × P x.work)) (Types c.classes w)
        (and_then (Expressions.expression_with s c c.closures w e) (Expressions.chosen_operand c)) _
        (both (Types c.classes w) (λ (x : Typed). IsWhole c.classes x.operand.tree × P x.work) (and_then (Expressions.expression_with s c c.closures w e) (Expressions.chosen_operand c))
        (chosen_adds w (Expressions.expression_with s c c.closures w e) (expression w e z (second k.CastExpression p token t e y))) (supplies.operand w e z (second k.CastExpression p token t e y)))
        (λ x h. cast_later w x.work (at_of p) u x.operand h.1.0 h.0))
    expression w (syntax.node k.SizeofExpression p token (syntax.more e syntax.none)) z y =
        skip (Types c.classes w) (and_then (Expressions.expression_with s c [] w e) (Expressions.chosen_operand c)) _
        (λ x. a_tree (at_of p) w (Casts.size_literal c (at_of p) x.operand.at (typ_in x.operand.tree)))
    expression w (syntax.node k.SizeofType p token (syntax.more t syntax.none)) z y =
        skip (Types c.classes w) (and_then (Expressions.type_id_with s c [] w t) (Expressions.written_type (at_of p))) _
        (λ u. a_tree (at_of p) w (Casts.size_literal c (at_of p) (at_of p) u))
    expression w (syntax.node k.Lambda p token kids) z y =
        an_operand (at_of p) w (Expressions.closure_object c c.closures w (at_of p)) (closure_object c.closures w (at_of p))
    expression w (syntax.node k.QualifiedId p (Some n) (syntax.more (syntax.node kind q (Some t) kids) syntax.none)) z y =
        a_tree (at_of p) w (Expressions.qualified_name c w (at_of p) (spelling s t) (spelling s n))
    expression w (syntax.node kind p (Some t) syntax.none) z y = leaf_or_row w kind (at_of p) t
    expression w (syntax.node kind p (Some t) kids) z y =
        bind (λ (xs : TypedAll). AllTypes c.classes w xs × (AllWhole c.classes xs.operands × P xs.work)) (Types c.classes w) (Expressions.operands_with s c c.closures w kids) _
        (both (AllTypes c.classes w) (λ (xs : TypedAll). AllWhole c.classes xs.operands × P xs.work) (Expressions.operands_with s c c.closures w kids)
        (operands w kids z (supplies.kids kind p (Some t) kids y)) (supplies.operands w kids z (supplies.kids kind p (Some t) kids y)))
        (λ xs h. row_later w xs.work kind (at_of p) t xs.operands h.1.0 h.0)
    expression w (syntax.node kind p None kids) z y = tt

    pub operands : (w : Work) (es : syntax.Trees) → P w → Ts es → On (AllTypes c.classes w) (Expressions.operands_with s c c.closures w es)
    operands w syntax.none z y = same c.classes w
    operands w (syntax.more t ts) z y = bind (λ (x : Typed). Types c.classes w x × (IsWhole c.classes x.operand.tree × P x.work)) (AllTypes c.classes w)
        (and_then (Expressions.expression_with s c c.closures w t) (Expressions.chosen_operand c)) _
        (both (Types c.classes w) (λ (x : Typed). IsWhole c.classes x.operand.tree × P x.work) (and_then (Expressions.expression_with s c c.closures w t) (Expressions.chosen_operand c))
        (chosen_adds w (Expressions.expression_with s c c.closures w t) (expression w t z (supplies.first t ts y))) (supplies.operand w t z (supplies.first t ts y)))
        (λ x g. bind (AllTypes c.classes x.work) (AllTypes c.classes w) (Expressions.operands_with s c c.closures x.work ts) _ (operands x.work ts g.1.1 (supplies.rest t ts y))
        (λ xs h. after c.classes w x.work xs.work g.0 h))
