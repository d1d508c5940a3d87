-- Expressions and initialisers add globals at the end, and change nothing else but the frame.
use Rattle.std.proofs.Common.{◌-◌, drop, ℕ, zero, suc, Bool, true, false, List, [], ◌∷◌, Option, Some, None, Result, Ok}
use Rattle.std.specs.Prelude.{slice_get, not, ◌&&◌, ◌||◌, is_some, codes, if◌then◌else◌}
use Rattle.std.specs.Str.{bytes_eq}
use Rattle.elab_rules.specs.cpp_types.Typ.{Typ, typ, Form, void, ptr, ref, array, func, class, closure, tx_ex, Signature, Typs, none as no_typs}
use Rattle.elab_rules.specs.cpp_types.Typ.{more as and_typ}
use Rattle.elab_rules.specs.cpp_types.Class.{Member}
use Rattle.elab_rules.specs.cpp_types.declared.classes.At.{At}
use Rattle.elab_rules.specs.cpp_types.declared.ranks.Binding.{Binding}
use Rattle.elab_rules.specs.cpp_types.declared.ranks.Binding.TheVariants.{Value, Direct, Temporary}
use Rattle.elab_rules.specs.cpp_types.declared.ranks.Step.{Step}
use Rattle.elab_rules.specs.cpp_types.declared.ranks.Cat.TheVariants.{Lvalue}
use Rattle.elab_rules.specs.cpp_lex.Tokens.{Lexeme}
use Rattle.elab_rules.specs.cpp_ast.declared.kinds.NodeKind.{NodeKind}
use Rattle.elab_rules.specs.cpp_ast.declared.kinds.NodeKind.TheVariants as k
use Rattle.elab_rules.specs.cpp_ast.Trees as syntax
use Rattle.elab_rules.specs.cpp_tree.declared.kinds.TKind.{TKind}
use Rattle.elab_rules.specs.cpp_tree.declared.kinds.TKind.TheVariants as forms
use Rattle.elab_rules.specs.cpp_tree.declared.kinds.Builtin.{Builtin}
use Rattle.elab_rules.specs.cpp_tree.declared.faults.ElabFault.{ElabFault}
use Rattle.elab_rules.specs.cpp_tree.Trees.{Tree, node, Trees, none, more, one, typ_in, cat_of}
use Rattle.elab_rules.specs.cpp_tree.Typing.{form_in, unqualified, is_void, is_class_typ, is_class_prvalue, is_volatile_typ, kind_in, qualified}
use Rattle.elab_rules.specs.cpp_tree.Typing.{without_exception, is_reference}
use Rattle.elab_rules.specs.elab_ctx.Ctx.{Ctx, Work, Closure, Capture, Default, with_item}
use Rattle.elab_rules.specs.elab_ctx.Steps.{and_then, Operand, Made, MadeAll, Typed, TypedAll, at_of, spelling, token_place, check, expect, value_at}
use Rattle.elab_rules.specs.Objects.{Part, parts_of, traits_at}
use Rattle.elab_rules.specs.Initialising.{object_of, bound_by, initial, is_prvalue_of_class, parameters_at, reference_word, constructed_copy, constructor_at}
use Rattle.elab_rules.specs.Initialising.{copied_object, class_from, passed, words, constructed_by, is_prvalue_itself, constructed, only, scalar_from}
use Rattle.elab_rules.specs.Initialising.{exception_from, is_exception_itself, from_values, func_at, argument, arguments, class_number, conversion}
use Rattle.elab_rules.specs.Initialising.{is_written_exception, is_given_value, is_other_prvalue, object_operand, exact_object}
use Rattle.elab_rules.specs.Initialising.{from_nothing, has_copy, is_same_or_base, makeable, makers, meant, places_from, same_number, signature_result}
use Rattle.elab_rules.specs.Initialising.{with_tree, as_source, signature_parameters, is_closure_itself}
use Rattle.elab_rules.specs.Operators.{value, throws, is_volatile_scalar, is_read_when_dropped, dropped, copy_assigned, class_assigned_in, assignment}
use Rattle.elab_rules.specs.Operators.{same_lvalues, both_of_class, two_objects, same_work, branches, conditional, value_form, assigned, step, target, truth}
use Rattle.elab_rules.specs.Operators.{compound, compound_operator, same_object, subscript, two_values, settled, comma}
use Rattle.elab_rules.specs.Operators.{joined_class, is_shared, is_assignable_form}
use Rattle.elab_rules.specs.Names.{is_tx_exception, member_access, class_member, exception_member, is_free, is_method, resolved, is_const_typ}
use Rattle.elab_rules.specs.Names.{is_volatile_object, members_in, named, offset_at, this_tree}
use Rattle.elab_rules.specs.Casts.{is_numeric, scalar_cast, cast_in, cast, functional, throw_object, throw_in, throw, string_global, is_thrown_scalar}
use Rattle.elab_rules.specs.Casts.{within_exception, as_expression, size_literal}
use Rattle.elab_rules.specs.Calls.{called, call_free, call_method_of, call_method, call_get, call_closure, call_pointer, call_value, call_abort, call_form}
use Rattle.elab_rules.specs.Calls.{call, best_of, complete_result, is_closure_call, is_main, value_type, as_object, call_kind, member_kind}
use Rattle.elab_rules.specs.Strings.{string_bytes}
use Rattle.elab_rules.specs.Expressions.{an_operand, a_tree, chosen_operand, leaf_of, assignment_of, row_of, leaf_or_row, captured_value, captured}
use Rattle.elab_rules.specs.Expressions.{captured_pieces, closure_object, expression_with, operands_with, expression_of, operands_of, capture_source}
use Rattle.elab_rules.specs.Expressions.{closure_at, pointed_operand, specified_with, type_id_with, written_type, operator_of, postfix_operator, qualified_name, unary_of}
use Rattle.elab_rules.specs.Braces.{is_char_array, string_token, is_aggregate_class, is_object_of, item_in, not_narrowed, default_member, rest_piece}
use Rattle.elab_rules.specs.Braces.{rest_members, with_piece, rest_in, item_expression, item_of, items_of, braceable, is_not_narrowed, part_in, string_object}
use Rattle.elab_rules.specs.Braces.{syntax_place, default_at, this_of, tree_place}
use Rattle.elab_rules.specs.Statements.{bound_reference, copy_initialised, directly_initialised, is_lasting}
use Rattle.elab_leaving.specs.Kept.{On}
use Rattle.elab_leaving.proofs.Keeping.{begins_refl, begins_more, begins_trans, bind, skip, either, Grows, further}
use Rattle.elab_rules.specs.cpp_tree.declared.faults.IllRule.TheVariants.{BadInit, BadMain, BadOperand, BadThrow, Narrowing, NoConversion, NoCopy, NoViable}
use Rattle.elab_rules.specs.cpp_tree.declared.faults.IllRule.TheVariants.{NotCallable, NotTriviallyCopyable, OutOfProfile}
use Rattle.elab_rules.specs.cpp_overload.Choosing.{chosen}
use Rattle.elab_rules.specs.cpp_types.Equal.{form_eq}
use Rattle.elab_rules.specs.cpp_lex.Ints.{int_type_of}
use Rattle.elab_rules.specs.Types.{no_specifiers, specified_type}
use Rattle.elab_rules.specs.cpp_tree.Notation.{plain}
use Rattle.elab_rules.specs.tx_ints.declared.kinds.BinOp.{BinOp}
use Rattle.elab_rules.specs.Values.{part_at, valued, builder}

-- Answers

abbrev pub Mades : Work → Made → Type 0
Mades w m = Grows w m.work

abbrev pub Alls : Work → MadeAll → Type 0
Alls w m = Grows w m.work

abbrev pub Types : Work → Typed → Type 0
Types w x = Grows w x.work

abbrev pub TypesAll : Work → TypedAll → Type 0
TypesAll w x = Grows w x.work

same : (w : Work) → Grows w w
same w = begins_refl w.globals

grown : (u v w : Work) → Grows u v → Grows v w → Grows u w
grown u v w g h = begins_trans u.globals v.globals w.globals g h

-- the one thing or the other is made
if_made : (w : Work) (b : Bool) (x y : Made) → Mades w x → Mades w y → Mades w (if b then x else y)
if_made w true x y g h = g
if_made w false x y g h = h

made_after : (w v : Work) (r : Result Made ElabFault) → Grows w v → On (Mades v) r → On (Mades w) r
made_after w v r g h = further w v (λ (m : Made). m.work) r g h

-- Initialisers

object_grows : (c : Ctx) (w : Work) (at : At) (e : Tree) → Mades w (object_of c w at e)
object_grows c w at e = if_made w (is_class_prvalue (typ_in e) (cat_of e)) _ _ (same w) (same w)

bound_grows : (c : Ctx) (w : Work) (b : Binding) (step : Step) (t : Typ) (at : At) (e : Tree) → Mades w (bound_by c w b step t at e)
bound_grows c w Value step t at e = same w
bound_grows c w Direct step t at e = object_grows c w at e
bound_grows c w Temporary step t at e = same w

pub initial_grows : (c : Ctx) (w : Work) (t : Typ) (o : Operand) → On (Mades w) (initial c w t o)
initial_grows c w t o = skip (Mades w) (expect (o.at) NoConversion (conversion c t o)) _ (λ v. bound_grows c w v.binding v.step t o.at o.tree)

reference_grows : (c : Ctx) (w : Work) (ps : Typs) (o : Operand) → On (Alls w) (reference_word c w ps o)
reference_grows c w (and_typ p no_typs) o = skip (Alls w) (check o.at OutOfProfile (not (is_class_typ p))) _
    (λ y. bind (Mades w) (Alls w) (initial c w p o) _ (initial_grows c w p o) (λ m g. g))
reference_grows c w ps o = tt

copy_made : (c : Ctx) (w : Work) (n : ℕ) (t : Typ) (at : At) (o : Operand) (k : Option ℕ) → On (Mades w) (constructed_copy c w n t at o k)
copy_made c w n t at o None = object_grows c w o.at o.tree
copy_made c w n t at o (Some k) = bind (Alls w) (Mades w) (reference_word c w (parameters_at c.funcs k) o) _ (reference_grows c w (parameters_at c.funcs k) o)
    (λ m g. g)

copied_grows : (c : Ctx) (w : Work) (n : ℕ) (t : Typ) (at : At) (o : Operand) → On (Mades w) (copied_object c w n t at o)
copied_grows c w n t at o = skip (Mades w) (check (o.at) NoCopy (not (is_volatile_typ (typ_in o.tree)) && has_copy (traits_at c n).copy)) _
    (λ y. skip (Mades w) (meant at (chosen c.classes (makers c n) (argument o ∷ []))) _ (λ i. copy_made c w n t at o (constructor_at c n i)))

pub class_grows : (c : Ctx) (w : Work) (t : Typ) (at : At) (o : Operand) → On (Mades w) (class_from c w t at o)
class_grows c w (typ (closure n) q v) at o = either (Mades w) (is_closure_itself n q v o.tree) _ _ (same w)
    (skip (Mades w) (check (o.at) NoConversion (same_number n (class_number (typ_in o.tree)))) _
    (λ y. skip (Mades w) (check (o.at) NoCopy (not (is_volatile_typ (typ_in o.tree)))) _ (λ z. object_grows c w o.at o.tree)))
class_grows c w (typ (class n) q v) at o = skip (Mades w) (makeable c at n) _
    (λ k. either (Mades w) (is_prvalue_of_class n o.tree) _ _ (same w)
    (skip (Mades w) (check (o.at) NoConversion (is_same_or_base c.classes (class_number (typ_in o.tree)) (Some n))) _
    (λ y. copied_grows c w n (typ (class n) q v) at o)))
class_grows c w (typ (tx_ex t) q v) at o = skip (Mades w) (check (o.at) NoConversion (form_eq (form_in (typ_in o.tree)) (tx_ex t))) _
    (λ y. either (Mades w) (is_class_prvalue (typ_in o.tree) (cat_of o.tree)) _ _
    (if_made w (is_given_value (builder o.tree)) _ _ (object_grows c w o.at o.tree) (same w))
    (skip (Mades w) (check (o.at) NoCopy (not (is_volatile_typ (typ_in o.tree)))) _ (λ z. same w)))
class_grows c w t at o = tt

passed_grows : (c : Ctx) (w : Work) (p : Typ) (o : Operand) → On (Mades w) (passed c w p o)
passed_grows c w p o = either (Mades w) (is_class_typ p) _ _
    (bind (Mades w) (Mades w) (class_from c (with_item w (unqualified p)) (unqualified p) o.at o) _
    (class_grows c (with_item w (unqualified p)) (unqualified p) o.at o) (λ m g. g)) (initial_grows c w p o)

words_grow : (c : Ctx) (w : Work) (ps : Typs) (os : List Operand) → On (Alls w) (words c w ps os)
words_grow c w (and_typ p ps) (o ∷ os) = bind (Mades w) (Alls w) (passed c w p o) _ (passed_grows c w p o)
    (λ m g. bind (Alls m.work) (Alls w) (words c m.work ps os) _ (words_grow c m.work ps os) (λ r h. grown w m.work r.work g h))
words_grow c w ps os = same w

by_grows : (c : Ctx) (w : Work) (n : ℕ) (t : Typ) (at : At) (os : List Operand) (k : Option ℕ) → On (Mades w) (constructed_by c w n t at os k)
by_grows c w n t at os (Some k) = bind (Alls w) (Mades w) (words c w (parameters_at c.funcs k) os) _ (words_grow c w (parameters_at c.funcs k) os) (λ m g. g)
by_grows c w n t at (o ∷ []) None = skip (Mades w) (check (o.at) NoCopy (not (is_volatile_typ (typ_in o.tree)))) _ (λ y. object_grows c w o.at o.tree)
by_grows c w n t at os None = tt

constructed_grows : (c : Ctx) (w : Work) (n : ℕ) (t : Typ) (at : At) (os : List Operand) → On (Mades w) (constructed c w n t at os)
constructed_grows c w n t at [] = skip (Mades w) (from_nothing c t at) _ (λ e. same w)
constructed_grows c w n t at (o ∷ os) = skip (Mades w) (makeable c at n) _
    (λ k. either (Mades w) (is_prvalue_itself n (o ∷ os)) _ _ (same w)
    (skip (Mades w) (meant at (chosen c.classes (makers c n) (arguments (o ∷ os)))) _ (λ i. by_grows c w n t at (o ∷ os) (constructor_at c n i))))

scalar_grows : (c : Ctx) (w : Work) (t : Typ) (o : Operand) → On (Mades w) (scalar_from c w t o)
scalar_grows c w t o = bind (Mades w) (Mades w) (initial c w t o) _ (initial_grows c w t o) (λ m g. g)

exact_grows : (c : Ctx) (w : Work) (t : Typ) (at : At) (o : Operand) → On (Mades w) (exact_object c w t at o)
exact_grows c w t at o = either (Mades w) (is_other_prvalue t o.tree) _ _
    (made_after w x.work (class_from c x.work t at p) (object_grows c w o.at o.tree) (class_grows c x.work t at p)) (class_grows c w t at o)
  where
    x : Made
    x = object_of c w o.at o.tree

    p : Operand
    p = object_operand o x.tree

exception_grows : (c : Ctx) (w : Work) (t : Typ) (at : At) (os : List Operand) → On (Mades w) (exception_from c w t at os)
exception_grows c w t at os = skip (Mades w) (expect at NoViable (only os)) _
    (λ o. either (Mades w) (is_class_typ t) _ _ (exact_grows c w t at o) (scalar_grows c w t o))

nothing_grows : (c : Ctx) (w : Work) (t : Typ) (at : At) → On (Mades w) (and_then (from_nothing c t at) (λ (e : Tree). Ok (record { tree = e; work = w })))
nothing_grows c w t at = skip (Mades w) (from_nothing c t at) _ (λ e. same w)

value_grows : (c : Ctx) (w : Work) (t : Typ) (at : At) (o : Operand) (os : List Operand)
    → On (Mades w) (if is_class_typ t then class_from c w t at o else and_then (expect at BadInit (only (o ∷ os))) (λ (p : Operand). scalar_from c w t p))
value_grows c w t at o os = either (Mades w) (is_class_typ t) _ _ (class_grows c w t at o)
    (skip (Mades w) (expect at BadInit (only (o ∷ os))) _ (λ p. scalar_grows c w t p))

values_grow : (c : Ctx) (w : Work) (t : Typ) (at : At) (os : List Operand) → On (Mades w) (from_values c w t at os)
values_grow c w (typ (class n) q v) at os = constructed_grows c w n (typ (class n) q v) at os
values_grow c w (typ (tx_ex t) q v) at [] = tt
values_grow c w (typ (tx_ex t) q v) at (o ∷ os) = either (Mades w) (is_exception_itself t (o ∷ os)) _ _ (class_grows c w (typ (tx_ex t) q v) at o)
    (exception_grows c w (without_exception (typ (tx_ex t) q v)) at (o ∷ os))
values_grow c w (typ (array e n) q v) at (o ∷ os) = tt
values_grow c w t at [] = nothing_grows c w t at
values_grow c w t at (o ∷ os) = value_grows c w t at o os

reference_bound : (c : Ctx) (w : Work) (t : Typ) (o : Operand) → On (Mades w) (bound_reference c w t o)
reference_bound c w t o = skip (Mades w) (check o.at OutOfProfile (is_lasting (conversion c t o) o)) _ (λ y. scalar_grows c w t o)

class_or_scalar : (c : Ctx) (w : Work) (t : Typ) (at : At) (o : Operand) → On (Mades w) (if is_class_typ t then class_from c w t at o else scalar_from c w t o)
class_or_scalar c w t at o = either (Mades w) (is_class_typ t) _ _ (class_grows c w t at o) (scalar_grows c w t o)

pub copy_grows : (c : Ctx) (w : Work) (t : Typ) (o : Operand) → On (Mades w) (copy_initialised c w t o)
copy_grows c w (typ (ref t) d v) o = reference_bound c w (typ (ref t) d v) o
copy_grows c w (typ (array e n) d v) o = tt
copy_grows c w t o = class_or_scalar c w t o.at o

pub directly_grows : (c : Ctx) (w : Work) (t : Typ) (at : At) (os : List Operand) → On (Mades w) (directly_initialised c w t at os)
directly_grows c w (typ (ref t) d v) at (o ∷ []) = reference_bound c w (typ (ref t) d v) o
directly_grows c w t at os = values_grow c w t at os

-- Operators

pub dropped_grows : (c : Ctx) (w : Work) (o : Operand) → Mades w (dropped c w o)
dropped_grows c w o = if_made w (throws o.tree) _ _ (same w)
    (if_made w (is_volatile_scalar (typ_in o.tree) && is_read_when_dropped o.tree) _ _ (same w) (object_grows c w o.at o.tree))

settled_grows : (c : Ctx) (w : Work) (o : Operand) → Mades w (settled c w o)
settled_grows c w o = if_made w (is_written_exception o.tree) _ _ (object_grows c w o.at o.tree) (same w)

comma_grows : (c : Ctx) (w : Work) (at : At) (a b : Operand) → Mades w (comma c w at a b)
comma_grows c w at a b = let v = (dropped c w a).work in grown w v (settled c v b).work (dropped_grows c w a) (settled_grows c v b)

same_grows : (w : Work) (r : Result Tree ElabFault) → On (Mades w) (same_work w r)
same_grows w r = skip (Mades w) r _ (λ t. same w)

assigned_copy : (c : Ctx) (w : Work) (at : At) (a b : Operand) (f : Tree → Tree) (t : Typ) → On (Mades w) (copy_assigned c w at a b f t)
assigned_copy c w at a b f t = skip (Mades w) (check b.at NoCopy (not (is_volatile_typ (typ_in b.tree)))) _ (λ z. object_grows c w b.at b.tree)

assigned_class : (c : Ctx) (w : Work) (at : At) (a b : Operand) (f : Form) → On (Mades w) (class_assigned_in c w at a b f)
assigned_class c w at a b (class n) = skip (Mades w) (check b.at NoConversion (is_same_or_base c.classes (class_number (typ_in b.tree)) (Some n))) _
    (λ x. skip (Mades w) (check at NoCopy ((traits_at c n).is_assignable && not (is_volatile_typ (typ_in a.tree)))) _
    (λ y. assigned_copy c w at a b (as_source b.at n) (typ_in a.tree)))
assigned_class c w at a b (tx_ex t) = skip (Mades w) (check b.at NoConversion (form_eq (form_in (typ_in b.tree)) (tx_ex t))) _
    (λ x. skip (Mades w) (check at NoCopy (is_assignable_form c (form_in t) && not (is_volatile_typ (typ_in a.tree)))) _
    (λ y. assigned_copy c w at a b same_object t))
assigned_class c w at a b f = tt

assignment_grows : (c : Ctx) (w : Work) (at : At) (a b : Operand) → On (Mades w) (assignment c w at a b)
assignment_grows c w at a b = skip (Mades w) (target at a) _
    (λ y. either (Mades w) (is_class_typ (typ_in a.tree)) _ _ (assigned_class c w at a b (form_in (typ_in a.tree)))
    (skip (Mades w) (check at BadOperand (is_some (kind_in (form_in (typ_in a.tree))))) _
    (λ x. bind (Mades w) (Mades w) (initial c w (unqualified (typ_in a.tree)) b) _ (initial_grows c w (unqualified (typ_in a.tree)) b)
    (λ m g. skip (Mades w) (assigned at (kind_in (form_in (typ_in a.tree))) a m.tree) _ (λ t. g)))))

assigned_grows : (c : Ctx) (w : Work) (at : At) (name : List ℕ) (a b : Operand) → On (Mades w) (assignment_of c w at name a b)
assigned_grows c w at name a b = either (Mades w) (bytes_eq name (codes "=")) _ _ (assignment_grows c w at a b)
    (same_grows w (and_then (expect at OutOfProfile (compound_operator name)) (λ (op : BinOp). compound c op at a b)))

objects_grow : (c : Ctx) (w : Work) (at : At) (test : Tree) (a b : Operand) → On (Mades w) (two_objects c w at test a b)
objects_grow c w at test a b = bind (Mades w) (Mades w) (exact_object c w t a.at a) _ (exact_grows c w t a.at a)
    (λ x g. bind (Mades x.work) (Mades w) (exact_object c x.work t b.at b) _ (exact_grows c x.work t b.at b) (λ y h. grown w x.work y.work g h))
  where
    t : Typ
    t = joined_class a b

branches_grow : (c : Ctx) (w : Work) (at : At) (test : Tree) (a b : Operand) → On (Mades w) (branches c w at test a b)
branches_grow c w at test a b =
    either (Mades w) (throws a.tree && throws b.tree) _ _ (same w)
    (either (Mades w) (throws b.tree) _ _ (settled_grows c w a) (either (Mades w) (throws a.tree) _ _ (settled_grows c w b)
    (either (Mades w) (same_lvalues a b || (is_void (typ_in a.tree) && is_void (typ_in b.tree))) _ _ (same w)
    (either (Mades w) (is_shared a b) _ _ (same w)
    (either (Mades w) (both_of_class a b) _ _ (objects_grow c w at test a b) (same_grows w (two_values at test (value_form a) (value_form b) a b)))))))

conditional_grows : (c : Ctx) (w : Work) (at : At) (test a b : Operand) → On (Mades w) (conditional c w at test a b)
conditional_grows c w at test a b = skip (Mades w) (truth c w test) _ (λ t. branches_grow c w at t a b)

-- Casts

scalar_cast_grows : (c : Ctx) (w : Work) (at : At) (t : Typ) (o : Operand) → On (Mades w) (scalar_cast c w at t o)
scalar_cast_grows c w at t o = either (Mades w) (is_numeric (form_in (typ_in (value o))) && is_numeric (form_in t)) _ _ (same w)
    (initial_grows c w (unqualified t) (record { tree = value o; at = at; zero = o.zero }))

class_cast : (c : Ctx) (w : Work) (at : At) (t : Typ) (o : Operand)
    → On (Mades w) (if is_class_typ t then and_then (from_values c w t at (o ∷ []))
    (λ (m : Made). Ok (with_tree (as_expression at t) m)) else scalar_cast c w at t o)
class_cast c w at t o = either (Mades w) (is_class_typ t) _ _
    (bind (Mades w) (Mades w) (from_values c w t at (o ∷ [])) _ (values_grow c w t at (o ∷ [])) (λ m g. g))
    (scalar_cast_grows c w at t o)

cast_in_grows : (c : Ctx) (w : Work) (at : At) (t : Typ) (f : Form) (o : Operand) → On (Mades w) (cast_in c w at t f o)
cast_in_grows c w at t void o = dropped_grows c w o
cast_in_grows c w at t (ref u) o = bind (Mades w) (Mades w) (initial c w t o) _ (initial_grows c w t o) (λ m g. g)
cast_in_grows c w at t (func s) o = tt
cast_in_grows c w at t (array u n) o = tt
cast_in_grows c w at t f o = class_cast c w at t o

functional_grows : (c : Ctx) (w : Work) (at : At) (t : Typ) (os : List Operand) → On (Mades w) (functional c w at t os)
functional_grows c w at t (o ∷ []) = cast_in_grows c w at t (form_in t) o
functional_grows c w at t [] = either (Mades w) (is_class_typ t) _ _
    (bind (Mades w) (Mades w) (from_values c w t at []) _ (values_grow c w t at []) (λ m g. g))
    (either (Mades w) (is_void t) _ _ (same w) (skip (Mades w) (check at BadInit (is_some (kind_in (form_in t)) && not (is_reference t))) _
    (λ y. same w)))
functional_grows c w at t os = either (Mades w) (is_class_typ t) _ _
    (bind (Mades w) (Mades w) (from_values c w t at os) _ (values_grow c w t at os) (λ m g. g)) tt

throw_object_grows : (c : Ctx) (w : Work) (at : At) (o : Operand) → On (Mades w) (throw_object c w at o)
throw_object_grows c w at o = skip (Mades w) (check o.at NoCopy (not (is_volatile_typ (typ_in o.tree)))) _
    (λ y. skip (Mades w) (within_exception c at (typ_in o.tree)) _ (λ z. object_grows c w o.at o.tree))

throw_in_grows : (c : Ctx) (w : Work) (at : At) (f : Form) (o : Operand) → On (Mades w) (throw_in c w at f o)
throw_in_grows c w at (class n) o = skip (Mades w) (check at NotTriviallyCopyable (traits_at c n).is_trivially_copyable) _ (λ y. throw_object_grows c w at o)
throw_in_grows c w at (tx_ex t) o = throw_object_grows c w at o
throw_in_grows c w at f o = skip (Mades w) (check at BadThrow (is_thrown_scalar (form_in (typ_in (value o))))) _ (λ y. same w)

throw_grows : (c : Ctx) (w : Work) (at : At) (os : List Operand) → On (Mades w) (throw c w at os)
throw_grows c w at [] = same w
throw_grows c w at (o ∷ os) = bind (Mades w) (Mades w) (throw_in c w at (form_in (typ_in o.tree)) o) _ (throw_in_grows c w at (form_in (typ_in o.tree)) o)
    (λ m g. g)

access_grows : (c : Ctx) (w : Work) (at dot : At) (name : List ℕ) (o : Operand) → On (Mades w) (member_access c w at dot name o)
access_grows c w at dot name o = either (Mades w) (is_tx_exception (typ_in o.tree)) _ _
    (skip (Mades w) (exception_member at name (object_of c w o.at o.tree).tree) _ (λ t. object_grows c w o.at o.tree))
    (skip (Mades w) (class_member c at dot name (object_of c w o.at o.tree).tree) _ (λ t. object_grows c w o.at o.tree))

-- Calls

called_grows : (c : Ctx) (w : Work) (at : At) (kind : TKind) (sig : Signature) (object : Trees) (os : List Operand)
    → On (Mades w) (called c w at kind sig object os)
called_grows c w at kind sig object os = skip (Mades w) (complete_result c at (signature_result sig)) _
    (λ y. bind (Alls w) (Mades w) (words c w (signature_parameters sig) os) _ (words_grow c w (signature_parameters sig) os) (λ m g. g))

free_grows : (c : Ctx) (w : Work) (at : At) (k : ℕ) (os : List Operand) → On (Mades w) (call_free c w at k os)
free_grows c w at k os = skip (Mades w) (check at BadMain (not (is_main (func_at c.funcs k)))) _
    (λ y. skip (Mades w) (best_of c at (places_from (is_free (func_at c.funcs k).declared.name) 0 c.funcs) os) _
    (λ i. called_grows c w at (call_kind (func_at c.funcs i).builtin i) (func_at c.funcs i).declared.signature none os))

method_of_grows : (c : Ctx) (w : Work) (at : At) (n k : ℕ) (object : Tree) (os : List Operand) → On (Mades w) (call_method_of c w at n k object os)
method_of_grows c w at n k object os = skip (Mades w)
    (best_of c at (places_from (is_method n (func_at c.funcs k).declared.name) 0 c.funcs) (record { tree = object; at = at; zero = false } ∷ os)) _
    (λ i. called_grows c w at (member_kind c n i) (func_at c.funcs i).declared.signature (one (as_object at n object)) os)

method_grows : (c : Ctx) (w : Work) (at : At) (k : ℕ) (object : Tree) (os : List Operand) → On (Mades w) (call_method c w at k object os)
method_grows c w at k object os = skip (Mades w) (expect at NotCallable (func_at c.funcs k).class) _ (λ n. method_of_grows c w at n k object os)

get_grows : (c : Ctx) (w : Work) (at : At) (e : Tree) (os : List Operand) → On (Mades w) (call_get c w at e os)
get_grows c w at e [] = skip (Mades w) (expect at NotCallable (value_type (form_in (typ_in e)))) _
    (λ t. skip (Mades w) (check at NoViable (not (is_volatile_typ (typ_in e)))) _ (λ y. same w))
get_grows c w at e os = tt

closure_call_grows : (c : Ctx) (w : Work) (at : At) (n : ℕ) (callee : Operand) (os : List Operand) → On (Mades w) (call_closure c w at n callee os)
closure_call_grows c w at n callee os = skip (Mades w)
    (best_of c at (places_from (is_closure_call n) 0 c.funcs)
    (record { tree = (object_of c w callee.at callee.tree).tree; at = callee.at; zero = false } ∷ os)) _
    (λ i. made_after w (object_of c w callee.at callee.tree).work
    (called c (object_of c w callee.at callee.tree).work at (forms.Call i) (func_at c.funcs i).declared.signature
    (one (object_of c w callee.at callee.tree).tree) os) (object_grows c w callee.at callee.tree)
    (called_grows c (object_of c w callee.at callee.tree).work at (forms.Call i) (func_at c.funcs i).declared.signature
    (one (object_of c w callee.at callee.tree).tree) os))

pointer_grows : (c : Ctx) (w : Work) (at : At) (f : Form) (p : Tree) (os : List Operand) → On (Mades w) (call_pointer c w at f p os)
pointer_grows c w at (ptr (typ (func sig) d v)) p os =
    skip (Mades w) (meant at (chosen c.classes (record { signature = sig; this = None } ∷ []) (arguments os))) _
    (λ i. called_grows c w at forms.PointerCall sig (one p) os)
pointer_grows c w at f p os = tt

value_call_grows : (c : Ctx) (w : Work) (at : At) (f : Form) (callee : Operand) (os : List Operand) → On (Mades w) (call_value c w at f callee os)
value_call_grows c w at (closure n) callee os = closure_call_grows c w at n callee os
value_call_grows c w at f callee os = pointer_grows c w at (form_in (typ_in (valued callee.at callee.tree))) (valued callee.at callee.tree) os

abort_grows : (w : Work) (at : At) (b : Builtin) (os : List Operand) → On (Mades w) (call_abort w at b os)
abort_grows w at b [] = same w
abort_grows w at b os = tt

form_grows : (c : Ctx) (w : Work) (at : At) (callee : Operand) (t : Tree) (os : List Operand) → On (Mades w) (call_form c w at callee t os)
form_grows c w at callee (node (forms.Function k) (typ void d v) Lvalue p none) os = free_grows c w at k os
form_grows c w at callee (node (forms.Function k) (typ void d v) Lvalue p (more object none)) os = method_grows c w at k object os
form_grows c w at callee (node forms.Default t cat p (more e none)) os = get_grows c w at e os
form_grows c w at callee (node (forms.Builtin b) (typ void d v) Lvalue p none) os = abort_grows w at b os
form_grows c w at callee t os = value_call_grows c w at (form_in (typ_in t)) callee os

-- Lambdas

value_captured : (c : Ctx) (w : Work) (x : Capture) (t : Typ) (o : Operand) → On (Mades w) (captured_value c w x t o)
value_captured c w x (typ (ref u) d v) o = same w
value_captured c w x (typ (class n) d v) o = class_grows c w (typ (class n) d v) x.at o
value_captured c w x (typ (closure n) d v) o = class_grows c w (typ (closure n) d v) x.at o
value_captured c w x (typ (array e n) d v) o = same w
value_captured c w x (typ (tx_ex e) d v) o = class_grows c w (typ (tx_ex e) d v) x.at o
value_captured c w x t o = same w

captured_grows : (c : Ctx) (w : Work) (x : Capture) → On (Mades w) (captured c w x)
captured_grows c w x = skip (Mades w) (capture_source c w x x.variable) _ (λ e. value_captured c w x x.typ (record { tree = e; at = x.at; zero = false }))

pieces_grow : (c : Ctx) (w : Work) (ps : List Part) (xs : List Capture) → On (Alls w) (captured_pieces c w ps xs)
pieces_grow c w (p ∷ ps) (x ∷ xs) = bind (Mades w) (Alls w) (captured c w x) _ (captured_grows c w x)
    (λ m g. bind (Alls m.work) (Alls w) (captured_pieces c m.work ps xs) _ (pieces_grow c m.work ps xs) (λ r h. grown w m.work r.work g h))
pieces_grow c w ps xs = same w

closure_grows : (c : Ctx) (l : List Closure) (w : Work) (at : At) → On (Mades w) (closure_object c l w at)
closure_grows c l w at = skip (Mades w) (expect at OutOfProfile (closure_at at l)) _
    (λ x. bind (Alls w) (Mades w) (captured_pieces c w (parts_of c.classes x.class) x.captures) _ (pieces_grow c w (parts_of c.classes x.class) x.captures)
    (λ m g. g))

-- Expressions

made_operand : (w v : Work) (at : At) (r : Result Made ElabFault) → Grows w v → On (Mades v) r → On (Types w) (an_operand at r)
made_operand w v at r g h = bind (Mades v) (Types w) r _ h (λ m i. grown w v m.work g i)

tree_operand : (at : At) (w : Work) (r : Result Tree ElabFault) → On (Types w) (a_tree at w r)
tree_operand at w r = skip (Types w) r _ (λ t. same w)

chosen_grows : (c : Ctx) (x : Typed) → On (Types x.work) (chosen_operand c x)
chosen_grows c x = skip (Types x.work) (resolved c x.operand.tree) _ (λ t. same x.work)

chosen_after : (c : Ctx) (w : Work) (r : Result Typed ElabFault) → On (Types w) r → On (Types w) (and_then r (chosen_operand c))
chosen_after c w r h = bind (Types w) (Types w) r (chosen_operand c) h
    (λ x g. further w x.work (λ (y : Typed). y.work) (chosen_operand c x) g (chosen_grows c x))

row_grows : (s : List Lexeme) (c : Ctx) (w : Work) (kind : NodeKind) (at : At) (t : ℕ) (os : List Operand) → On (Types w) (row_of s c w kind at t os)
row_grows s c w k.Subscript at t (a ∷ b ∷ []) = tree_operand at w (subscript c at a b)
row_grows s c w k.PostfixIncrement at t (a ∷ []) = tree_operand at w (step c (postfix_operator (spelling s t)) true at a)
row_grows s c w k.UnaryExpression at t (a ∷ []) = tree_operand at w (unary_of c w at (spelling s t) a)
row_grows s c w k.BinaryExpression at t (a ∷ b ∷ []) = tree_operand at w (operator_of c w at (spelling s t) a b)
row_grows s c w k.ConditionalExpression at t (a ∷ b ∷ d ∷ []) = made_operand w w at (conditional c w at a b d) (same w) (conditional_grows c w at a b d)
row_grows s c w k.AssignmentExpression at t (a ∷ b ∷ []) =
    made_operand w w at (assignment_of c w at (spelling s t) a b) (same w) (assigned_grows c w at (spelling s t) a b)
row_grows s c w k.CommaExpression at t (a ∷ b ∷ []) = comma_grows c w at a b
row_grows s c w k.ThrowExpression at t os = made_operand w w at (throw c w at os) (same w) (throw_grows c w at os)
row_grows s c w k.MemberAccess at t (a ∷ []) = made_operand w w at (member_access c w at (token_place s at.source t) (spelling s t) a) (same w)
    (access_grows c w at (token_place s at.source t) (spelling s t) a)
row_grows s c w k.PointerMemberAccess at t (a ∷ []) =
    skip (Types w) (pointed_operand at a) _ (λ o. made_operand w w at (member_access c w at (token_place s at.source t) (spelling s t) o) (same w)
    (access_grows c w at (token_place s at.source t) (spelling s t) o))
row_grows s c w kind at t os = tt

leaf_grows : (s : List Lexeme) (c : Ctx) (w : Work) (kind : NodeKind) (at : At) (t : ℕ) → On (Types w) (leaf_of s c w kind at t)
leaf_grows s c w k.IntegerLiteral at t = skip (Types w) (expect at OutOfProfile (int_type_of (spelling s t) (value_at s t))) _ (λ kind. same w)
leaf_grows s c w k.CharacterLiteral at t = same w
leaf_grows s c w k.BooleanLiteral at t = same w
leaf_grows s c w k.PointerLiteral at t = same w
leaf_grows s c w k.StringLiteral at t = begins_more w.globals (string_global at (string_bytes (spelling s t)) ∷ [])
leaf_grows s c w k.This at t = tree_operand at w (this_tree c at)
leaf_grows s c w k.UnqualifiedId at t = tree_operand at w (named c w at (spelling s t))
leaf_grows s c w k.StdAbort at t = same w
leaf_grows s c w kind at t = tt

leaf_or_row_grows : (s : List Lexeme) (c : Ctx) (w : Work) (kind : NodeKind) (at : At) (t : ℕ) → On (Types w) (leaf_or_row s c w kind at t)
leaf_or_row_grows s c w k.ThrowExpression at t = row_grows s c w k.ThrowExpression at t []
leaf_or_row_grows s c w kind at t = leaf_grows s c w kind at t

row_behind : (s : List Lexeme) (c : Ctx) (w : Work) (kind : NodeKind) (at : At) (t : ℕ) (r : Result TypedAll ElabFault) → On (TypesAll w) r
    → On (Types w) (and_then r (λ (xs : TypedAll). row_of s c xs.work kind at t xs.operands))
row_behind s c w kind at t r h = bind (TypesAll w) (Types w) r _ h
    (λ xs g. further w xs.work (λ (y : Typed). y.work) (row_of s c xs.work kind at t xs.operands) g (row_grows s c xs.work kind at t xs.operands))

mutual
  pub expression_grows : (s : List Lexeme) (c : Ctx) (l : List Closure) (w : Work) (e : syntax.Tree) → On (Types w) (expression_with s c l w e)
  expression_grows s c l w (syntax.node k.ParenthesizedExpression p token (syntax.more e syntax.none)) =
      bind (Types w) (Types w) (expression_with s c l w e) _ (expression_grows s c l w e) (λ x g. g)
  expression_grows s c l w (syntax.node k.FunctionCall p token (syntax.more f es)) =
      bind (Types w) (Types w) (expression_with s c l w f) _ (expression_grows s c l w f)
      (λ x g. bind (TypesAll x.work) (Types w) (operands_with s c l x.work es) _ (operands_grow_with s c l x.work es)
      (λ xs h. made_operand w xs.work (at_of p) (call c xs.work (at_of p) x.operand xs.operands) (grown w x.work xs.work g h)
      (form_grows c xs.work (at_of p) x.operand x.operand.tree xs.operands)))
  expression_grows s c l w (syntax.node k.FunctionalCast p token (syntax.more base es)) =
      skip (Types w) (specified_with s c l w no_specifiers base) _
      (λ d. skip (Types w) (and_then (specified_type (at_of p) d) (written_type (at_of p))) _
      (λ t. bind (TypesAll w) (Types w) (operands_with s c l w es) _ (operands_grow_with s c l w es)
      (λ xs g. made_operand w xs.work (at_of p) (functional c xs.work (at_of p) t xs.operands) g (functional_grows c xs.work (at_of p) t xs.operands))))
  expression_grows s c l w (syntax.node k.StaticCast p token (syntax.more t (syntax.more e syntax.none))) =
      skip (Types w) (and_then (type_id_with s c l w t) (written_type (at_of p))) _
      (λ u. bind (Types w) (Types w) (and_then (expression_with s c l w e) (chosen_operand c)) _
      (chosen_after c w (expression_with s c l w e) (expression_grows s c l w e))
      (λ x g. made_operand w x.work (at_of p) (cast c x.work (at_of p) u x.operand) g (cast_in_grows c x.work (at_of p) u (form_in u) x.operand)))
  expression_grows s c l w (syntax.node k.CastExpression p token (syntax.more t (syntax.more e syntax.none))) =
      skip (Types w) (and_then (type_id_with s c l w t) (written_type (at_of p))) _
      (λ u. bind (Types w) (Types w) (and_then (expression_with s c l w e) (chosen_operand c)) _
      (chosen_after c w (expression_with s c l w e) (expression_grows s c l w e))
      (λ x g. made_operand w x.work (at_of p) (cast c x.work (at_of p) u x.operand) g (cast_in_grows c x.work (at_of p) u (form_in u) x.operand)))
  expression_grows s c l w (syntax.node k.SizeofExpression p token (syntax.more e syntax.none)) =
      skip (Types w) (and_then (expression_with s c [] w e) (chosen_operand c)) _
      (λ x. tree_operand (at_of p) w (size_literal c (at_of p) x.operand.at (typ_in x.operand.tree)))
  expression_grows s c l w (syntax.node k.SizeofType p token (syntax.more t syntax.none)) =
      skip (Types w) (and_then (type_id_with s c [] w t) (written_type (at_of p))) _
      (λ u. tree_operand (at_of p) w (size_literal c (at_of p) (at_of p) u))
  expression_grows s c l w (syntax.node k.Lambda p token kids) =
      made_operand w w (at_of p) (closure_object c l w (at_of p)) (same w) (closure_grows c l w (at_of p))
  expression_grows s c l w (syntax.node k.QualifiedId p (Some n) (syntax.more (syntax.node kind q (Some t) kids) syntax.none)) =
      tree_operand (at_of p) w (qualified_name c w (at_of p) (spelling s t) (spelling s n))
  expression_grows s c l w (syntax.node kind p (Some t) syntax.none) = leaf_or_row_grows s c w kind (at_of p) t
  expression_grows s c l w (syntax.node kind p (Some t) kids) = row_behind s c w kind (at_of p) t (operands_with s c l w kids) (operands_grow_with s c l w kids)
  expression_grows s c l w (syntax.node kind p None kids) = tt

  pub operands_grow_with : (s : List Lexeme) (c : Ctx) (l : List Closure) (w : Work) (es : syntax.Trees) → On (TypesAll w) (operands_with s c l w es)
  operands_grow_with s c l w syntax.none = same w
  operands_grow_with s c l w (syntax.more t ts) = bind (Types w) (TypesAll w) (and_then (expression_with s c l w t) (chosen_operand c)) _
      (chosen_after c w (expression_with s c l w t) (expression_grows s c l w t))
      (λ x g. bind (TypesAll x.work) (TypesAll w) (operands_with s c l x.work ts) _ (operands_grow_with s c l x.work ts) (λ xs h. grown w x.work xs.work g h))

pub operand_grows : (s : List Lexeme) (c : Ctx) (w : Work) (e : syntax.Tree) → On (Types w) (and_then (expression_of s c w e) (chosen_operand c))
operand_grows s c w e = chosen_after c w (expression_of s c w e) (expression_grows s c c.closures w e)

pub operands_grow : (s : List Lexeme) (c : Ctx) (w : Work) (es : syntax.Trees) → On (TypesAll w) (operands_of s c w es)
operands_grow s c w es = operands_grow_with s c c.closures w es

-- Braces

piece_grows : (w v : Work) (c : Ctx) (offset : ℕ) (t : Typ) (at : At) (m : Made) (r : Result MadeAll ElabFault) → Grows w v → On (Alls v) r
    → On (Alls w) (with_piece c offset t at m r)
piece_grows w v c offset t at m r g h = bind (Alls v) (Alls w) r _ h (λ x i. grown w v x.work g i)

rest_piece_grows : (c : Ctx) (w : Work) (e : Typ) (i n : ℕ) (at : At) → On (Alls w) (rest_piece c w e i n at)
rest_piece_grows c w e i zero at = same w
rest_piece_grows c w e i (suc n) at = skip (Alls w) (from_nothing c (plain (array e (suc n))) at) _ (λ t. same w)

default_grows : (c : Ctx) (w : Work) (q v : Bool) (this : At → Tree) (t : Typ) (at : At) (d : Option Default)
    → On (Mades w) (default_member c w q v this t at d)
default_grows c w q v this t at (Some d) = same w
default_grows c w q v this t at None = skip (Mades w) (from_nothing c t at) _ (λ e. same w)

members_grow : (c : Ctx) (w : Work) (at : At) (object : Tree) (t : Typ) (n i : ℕ) (ms : List Member) → On (Alls w) (rest_members c w at object t n i ms)
members_grow c w at object t n i [] = same w
members_grow c w at object t n i (m ∷ ms) = bind (Mades w) (Alls w)
    (default_member c w (is_const_typ t) (is_volatile_object t) (this_of t object) (qualified (is_const_typ t) (is_volatile_object t) m.typ) at
    (default_at n i c.defaults)) _
    (default_grows c w (is_const_typ t) (is_volatile_object t) (this_of t object) (qualified (is_const_typ t) (is_volatile_object t) m.typ) at
    (default_at n i c.defaults))
    (λ x g. piece_grows w x.work c (offset_at c.classes n i) (qualified (is_const_typ t) (is_volatile_object t) m.typ)
    (if is_some (default_at n i c.defaults) then tree_place x.tree else at) x (rest_members c x.work at object t n (suc i) ms) g
    (members_grow c x.work at object t n (suc i) ms))

rest_grows : (c : Ctx) (w : Work) (at : At) (object : Tree) (t : Typ) (f : Form) (i : ℕ) → On (Alls w) (rest_in c w at object t f i)
rest_grows c w at object t (array e n) i = rest_piece_grows c w (qualified (is_const_typ t) (is_volatile_object t) e) i (n - i) at
rest_grows c w at object t (class n) i = members_grow c w at object t n i (drop i (members_in (slice_get c.classes n)))
rest_grows c w at object t f i = same w

in_grows : (c : Ctx) (w : Work) (t : Typ) (f : Form) (o : Operand) → On (Mades w) (item_in c w t f o)
in_grows c w t (array e n) o = tt
in_grows c w t (class n) o = either (Mades w) (is_aggregate_class c n && not (is_object_of c n o)) _ _ tt (class_grows c w t o.at o)
in_grows c w t f o = either (Mades w) (is_class_typ t) _ _ (class_grows c w t o.at o)
    (bind (Mades w) (Mades w) (scalar_from c w t o) (not_narrowed w t o) (scalar_grows c w t o)
    (λ m g. skip (Mades w) (check o.at Narrowing (is_not_narrowed w t o)) _ (λ y. g)))

in_behind : (c : Ctx) (w : Work) (t : Typ) (r : Result Typed ElabFault) → On (Types w) r
    → On (Mades w) (and_then r (λ (o : Typed). item_in c o.work t (form_in t) o.operand))
in_behind c w t r h = bind (Types w) (Mades w) r _ h (λ o g. made_after w o.work (item_in c o.work t (form_in t) o.operand) g
    (in_grows c o.work t (form_in t) o.operand))

item_expression_grows : (s : List Lexeme) (c : Ctx) (w : Work) (t : Typ) (n : Option ℕ) (at : At) (r : Result Typed ElabFault) → On (Types w) r
    → On (Mades w) (item_expression s c w t n at r)
item_expression_grows s c w t (Some n) at r h = either (Mades w) (is_char_array t) _ _
    (skip (Mades w) (string_object c t at (string_bytes (spelling s n))) _ (λ x. same w)) (in_behind c w t r h)
item_expression_grows s c w t None at r h = in_behind c w t r h

mutual
  pub item_grows : (s : List Lexeme) (c : Ctx) (w : Work) (object : Tree) (t : Typ) (x : syntax.Tree) → On (Mades w) (item_of s c w object t x)
  item_grows s c w object t (syntax.node k.BracedInitList p token items) =
      skip (Mades w) (braceable c (at_of p) (form_in t)) _
      (λ y. bind (Alls w) (Mades w) (items_of s c w object t 0 (at_of p) items) _ (items_grow s c w object t 0 (at_of p) items) (λ r g. g))
  item_grows s c w object t (syntax.node kind p token kids) =
      item_expression_grows s c w t (string_token (syntax.node kind p token kids)) (at_of p)
      (and_then (expression_of s c w (syntax.node kind p token kids)) (chosen_operand c)) (operand_grows s c w (syntax.node kind p token kids))

  pub items_grow : (s : List Lexeme) (c : Ctx) (w : Work) (object : Tree) (t : Typ) (i : ℕ) (at : At) (ts : syntax.Trees)
      → On (Alls w) (items_of s c w object t i at ts)
  items_grow s c w object t i at syntax.none = rest_grows c w at object t (form_in t) i
  items_grow s c w object t i at (syntax.more x ts) =
      skip (Alls w) (expect (syntax_place x) BadInit (part_in c t (form_in t) i)) _
      (λ p. bind (Mades w) (Alls w) (item_of s c w (part_at p.offset p.typ at object) p.typ x) _ (item_grows s c w (part_at p.offset p.typ at object) p.typ x)
      (λ m g. piece_grows w m.work c p.offset p.typ (tree_place m.tree) m (items_of s c m.work object t (suc i) at ts) g
      (items_grow s c m.work object t (suc i) at ts)))
