-- What initialises an object: conversions, bindings, constructors and copies (C++14 8.5, 12.1, 12.8, 13.3.1).
use Rattle.std.specs.Prelude.{◌==◌, ◌&&◌, ◌||◌, not, ℕ, suc, Bool, true, false, List, [], ◌∷◌, ◌++◌, map, Option, Some, None, is_some}
use Rattle.std.specs.Prelude.{Result, Ok, Err, if◌then◌else◌, slice_get, unwrap_or}
use Rattle.elab_ctx.specs.cpp_types.Typ.{Typ, typ, Form, void, ref, array, func, class, closure, tx_ex, Signature, signature, Typs}
use Rattle.elab_ctx.specs.cpp_types.Typ.{none as no_typs, more as and_typ}
use Rattle.elab_ctx.specs.cpp_types.Equal.{typ_eq, form_eq}
use Rattle.elab_ctx.specs.cpp_types.Class.{Class, completion_of}
use Rattle.elab_ctx.specs.cpp_types.Conversion.{conversion_of, base_steps, referred}
use Rattle.elab_ctx.specs.cpp_types.declared.classes.At.{At}
use Rattle.elab_ctx.specs.cpp_types.declared.ranks.Cat.TheVariants.{Lvalue, Prvalue}
use Rattle.elab_ctx.specs.cpp_types.declared.ranks.Step.{Step}
use Rattle.elab_ctx.specs.cpp_types.declared.ranks.Binding.{Binding}
use Rattle.elab_ctx.specs.cpp_types.declared.ranks.Binding.TheVariants.{Value, Direct, Temporary}
use Rattle.elab_ctx.specs.cpp_types.declared.ranks.Conversion.{Conversion}
use Rattle.cpp_overload.specs.Overload.{Candidate, Argument}
use Rattle.cpp_overload.specs.Choosing.{Choice, best, none_viable, none_best, chosen}
use Rattle.elab_ctx.specs.cpp_tree.declared.kinds.TKind.{TKind}
use Rattle.elab_ctx.specs.cpp_tree.declared.kinds.TKind.TheVariants.{Materialize, Retype, Store, Construct, CopyConstruct, CopyFrom, Pieces, Piece, Elements}
use Rattle.elab_ctx.specs.cpp_tree.declared.program.FuncKind.{FuncKind}
use Rattle.elab_ctx.specs.cpp_tree.declared.program.FuncKind.TheVariants.{Constructor, Plain, ClosureCall}
use Rattle.elab_ctx.specs.cpp_tree.declared.program.Linkage.TheVariants.{External}
use Rattle.elab_ctx.specs.cpp_types.declared.classes.Safety.TheVariants.{None as NoSafety}
use Rattle.elab_ctx.specs.cpp_tree.declared.faults.ElabFault.{ElabFault}
use Rattle.elab_ctx.specs.cpp_tree.declared.faults.ElabFault.TheVariants.{Ill}
use Rattle.elab_ctx.specs.cpp_tree.declared.faults.IllRule.TheVariants.{NoConversion, NoViable, Ambiguous, Incomplete, AbstractObject, NoDefault, NoCopy}
use Rattle.elab_ctx.specs.cpp_tree.declared.faults.IllRule.TheVariants.{BadInit, OutOfProfile, BadDeclaration}
use Rattle.elab_ctx.specs.cpp_tree.Trees.{Tree, node, Trees, none, more, one, two, kind_of, typ_in, cat_of, kids_of, nowhere}
use Rattle.elab_ctx.specs.cpp_tree.Notation.{plain}
use Rattle.elab_ctx.specs.cpp_tree.Typing.{form_in, is_volatile_typ, unqualified, qualified, is_class_typ, without_exception, is_class_prvalue, goes_both_ways}
use Rattle.elab_ctx.specs.Ctx.{Ctx, Work, Func, Special, absent, trivial, function, with_item, next_place}
use Rattle.elab_ctx.specs.Steps.{and_then, expect, check, Operand, Made, MadeAll}
use Rattle.elab_rules.specs.Values.{place_of, retyped, valued, stepped, stored, builder, temporary, is_exception_form}
use Rattle.elab_rules.specs.Objects.{class_in, element_of, count_in, size_of, is_array, zeros, copies, destroys, traits_at, parts_of}
use Rattle.elab_rules.specs.Objects.{Part}

-- Temporaries and references

-- the object that a class prvalue stands for, in a temporary; another expression as it is
abbrev pub object_of : Ctx → Work → At → Tree → Made
object_of c w at e = if is_class_prvalue (typ_in e) (cat_of e) then temporary w (typ_in e) at (builder e) (destroys c at (typ_in e)) else
    record { tree = e; work = w }

-- an object as one of a type with more qualifiers, or of a base
abbrev pub seen_as : At → Typ → Tree → Tree
seen_as at t e = if typ_eq t (typ_in e) then e else retyped at t Lvalue e

abbrev pub with_tree : (Tree → Tree) → Made → Made
with_tree f m = record m { tree = f m.tree }

abbrev pub bound_by : Ctx → Work → Binding → Step → Typ → At → Tree → Made
bound_by c w Value step t at e = record { tree = stepped at step t (valued at e); work = w }
bound_by c w Direct step t at e = with_tree (seen_as at (referred t)) (object_of c w at e)
bound_by c w Temporary step t at e = temporary w (unqualified (referred t)) at
    (stored at (unqualified (referred t)) (stepped at step (referred t) (valued at e))) none

-- the conversion of an expression that initialises an object or a reference of a type (C++14 clause 4, 8.5.3)
abbrev pub conversion : Ctx → Typ → Operand → Option Conversion
conversion c t o = conversion_of c.classes (typ_in o.tree) (cat_of o.tree) o.zero t

-- a scalar's value, or the object that a reference refers to
abbrev pub initial : Ctx → Work → Typ → Operand → Result Made ElabFault
initial c w t o = and_then (expect (o.at) NoConversion (conversion c t o)) (λ (v : Conversion). Ok (bound_by c w v.binding v.step t o.at o.tree))

-- Overloads

abbrev pub argument : Operand → Argument
argument o = record { typ = typ_in o.tree; cat = cat_of o.tree; literal = o.zero }

abbrev pub arguments : List Operand → List Argument
arguments os = map argument os

abbrev pub kept_if : Bool → ℕ → List ℕ → List ℕ
kept_if true i is = i ∷ is
kept_if false i is = is

-- the places from `i` on of the functions that pass a test
abbrev pub places_from : (Func → Bool) → ℕ → List Func → List ℕ
places_from test i [] = []
places_from test i (f ∷ fs) = kept_if (test f) i (places_from test (suc i) fs)

abbrev pub places_of : (Func → Bool) → List Func → List ℕ
places_of test fs = places_from test 0 fs

abbrev pub same_number : ℕ → Option ℕ → Bool
same_number n (Some m) = m == n
same_number n None = false

-- the class of a member function, which is a lambda's where it is its call
abbrev pub owner_form : FuncKind → ℕ → Form
owner_form ClosureCall n = closure n
owner_form kind n = class n

-- what the object of a member function is bound to
abbrev pub object_type_of : Func → Option ℕ → Option Typ
object_type_of f None = None
object_type_of f (Some n) = Some (plain (ref (typ (owner_form f.kind n) f.declared.is_const false)))

abbrev pub candidate : Func → Candidate
candidate f = record { signature = f.declared.signature; this = object_type_of f f.class }

-- a constructor has no object yet
abbrev pub maker : Func → Candidate
maker f = record { signature = f.declared.signature; this = None }

-- what a place of the functions has; each place that is asked for has one
abbrev pub no_function : Func
no_function = record {
  declared = record {
    name = [];
    signature = signature no_typs (plain void) false;
    is_const = false;
    is_virtual = false;
    is_override =
        false;
    is_final = false;
    pure_virtual = false;
    safety = NoSafety;
    considered = false;
    no_except = false;
    at = nowhere;
  };
  kind = Plain;
  class = None;
  linkage = External;
  implicit = false;
  is_defined = false;
  builtin = None;
  params = [];
  text = [];
  closed_at = 0;
}

abbrev pub func_at : List Func → ℕ → Func
func_at fs k = unwrap_or (slice_get fs k) no_function

abbrev pub candidates_at : (Func → Candidate) → List Func → List ℕ → List Candidate
candidates_at as_candidate fs places = map (λ (k : ℕ). as_candidate (func_at fs k)) places

-- which of the candidates is meant, by its index (C++14 13.3.3)
abbrev pub meant : At → Choice → Result ℕ ElabFault
meant at (best i) = Ok i
meant at none_viable = Err (Ill at NoViable)
meant at none_best = Err (Ill at Ambiguous)

-- Objects of classes

abbrev pub makes : FuncKind → Bool
makes Constructor = true
makes kind = false

abbrev pub is_constructor : ℕ → Func → Bool
is_constructor n f = same_number n f.class && makes f.kind

-- a class of which objects are made: complete, and not abstract
abbrev pub makeable : Ctx → At → ℕ → Result ℕ ElabFault
makeable c at n = and_then (expect at Incomplete (completion_of c.classes n))
    (λ k. and_then (check at AbstractObject (not (traits_at c n).is_abstract)) (λ y. Ok k))

abbrev pub class_number : Typ → Option ℕ
class_number t = class_in (form_in t)

-- the second class is the first or a base of it
abbrev pub is_same_or_base : List Class → Option ℕ → Option ℕ → Bool
is_same_or_base classes (Some m) (Some n) = m == n || is_some (base_steps classes m n)
is_same_or_base classes _ _ = false

abbrev pub is_prvalue_of_class : ℕ → Tree → Bool
is_prvalue_of_class n e = is_class_prvalue (typ_in e) (cat_of e) && same_number n (class_number (typ_in e))

abbrev pub as_base : At → ℕ → Typ → Tree → Tree
as_base at n (typ f c v) e = retyped at (typ (class n) c v) Lvalue e

-- the object that is copied, as one of the class
abbrev pub as_source : At → ℕ → Tree → Tree
as_source at n e = if same_number n (class_number (typ_in e)) then e else as_base at n (typ_in e) e

-- a copy in place, part by part, of an object
abbrev pub copied_in_place : Ctx → Work → ℕ → Typ → At → Operand → Made
copied_in_place c w n t at o = with_tree (λ (s : Tree). node CopyFrom t Prvalue at (two (as_source o.at n s) (copies c.classes at t)))
    (object_of c w o.at o.tree)

-- the initialiser of an object of this type, which has the qualifiers of that object, and its parts have them too; what is called has its own type
abbrev pub copied_anew : List Class → Typ → Tree → Trees → Tree
copied_anew classes t e none = e
copied_anew classes t e (more source ts) = node CopyFrom t (cat_of e) (place_of e) (two source (copies classes (place_of e) t))

abbrev pub rebuilt : List Class → TKind → Typ → Tree → Tree
rebuilt classes (Construct k) t e = node (Construct k) t (cat_of e) (place_of e) (kids_of e)
rebuilt classes (Store k v) t e = node (Store k (is_volatile_typ t)) t (cat_of e) (place_of e) (kids_of e)
rebuilt classes CopyFrom t e = copied_anew classes t e (kids_of e)
rebuilt classes Pieces t e = zeros classes (place_of e) t
rebuilt classes kind t e = e

abbrev pub building : List Class → Typ → Tree → Tree
building classes t e = if typ_eq t (typ_in e) then e else rebuilt classes (kind_of e) t e

-- a word that is passed: an object of its own for a parameter of class type, made first, else a value or what a reference is bound to
abbrev pub argument_object : Work → Typ → At → Trees → Made → Made
argument_object w t at destroys m = record { tree = node (Materialize (next_place w) true) t Lvalue at (more m.tree destroys); work = m.work }

abbrev pub signature_parameters : Signature → Typs
signature_parameters (signature ps r safe) = ps

abbrev pub signature_result : Signature → Typ
signature_result (signature ps r safe) = r

abbrev pub parameters_at : List Func → ℕ → Typs
parameters_at fs k = signature_parameters (func_at fs k).declared.signature

-- constructors of a class: their places; where the copy is trivial, it stands behind them as a candidate without a function
abbrev pub constructors : Ctx → ℕ → List ℕ
constructors c n = places_of (is_constructor n) c.funcs

abbrev pub trivial_copy : ℕ → Bool → Candidate
trivial_copy n const = record { signature = signature (and_typ (plain (ref (typ (class n) const false))) no_typs) (plain void) false; this = None }

abbrev pub copy_candidates : ℕ → Bool → Special → List Candidate
copy_candidates n const trivial = trivial_copy n const ∷ []
copy_candidates n const s = []

abbrev pub makers : Ctx → ℕ → List Candidate
makers c n = candidates_at maker c.funcs (constructors c n) ++ copy_candidates n (traits_at c n).copies_const (traits_at c n).copy

-- the constructor with this index among those of a class, or the trivial copy
abbrev pub constructor_at : Ctx → ℕ → ℕ → Option ℕ
constructor_at c n i = slice_get (constructors c n) i

-- Words (C++14 5.2.2), where a parameter of class type is copied: its own constructor takes the argument by reference, so words nest once

abbrev pub reference_word : Ctx → Work → Typs → Operand → Result MadeAll ElabFault
reference_word c w (and_typ p no_typs) o = and_then (check o.at OutOfProfile (not (is_class_typ p)))
    (λ y. and_then (initial c w p o) (λ (m : Made). Ok (record { trees = one m.tree; work = m.work })))
reference_word c w ps o = Err (Ill (o.at) OutOfProfile)

abbrev pub constructed_copy : Ctx → Work → ℕ → Typ → At → Operand → Option ℕ → Result Made ElabFault
constructed_copy c w n t at o None = Ok (copied_in_place c w n t at o)
constructed_copy c w n t at o (Some k) = and_then (reference_word c w (parameters_at c.funcs k) o)
    (λ (m : MadeAll). Ok (record { tree = node (Construct k) t Prvalue at m.trees; work = m.work }))

abbrev pub has_copy : Special → Bool
has_copy absent = false
has_copy s = true

-- a copy of an object of the class or of a class that is derived from it
abbrev pub copied_object : Ctx → Work → ℕ → Typ → At → Operand → Result Made ElabFault
copied_object c w n t at o = and_then (check (o.at) NoCopy (not (is_volatile_typ (typ_in o.tree)) && has_copy (traits_at c n).copy)) (λ y.
    and_then (meant at (chosen c.classes (makers c n) (argument o ∷ []))) (λ i. constructed_copy c w n t at o (constructor_at c n i)))

-- a part of a lambda's object, copied from the source at hand
abbrev pub copied_part : Ctx → At → Typ → Special → Tree
copied_part c at t (function k) = if is_array t then node (Elements (count_in t) (size_of c.classes (element_of t))) t Prvalue at
    (more (node (CopyConstruct k) (element_of t) Prvalue at none) (destroys c at (element_of t))) else node (CopyConstruct k) t Prvalue at none
copied_part c at t s = copies c.classes at t

abbrev pub copy_of_held : Ctx → Option ℕ → Special
copy_of_held c (Some n) = (traits_at c n).copy
copy_of_held c None = trivial

abbrev pub closure_part : Ctx → At → Part → Tree
closure_part c at p = copied_part c at p.typ (copy_of_held c (class_number (element_of p.typ)))

-- in a lambda's object with these qualifiers
abbrev pub closure_piece : Ctx → At → Part → Tree
closure_piece c at p = node (Piece p.offset) p.typ Prvalue at (more (closure_part c at p) (destroys c at p.typ))

abbrev pub qualified_part : Bool → Bool → Part → Part
qualified_part q v p = record p { typ = qualified q v p.typ }

abbrev pub closure_pieces : Ctx → At → Bool → Bool → List Part → Trees
closure_pieces c at q v [] = none
closure_pieces c at q v (p ∷ ps) = more (closure_piece c at (qualified_part q v p)) (closure_pieces c at q v ps)

abbrev pub closure_copied : Ctx → ℕ → Bool → Bool → At → Tree → Tree
closure_copied c n q v at s = node CopyFrom (typ (closure n) q v) Prvalue at
    (two s (node Pieces (typ (closure n) q v) Prvalue at (closure_pieces c at q v (parts_of c.classes n))))

-- a lambda's object of its own type, without qualifiers
abbrev pub is_closure_itself : ℕ → Bool → Bool → Tree → Bool
is_closure_itself n q v e = is_prvalue_of_class n e && typ_eq (typ (closure n) q v) (typ_in e)

-- a `std::tx_exception` of this type: the value in it has its qualifiers
abbrev pub exception_built : List Class → Typ → Tree → Tree
exception_built classes t e = if typ_eq t (typ_in e) then e else building classes (without_exception t) e

-- what stands for the value of such an exception and has a type of its own: called, chosen or behind a `,`
abbrev pub is_given_value : Tree → Bool
is_given_value e = goes_both_ways (kind_of e) && not (is_exception_form (form_in (typ_in e)))

abbrev pub exception_copied : Ctx → Typ → At → Tree → Tree
exception_copied c t at s = node CopyFrom t Prvalue at (two s (copies c.classes at (without_exception t)))

-- one that is written with its value, which is copied where the value has a type of its own
abbrev pub exception_made : Ctx → Work → Typ → At → Operand → Made
exception_made c w t at o = if is_given_value (builder o.tree) then with_tree (exception_copied c t at) (object_of c w o.at o.tree) else
    record { tree = exception_built c.classes t (builder o.tree); work = w }

-- an object of class type from an expression (C++14 8.5 p17): a prvalue of the class is its own initialiser
abbrev pub class_from : Ctx → Work → Typ → At → Operand → Result Made ElabFault
class_from c w (typ (closure n) q v) at o = if is_closure_itself n q v o.tree then Ok (record { tree = o.tree; work = w }) else
    and_then (check (o.at) NoConversion (same_number n (class_number (typ_in o.tree))))
    (λ y. and_then (check (o.at) NoCopy (not (is_volatile_typ (typ_in o.tree)))) (λ z. Ok (with_tree (closure_copied c n q v at) (object_of c w o.at o.tree))))
class_from c w (typ (class n) q v) at o = and_then (makeable c at n)
    (λ k. if is_prvalue_of_class n o.tree then Ok (record { tree = building c.classes (typ (class n) q v) o.tree; work = w }) else
    and_then (check (o.at) NoConversion (is_same_or_base c.classes (class_number (typ_in o.tree)) (Some n)))
    (λ y. copied_object c w n (typ (class n) q v) at o))
class_from c w (typ (tx_ex t) q v) at o = and_then (check (o.at) NoConversion (form_eq (form_in (typ_in o.tree)) (tx_ex t))) (λ y.
    if is_class_prvalue (typ_in o.tree) (cat_of o.tree) then Ok (exception_made c w (typ (tx_ex t) q v) at o) else
    and_then (check (o.at) NoCopy (not (is_volatile_typ (typ_in o.tree))))
    (λ z. Ok (record { tree = exception_copied c (typ (tx_ex t) q v) at o.tree; work = w })))
class_from c w t at o = Err (Ill (o.at) NoConversion)

-- Objects of exactly one type

-- a `std::tx_exception` that is written with its value
abbrev pub is_written_exception : Tree → Bool
is_written_exception (node Retype (typ (tx_ex t) d v) Prvalue at kids) = true
is_written_exception e = false

-- a class prvalue that builds no object of exactly this type: what is called or chosen has its own
abbrev pub has_own_type : Typ → Tree → Bool
has_own_type t e = is_written_exception e
    || (not (typ_eq t (typ_in e)) && (goes_both_ways (kind_of e) || is_exception_form (form_in (typ_in e))))

abbrev pub is_other_prvalue : Typ → Tree → Bool
is_other_prvalue t e = is_class_prvalue (typ_in e) (cat_of e) && has_own_type t e

abbrev pub object_operand : Operand → Tree → Operand
object_operand o e = record { tree = e; at = o.at; zero = false }

-- an object of exactly this type: of such a prvalue, a copy
abbrev pub exact_object : Ctx → Work → Typ → At → Operand → Result Made ElabFault
exact_object c w t at o = if is_other_prvalue t o.tree then
    class_from c (object_of c w o.at o.tree).work t at (object_operand o (object_of c w o.at o.tree).tree) else class_from c w t at o

-- Words of calls (C++14 5.2.2)

abbrev pub passed : Ctx → Work → Typ → Operand → Result Made ElabFault
passed c w p o = if is_class_typ p then and_then (class_from c (with_item w (unqualified p)) (unqualified p) (o.at) o)
    (λ (m : Made). Ok (argument_object w (unqualified p) (o.at) (destroys c (o.at) (unqualified p)) m)) else initial c w p o

-- the words of a call, argument by argument
abbrev pub words : Ctx → Work → Typs → List Operand → Result MadeAll ElabFault
words c w (and_typ p ps) (o ∷ os) = and_then (passed c w p o)
    (λ (m : Made). and_then (words c m.work ps os) (λ (r : MadeAll). Ok (record { trees = more m.tree r.trees; work = r.work })))
words c w ps os = Ok (record { trees = none; work = w })

-- Nothing (C++14 8.5 p12)

-- so many objects of a class by its constructor without arguments
abbrev pub each_constructed : Ctx → ℕ → Typ → At → Tree
each_constructed c k t at = if is_array t then node (Elements (count_in t) (size_of c.classes (element_of t))) t Prvalue at
    (more (node (Construct k) (element_of t) Prvalue at none) (destroys c at (element_of t))) else node (Construct k) t Prvalue at none

abbrev pub default_by : Ctx → Typ → At → Special → Result Tree ElabFault
default_by c t at absent = Err (Ill at NoDefault)
default_by c t at trivial = Ok (zeros c.classes at t)
default_by c t at (function k) = Ok (each_constructed c k t at)

abbrev pub default_in : Ctx → Typ → At → Form → Result Tree ElabFault
default_in c t at (class n) = and_then (makeable c at n) (λ k. default_by c t at (traits_at c n).default)
default_in c t at (tx_ex e) = Err (Ill at NoDefault)
default_in c t at (closure n) = Err (Ill at NoDefault)
default_in c t at (ref e) = Err (Ill at BadInit)
default_in c t at void = Err (Ill at BadDeclaration)
default_in c t at (func s) = Err (Ill at OutOfProfile)
default_in c t at f = Ok (zeros c.classes at t)

-- what an object is initialised by where nothing is written; a scalar is zero (profile)
abbrev pub from_nothing : Ctx → Typ → At → Result Tree ElabFault
from_nothing c t at = default_in c t at (form_in (element_of t))

-- Values in parentheses (C++14 8.5 p16)

abbrev pub constructed_by : Ctx → Work → ℕ → Typ → At → List Operand → Option ℕ → Result Made ElabFault
constructed_by c w n t at os (Some k) = and_then (words c w (parameters_at c.funcs k) os)
    (λ (m : MadeAll). Ok (record { tree = node (Construct k) t Prvalue at m.trees; work = m.work }))
constructed_by c w n t at (o ∷ []) None = and_then (check (o.at) NoCopy (not (is_volatile_typ (typ_in o.tree)))) (λ y. Ok (copied_in_place c w n t at o))
constructed_by c w n t at os None = Err (Ill at NoViable)

abbrev pub is_prvalue_itself : ℕ → List Operand → Bool
is_prvalue_itself n (o ∷ []) = is_prvalue_of_class n o.tree
is_prvalue_itself n os = false

abbrev pub first_tree : List Operand → Option Tree
first_tree (o ∷ os) = Some o.tree
first_tree [] = None

-- an object of a class by one of its constructors
abbrev pub constructed : Ctx → Work → ℕ → Typ → At → List Operand → Result Made ElabFault
constructed c w n t at [] = and_then (from_nothing c t at) (λ (e : Tree). Ok (record { tree = e; work = w }))
constructed c w n t at (o ∷ os) = and_then (makeable c at n) (λ k. if is_prvalue_itself n (o ∷ os) then Ok (record { tree = building c.classes t o.tree; work = w }) else
    and_then (meant at (chosen c.classes (makers c n) (arguments (o ∷ os)))) (λ i. constructed_by c w n t at (o ∷ os) (constructor_at c n i)))

abbrev pub only : List Operand → Option Operand
only (o ∷ []) = Some o
only os = None

abbrev pub scalar_from : Ctx → Work → Typ → Operand → Result Made ElabFault
scalar_from c w t o = and_then (initial c w t o) (λ (m : Made). Ok (record { tree = stored o.at t m.tree; work = m.work }))

-- the value in a `std::tx_exception`, which its constructor takes: the exception is that object, so it has exactly the value's type
abbrev pub exception_from : Ctx → Work → Typ → At → List Operand → Result Made ElabFault
exception_from c w t at os = and_then (expect at NoViable (only os))
    (λ (o : Operand). if is_class_typ t then exact_object c w t at o else scalar_from c w t o)

abbrev pub is_exception_itself : Typ → List Operand → Bool
is_exception_itself t (o ∷ []) = form_eq (form_in (typ_in o.tree)) (tx_ex t)
is_exception_itself t os = false

-- an object of a type from values in parentheses, or from none
abbrev pub from_values : Ctx → Work → Typ → At → List Operand → Result Made ElabFault
from_values c w (typ (class n) q v) at os = constructed c w n (typ (class n) q v) at os
from_values c w (typ (tx_ex t) q v) at [] = Err (Ill at NoDefault)
from_values c w (typ (tx_ex t) q v) at (o ∷ os) = if is_exception_itself t (o ∷ os) then class_from c w (typ (tx_ex t) q v) at o else
    exception_from c w (without_exception (typ (tx_ex t) q v)) at (o ∷ os)
from_values c w (typ (array e n) q v) at (o ∷ os) = Err (Ill at BadInit)
from_values c w t at [] = and_then (from_nothing c t at) (λ (e : Tree). Ok (record { tree = e; work = w }))
from_values c w t at (o ∷ os) = if is_class_typ t then class_from c w t at o else and_then (expect at BadInit (only (o ∷ os)))
    (λ (p : Operand). scalar_from c w t p)
