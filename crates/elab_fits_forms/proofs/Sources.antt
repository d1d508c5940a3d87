-- Operands that stand may initialise objects, and sound types are those of parameters.
use Rattle.std.proofs.Common.{◌≡◌, refl, ap, subst, Bool, true, false, not, List, [], ◌∷◌, is_some}
use Rattle.std.proofs.lemmas.Bool.{and_parts}
use Rattle.elab_rules.specs.cpp_types.Typ.{Typ, typ, Form, void, int, enum, null, ptr, ref, array, func, class, closure, tx_ex, Typs}
use Rattle.elab_rules.specs.cpp_types.Typ.{none as no_typs, more as and_typ}
use Rattle.elab_rules.specs.cpp_types.Class.{Class, completion_of}
use Rattle.elab_rules.specs.cpp_types.declared.ranks.Cat.TheVariants.{Lvalue, Prvalue}
use Rattle.elab_rules.specs.cpp_tree.declared.kinds.TKind.TheVariants.{CopyFrom, Retype}
use Rattle.elab_rules.specs.cpp_tree.declared.roles.Role.TheVariants.{Value}
use Rattle.elab_rules.specs.cpp_tree.Trees.{Tree, node, typ_in, cat_of}
use Rattle.elab_rules.specs.cpp_tree.Typing.{form_in, is_class_typ, is_class_prvalue}
use Rattle.elab_rules.specs.cpp_tree.Notation.{plain}
use Rattle.elab_rules.specs.cpp_tree.Parts.{holds_complete}
use Rattle.elab_rules.specs.cpp_tree.Rows.{Setting}
use Rattle.elab_rules.specs.elab_ctx.Ctx.{Ctx, Work}
use Rattle.elab_rules.specs.elab_ctx.Steps.{Operand}
use Rattle.elab_rules.specs.Values.{builder}
use Rattle.elab_fits.specs.Standing.{FitsAs, IsExpressionType}
use Rattle.elab_fits.specs.Scalars.{is_scalar}
use Rattle.elab_fits.proofs.Nodes.{both, or_left, clash}
use Rattle.elab_fits_objects.specs.Contexts.{is_sorted, typ_sorted, is_whole, IsObjectTyp, IsParameter, AreParameters, IsSource, AreSources, copies_itself}
use Rattle.elab_fits_objects.proofs.Fits.{fit_as}
use Rattle.elab_fits_forms.specs.Types.{is_sound, is_sound_form, is_lambda, is_exception_value, is_parameter, are_parameters, IsWhole}
use Rattle.elab_fits_forms.specs.Meaning.{ProperOperand}
use Rattle.elab_fits_forms.specs.Context.{Holds}
use Rattle.elab_fits_forms.specs.Forms.{ProperOperands}
use Rattle.elab_fits_forms.proofs.Types.{target_type, target_no_void}
use Rattle.elab_fits_forms.proofs.Wholes.{class_whole, plain_exception}
use Rattle.elab_fits_forms.proofs.Dropped.{operand_is}

-- Types

exception_sorted : (classes : List Class) (t : Typ) → is_exception_value classes t ≡ true → typ_sorted (is_lambda classes) t ≡ true
exception_sorted classes t h = plain_exception (λ (u : Typ). typ_sorted (is_lambda classes) u ≡ true) classes t h by
  where
    by : (f : Form) → is_exception_value classes (plain f) ≡ true → is_sorted (is_lambda classes) f ≡ true
    by (class n) i = (and_parts (is_some (completion_of classes n)) (not (is_lambda classes n)) i).1
    by (int k) i = refl
    by (enum n s) i = refl
    by f i = absurd cc

sorted_form : (classes : List Class) (f : Form) → is_sound_form classes f ≡ true → is_sorted (is_lambda classes) f ≡ true
sorted_form classes (class n) h = h
sorted_form classes (closure n) h = h
sorted_form classes (tx_ex t) h = exception_sorted classes t h
sorted_form classes f h = refl

pub sorted_typ : (classes : List Class) (t : Typ) → is_sound classes t ≡ true → is_sorted (is_lambda classes) (form_in t) ≡ true
sorted_typ classes (typ f q v) h = sorted_form classes f h

pub whole_is : (classes : List Class) (t : Typ) → IsWhole classes t → is_whole classes t ≡ true
whole_is classes t x = both x.sized x.ready

exception_complete : (classes : List Class) (t : Typ) → is_exception_value classes t ≡ true → holds_complete classes (tx_ex t) ≡ true
exception_complete classes (typ (int k) d y) h = refl
exception_complete classes (typ (enum n e) d y) h = refl
exception_complete classes (typ (class n) false false) h = (and_parts (is_some (completion_of classes n)) (not (is_lambda classes n)) h).0
exception_complete classes (typ (class n) true y) h = absurd cc
exception_complete classes (typ (class n) false true) h = absurd cc
exception_complete classes (typ f d y) h = absurd cc

-- a type of objects of a class
pub object_typ_is : (s : Setting) (c : Ctx) (w : Work) (t : Typ) → Holds s c w → is_sound c.classes t ≡ true → is_class_typ t ≡ true
    → IsObjectTyp c (is_lambda c.classes) t
object_typ_is s c w (typ (class n) q v) h i k = record {
  sorted = i;
  whole = λ d. whole_is c.classes (typ (class n) q v) ((h.complete n d).whole (class n) q v refl i);
  complete = λ e. absurd cc;
}
object_typ_is s c w (typ (closure n) q v) h i k = record {
  sorted = i;
  whole = λ d. whole_is c.classes (typ (closure n) q v) ((h.complete n d).whole (closure n) q v refl i);
  complete = λ e. h.lambdas n i;
}
object_typ_is s c w (typ (tx_ex t) q v) h i k = record {
  sorted = exception_sorted c.classes t i;
  whole = λ d. whole_is c.classes (typ (tx_ex t) q v) (class_whole s c w (typ (tx_ex t) q v) h i refl (λ n a b e. absurd cc));
  complete = λ e. exception_complete c.classes t i;
}
object_typ_is s c w (typ f q v) h i k = absurd cc

-- a parameter
scalar_parameter : (c : Ctx) (f : Form) (q v : Bool) → is_scalar f ≡ true → IsParameter c (is_lambda c.classes) (typ f q v)
scalar_parameter c (int k) q v h = record { formed = refl; referred = λ t e. absurd cc; object = λ e. absurd cc }
scalar_parameter c (enum n b) q v h = record { formed = refl; referred = λ t e. absurd cc; object = λ e. absurd cc }
scalar_parameter c null q v h = record { formed = refl; referred = λ t e. absurd cc; object = λ e. absurd cc }
scalar_parameter c (ptr u) q v h = record { formed = refl; referred = λ t e. absurd cc; object = λ e. absurd cc }
scalar_parameter c f q v h = absurd cc

reference_is : (t u : Typ) → ref t ≡ ref u → t ≡ u
reference_is t u h = cc

pub parameter_is : (s : Setting) (c : Ctx) (w : Work) (p : Typ) → Holds s c w → is_parameter c.classes p ≡ true → IsParameter c (is_lambda c.classes) p
parameter_is s c w (typ (int k) q v) h i = scalar_parameter c (int k) q v refl
parameter_is s c w (typ (enum n b) q v) h i = scalar_parameter c (enum n b) q v refl
parameter_is s c w (typ null q v) h i = scalar_parameter c null q v refl
parameter_is s c w (typ (ptr u) q v) h i = scalar_parameter c (ptr u) q v refl
parameter_is s c w (typ (ref u) q v) h i = record {
  formed = or_left _ (ap not (target_no_void c.classes u i));
  referred = λ t e. subst (λ (z : Typ). IsExpressionType z Lvalue) (reference_is u t e) (target_type c.classes u i);
  object = λ e. absurd cc;
}
parameter_is s c w (typ (class n) q v) h i = record {
  formed = refl;
  referred = λ t e. absurd cc;
  object = λ e. object_typ_is s c w (typ (class n) q v) h i refl;
}
parameter_is s c w (typ (closure n) q v) h i = record {
  formed = refl;
  referred = λ t e. absurd cc;
  object = λ e. object_typ_is s c w (typ (closure n) q v) h i refl;
}
parameter_is s c w (typ (tx_ex t) q v) h i = record {
  formed = refl;
  referred = λ t e. absurd cc;
  object = λ e. object_typ_is s c w (typ (tx_ex t) q v) h i refl;
}
parameter_is s c w (typ void q v) h i = absurd cc
parameter_is s c w (typ (array t n) q v) h i = absurd cc
parameter_is s c w (typ (func g) q v) h i = absurd cc

pub parameters_are : (s : Setting) (c : Ctx) (w : Work) (ps : Typs) → Holds s c w → are_parameters c.classes ps ≡ true
    → AreParameters c (is_lambda c.classes) ps
parameters_are s c w no_typs h i = tt
parameters_are s c w (and_typ p ps) h i = let d = and_parts (is_parameter c.classes p) (are_parameters c.classes ps) i in
    (parameter_is s c w p h d.0, parameters_are s c w ps h d.1)

-- Operands

value_copies : (s : Setting) (e : Tree) → is_class_prvalue (typ_in e) (cat_of e) ≡ false → FitsAs s Value e → copies_itself (builder e) ≡ true
value_copies s (node Retype (typ (tx_ex u) q v) Prvalue at kids) n h = absurd cc
value_copies s (node CopyFrom t cat at kids) n h = clash _ false refl (fit_as s Value CopyFrom t cat at kids h).serves
value_copies s (node kind t cat at kids) n h = refl

pub source_of : (s : Setting) (c : Ctx) (o : Operand) → ProperOperand s c o → IsSource s c (is_lambda c.classes) o
source_of s c o x = record {
  operand = operand_is s c o x;
  sorted = sorted_typ c.classes (typ_in o.tree) x.proper.sound;
  whole = λ n. whole_is c.classes (typ_in o.tree) (x.proper.whole n);
  copied = by (is_class_prvalue (typ_in o.tree) (cat_of o.tree)) refl;
}
  where
    by : (b : Bool) → is_class_prvalue (typ_in o.tree) (cat_of o.tree) ≡ b → copies_itself (builder o.tree) ≡ true
    by true n = x.proper.copied n
    by false n = value_copies s o.tree n (x.proper.stands.value n)

pub sources_of : (s : Setting) (c : Ctx) (os : List Operand) → ProperOperands s c os → AreSources s c (is_lambda c.classes) os
sources_of s c [] h = tt
sources_of s c (o ∷ os) (ProperOperands.more x xs) = (source_of s c o x, sources_of s c os xs)
