-- Zeros, copies and objects of classes.
use Rattle.std.proofs.Common.{◌≡◌, refl, ℕ, zero, suc, not, length, Bool, false, ◌&&◌, List, [], ◌∷◌, Option, Some, None}
use Rattle.elab_rules.specs.cpp_overload.Choosing.{chosen}
use Rattle.elab_rules.specs.cpp_types.Typ.{Typ, typ, Form, void, int, enum, null, ptr, ref, array, func, class, closure, tx_ex}
use Rattle.elab_rules.specs.cpp_types.Equal.{typ_eq, form_eq}
use Rattle.elab_rules.specs.cpp_types.Class.{Class}
use Rattle.elab_rules.specs.cpp_types.Conversion.{referred}
use Rattle.elab_rules.specs.cpp_types.declared.classes.At.{At}
use Rattle.elab_rules.specs.cpp_types.declared.ranks.Cat.{Cat}
use Rattle.elab_rules.specs.cpp_types.declared.ranks.Cat.TheVariants.{Lvalue}
use Rattle.elab_rules.specs.cpp_types.declared.ranks.Binding.{Binding}
use Rattle.elab_rules.specs.cpp_types.declared.ranks.Binding.TheVariants.{Value, Direct, Temporary}
use Rattle.elab_rules.specs.cpp_types.declared.ranks.Step.{Step}
use Rattle.elab_rules.specs.cpp_tree.declared.kinds.TKind.{TKind}
use Rattle.elab_rules.specs.cpp_tree.declared.kinds.TKind.TheVariants as forms
use Rattle.elab_rules.specs.cpp_tree.declared.faults.IllRule.TheVariants.{NoConversion, NoCopy}
use Rattle.elab_rules.specs.cpp_tree.Trees.{Tree, node, Trees, none, more, one, kind_of, typ_in, cat_of, kids_of}
use Rattle.elab_rules.specs.cpp_tree.Typing.{form_in, is_class_prvalue, is_volatile_typ, without_exception}
use Rattle.elab_rules.specs.elab_ctx.Ctx.{Ctx, Work}
use Rattle.elab_rules.specs.elab_ctx.Steps.{check, expect, Operand}
use Rattle.elab_rules.specs.Values.{builder, valued, retyped, place_of}
use Rattle.elab_rules.specs.Operators.{is_throw}
use Rattle.elab_rules.specs.Objects.{class_whole, whole_form, zero_leaf, zeros, traits_at}
use Rattle.elab_rules.specs.Initialising
use Rattle.elab_rules.specs.Initialising.{class_from, scalar_from, initial, conversion, object_of, bound_by, seen_as, building, rebuilt, copied_anew}
use Rattle.elab_fits.specs.Standing.{On}
use Rattle.elab_fits.proofs.Steps.{bind, skip, either}
use Rattle.elab_throws_apart.proofs.Trees.{Apart, MadeApart, tree_if, made_if, builder_apart, lvalue_apart, valued_apart, stepped_apart, stored_apart}

-- Zeros

abbrev Each : Type 0
Each = ℕ → Bool → Bool → Tree

record IsEachApart (each : Each) : Type 0 where
  tree : (n : ℕ) (c v : Bool) → Apart (each n c v)
  kind : (n : ℕ) (c v : Bool) → is_throw (kind_of (each n c v)) ≡ false

closure_apart : (kind : TKind) (n : ℕ) (c v : Bool) (cat : Cat) (at : At) (kids : Trees) → is_throw kind ≡ false
    → Apart (node kind (typ (closure n) c v) cat at kids)
closure_apart forms.Throw n c v cat at kids h = absurd cc
closure_apart forms.Rethrow n c v cat at kids h = absurd cc
closure_apart forms.Retype n c v cat at kids h = refl
closure_apart kind n c v cat at kids h = refl

form_apart : (each : Each) → IsEachApart each → (classes : List Class) (at : At) (c v : Bool) (f : Form) → Apart (whole_form each zero_leaf classes at c v f)
form_apart each h classes at c v (class n) = h.tree n c v
form_apart each h classes at c v (closure n) = closure_apart (kind_of (each n c v)) n c v (cat_of (each n c v)) (place_of (each n c v)) (kids_of (each n c v)) (h.kind n c v)
form_apart each h classes at c v (array t n) = refl
form_apart each h classes at c v (tx_ex (typ f d w)) = form_apart each h classes at c v f
form_apart each h classes at c v (int k) = refl
form_apart each h classes at c v (enum n x) = refl
form_apart each h classes at c v null = refl
form_apart each h classes at c v (ptr t) = refl
form_apart each h classes at c v (ref t) = refl
form_apart each h classes at c v (func t) = refl
form_apart each h classes at c v void = refl

class_apart_in : (depth : ℕ) (classes : List Class) (at : At) → IsEachApart (class_whole depth zero_leaf classes at)
class_apart_in zero classes at = record { tree = λ n c v. refl; kind = λ n c v. refl }
class_apart_in (suc depth) classes at = record { tree = λ n c v. refl; kind = λ n c v. refl }

pub zeros_apart : (classes : List Class) (at : At) (t : Typ) → Apart (zeros classes at t)
zeros_apart classes at (typ f d w) =
    form_apart (class_whole (length classes) zero_leaf classes at) (class_apart_in (length classes) classes at) classes at d w f

-- Temporaries and references

pub object_apart : (c : Ctx) (w : Work) (at : At) (e : Tree) → Apart e → MadeApart (object_of c w at e)
object_apart c w at e h = made_if (is_class_prvalue (typ_in e) (cat_of e)) _ _ refl h

seen_apart : (at : At) (t : Typ) (e : Tree) → Apart e → Apart (seen_as at t e)
seen_apart at t e h = tree_if (typ_eq t (typ_in e)) e (retyped at t Lvalue e) h (lvalue_apart at t (one e))

bound_apart : (c : Ctx) (w : Work) (b : Binding) (x : Step) (t : Typ) (at : At) (e : Tree) → Apart e → MadeApart (bound_by c w b x t at e)
bound_apart c w Value x t at e h = stepped_apart at x t (valued at e) (valued_apart at e h)
bound_apart c w Direct x t at e h = seen_apart at (referred t) (object_of c w at e).tree (object_apart c w at e h)
bound_apart c w Temporary x t at e h = refl

pub initial_apart : (c : Ctx) (w : Work) (t : Typ) (o : Operand) → Apart o.tree → On MadeApart (initial c w t o)
initial_apart c w t o h = skip MadeApart (expect o.at NoConversion (conversion c t o)) _ (λ v. bound_apart c w v.binding v.step t o.at o.tree h)

pub scalar_apart : (c : Ctx) (w : Work) (t : Typ) (o : Operand) → Apart o.tree → On MadeApart (scalar_from c w t o)
scalar_apart c w t o h = bind MadeApart MadeApart (initial c w t o) _ (initial_apart c w t o h) (λ m i. stored_apart o.at t m.tree i)

-- Objects of classes

anew_apart : (classes : List Class) (t : Typ) (e : Tree) (ts : Trees) → Apart e → Apart (copied_anew classes t e ts)
anew_apart classes t e none h = h
anew_apart classes t e (more x ts) h = refl

rebuilt_apart : (classes : List Class) (kind : TKind) (t : Typ) (e : Tree) → Apart e → Apart (rebuilt classes kind t e)
rebuilt_apart classes (forms.Construct k) t e h = refl
rebuilt_apart classes (forms.Store k v) t e h = refl
rebuilt_apart classes forms.CopyFrom t e h = anew_apart classes t e (kids_of e) h
rebuilt_apart classes forms.Pieces t e h = zeros_apart classes _ t
rebuilt_apart classes kind t e h = h

pub building_apart : (classes : List Class) (t : Typ) (e : Tree) → Apart e → Apart (building classes t e)
building_apart classes t e h = tree_if (typ_eq t (typ_in e)) e (rebuilt classes (kind_of e) t e) h (rebuilt_apart classes (kind_of e) t e h)

copy_apart : (c : Ctx) (w : Work) (n : ℕ) (t : Typ) (at : At) (o : Operand) (k : Option ℕ) → On MadeApart (Initialising.constructed_copy c w n t at o k)
copy_apart c w n t at o None = refl
copy_apart c w n t at o (Some k) = skip MadeApart (Initialising.reference_word c w (Initialising.parameters_at c.funcs k) o) _ (λ m. refl)

copied_apart : (c : Ctx) (w : Work) (n : ℕ) (t : Typ) (at : At) (o : Operand) → On MadeApart (Initialising.copied_object c w n t at o)
copied_apart c w n t at o = skip MadeApart (check o.at NoCopy (not (is_volatile_typ (typ_in o.tree)) && Initialising.has_copy (traits_at c n).copy)) _
    (λ y. skip MadeApart (Initialising.meant at (chosen c.classes (Initialising.makers c n) (Initialising.argument o ∷ []))) _
    (λ i. copy_apart c w n t at o (Initialising.constructor_at c n i)))

exception_apart : (c : Ctx) (w : Work) (t : Typ) (at : At) (o : Operand) → Apart o.tree → MadeApart (Initialising.exception_made c w t at o)
exception_apart c w t at o h = made_if (Initialising.is_given_value (builder o.tree)) _ _ refl (tree_if (typ_eq t (typ_in (builder o.tree))) (builder o.tree)
    (building c.classes (without_exception t) (builder o.tree)) (builder_apart o.tree h)
    (building_apart c.classes (without_exception t) (builder o.tree) (builder_apart o.tree h)))

pub class_apart : (c : Ctx) (w : Work) (t : Typ) (at : At) (o : Operand) → Apart o.tree → On MadeApart (class_from c w t at o)
class_apart c w (typ (closure n) q v) at o x = either MadeApart (Initialising.is_closure_itself n q v o.tree) _ _ (λ h. x)
    (λ h. skip MadeApart (check o.at NoConversion (Initialising.same_number n (Initialising.class_number (typ_in o.tree)))) _
    (λ y. skip MadeApart (check o.at NoCopy (not (is_volatile_typ (typ_in o.tree)))) _ (λ z. refl)))
class_apart c w (typ (class n) q v) at o x = skip MadeApart (Initialising.makeable c at n) _ (λ k. either MadeApart (Initialising.is_prvalue_of_class n o.tree) _ _
    (λ h. building_apart c.classes (typ (class n) q v) o.tree x)
    (λ h. skip MadeApart (check o.at NoConversion (Initialising.is_same_or_base c.classes (Initialising.class_number (typ_in o.tree)) (Some n))) _
    (λ y. copied_apart c w n (typ (class n) q v) at o)))
class_apart c w (typ (tx_ex t) q v) at o x = skip MadeApart (check o.at NoConversion (form_eq (form_in (typ_in o.tree)) (tx_ex t))) _
    (λ y. either MadeApart (is_class_prvalue (typ_in o.tree) (cat_of o.tree)) _ _
    (λ h. exception_apart c w (typ (tx_ex t) q v) at o x) (λ h. skip MadeApart (check o.at NoCopy (not (is_volatile_typ (typ_in o.tree)))) _ (λ z. refl)))
class_apart c w t at o x = tt

-- an object of exactly one type
pub exact_apart : (c : Ctx) (w : Work) (t : Typ) (at : At) (o : Operand) → Apart o.tree → On MadeApart (Initialising.exact_object c w t at o)
exact_apart c w t at o h = either MadeApart (Initialising.is_other_prvalue t o.tree) _ _
    (λ i. class_apart c (object_of c w o.at o.tree).work t at (Initialising.object_operand o (object_of c w o.at o.tree).tree) (object_apart c w o.at o.tree h))
    (λ i. class_apart c w t at o h)
