-- What a reference is bound to, by an object of a class too.
use Rattle.std.proofs.Common.{◌≡◌, refl, ap, ◌∙◌, ℕ, Bool, true, false, ◌&&◌, ◌||◌, cond, List, Option, Some, None, Result, Ok}
use Rattle.std.specs.Prelude.{if◌then◌else◌}
use Rattle.elab_rules.specs.cpp_types.Typ.{Typ, typ, Form, void, int, enum, null, ptr, ref, array, func, class, closure, tx_ex}
use Rattle.elab_rules.specs.cpp_types.Class.{Class}
use Rattle.elab_rules.specs.cpp_types.Equal.{typ_eq}
use Rattle.elab_rules.specs.cpp_types.Conversion.{step_of, related_step, object_binding, bound, only_const}
use Rattle.elab_rules.specs.cpp_types.Conversion.{keeps, const_of, volatile_of, is_object, has_value, decayed, is_lvalue, is_object_form}
use Rattle.elab_rules.specs.cpp_types.declared.classes.At.{At}
use Rattle.elab_rules.specs.cpp_types.declared.ranks.Cat.{Cat}
use Rattle.elab_rules.specs.cpp_types.declared.ranks.Cat.TheVariants.{Lvalue, Prvalue}
use Rattle.elab_rules.specs.cpp_types.declared.ranks.Step.{Step}
use Rattle.elab_rules.specs.cpp_types.declared.ranks.Conversion.{Conversion}
use Rattle.elab_rules.specs.cpp_types.declared.ranks.Binding.TheVariants.{Direct, Temporary}
use Rattle.elab_rules.specs.cpp_tree.declared.faults.ElabFault.{ElabFault}
use Rattle.elab_rules.specs.cpp_tree.declared.faults.IllRule.TheVariants.{NoConversion}
use Rattle.elab_rules.specs.cpp_tree.declared.roles.Role.TheVariants.{Value}
use Rattle.elab_rules.specs.cpp_tree.Trees.{Tree, typ_in, cat_of}
use Rattle.elab_rules.specs.cpp_tree.Typing.{is_class_prvalue, is_class_typ, word_kind}
use Rattle.elab_rules.specs.cpp_tree.Rows.{Setting}
use Rattle.elab_rules.specs.elab_ctx.Ctx.{Ctx, Work}
use Rattle.elab_rules.specs.elab_ctx.Steps.{and_then, expect, Operand, Made}
use Rattle.elab_rules.specs.Values.{retyped}
use Rattle.elab_rules.specs.Initialising.{initial, bound_by, seen_as, object_of}
use Rattle.elab_fits.specs.Standing.{FitsAs, IsExpressionType, IsSetting, Reaches, On}
use Rattle.elab_fits.specs.Scalars.{Initialises}
use Rattle.elab_fits.proofs.Binding.{reference_binds}
use Rattle.elab_fits.proofs.Equal.{typ_refl}
use Rattle.elab_fits.proofs.Nodes.{both, or_left, head_typ, head_cat}
use Rattle.elab_fits.proofs.Values.{lvalue_stands}
use Rattle.elab_fits_objects.specs.Contexts.{HasMakers, IsSource}
use Rattle.elab_fits_objects.proofs.Placing.{object_placed, object_lvalue, placed_fits}
use Rattle.elab_fits_objects.proofs.Types.{prvalue_class}

-- A placed object as one of the type that a reference refers to

seen_by : (s : Setting) (at : At) (t : Typ) (q r : Bool) (e : Tree) (b : Bool) → typ_eq t (typ_in e) ≡ b → IsExpressionType t Lvalue → cat_of e ≡ Lvalue
    → FitsAs s Value e → Initialises s (typ (ref t) q r) (if b then e else retyped at t Lvalue e)
seen_by s at t q r e true b i l g = record {
  fits = g;
  initialises = both (ap is_lvalue (head_cat e ∙ l)) (or_left _ (ap (λ (u : Typ). typ_eq t u) (head_typ e) ∙ b));
}
seen_by s at t q r e false b i l g = record {
  fits = (lvalue_stands s at t e (ap (λ (c : Cat). word_kind (typ_in e) c) l) g i).value refl;
  initialises = or_left _ (typ_refl t);
}

pub seen_binds : (s : Setting) (at : At) (t : Typ) (q r : Bool) (e : Tree) → IsExpressionType t Lvalue → cat_of e ≡ Lvalue → FitsAs s Value e
    → Initialises s (typ (ref t) q r) (seen_as at t e)
seen_binds s at t q r e i l g = seen_by s at t q r e (typ_eq t (typ_in e)) refl i l g

-- An object of a class is bound itself, or not at all

no_temporary : (classes : List Class) (literal : Bool) (g f : Form) (a b d v : Bool) → is_object_form g ≡ true
    → related_step classes (typ g a b) (typ f d v) ≡ None → step_of classes literal (decayed (typ g a b)) f ≡ None
no_temporary classes literal (class m) (class n) a b d v i h = h
no_temporary classes literal (closure m) (closure n) a b d v i h = h
no_temporary classes literal (tx_ex t) (tx_ex u) a b d v i h = h
no_temporary classes literal (class m) void a b d v i h = refl
no_temporary classes literal (class m) (int k) a b d v i h = refl
no_temporary classes literal (class m) (enum n s) a b d v i h = refl
no_temporary classes literal (class m) null a b d v i h = refl
no_temporary classes literal (class m) (ptr t) a b d v i h = refl
no_temporary classes literal (class m) (ref t) a b d v i h = refl
no_temporary classes literal (class m) (array t n) a b d v i h = refl
no_temporary classes literal (class m) (func s) a b d v i h = refl
no_temporary classes literal (class m) (closure n) a b d v i h = refl
no_temporary classes literal (class m) (tx_ex t) a b d v i h = refl
no_temporary classes literal (closure m) void a b d v i h = refl
no_temporary classes literal (closure m) (int k) a b d v i h = refl
no_temporary classes literal (closure m) (enum n s) a b d v i h = refl
no_temporary classes literal (closure m) null a b d v i h = refl
no_temporary classes literal (closure m) (ptr t) a b d v i h = refl
no_temporary classes literal (closure m) (ref t) a b d v i h = refl
no_temporary classes literal (closure m) (array t n) a b d v i h = refl
no_temporary classes literal (closure m) (func s) a b d v i h = refl
no_temporary classes literal (closure m) (class n) a b d v i h = refl
no_temporary classes literal (closure m) (tx_ex t) a b d v i h = refl
no_temporary classes literal (tx_ex u) void a b d v i h = refl
no_temporary classes literal (tx_ex u) (int k) a b d v i h = refl
no_temporary classes literal (tx_ex u) (enum n s) a b d v i h = refl
no_temporary classes literal (tx_ex u) null a b d v i h = refl
no_temporary classes literal (tx_ex u) (ptr t) a b d v i h = refl
no_temporary classes literal (tx_ex u) (ref t) a b d v i h = refl
no_temporary classes literal (tx_ex u) (array t n) a b d v i h = refl
no_temporary classes literal (tx_ex u) (func s) a b d v i h = refl
no_temporary classes literal (tx_ex u) (class n) a b d v i h = refl
no_temporary classes literal (tx_ex u) (closure n) a b d v i h = refl
no_temporary classes literal void f a b d v i h = absurd cc
no_temporary classes literal (int k) f a b d v i h = absurd cc
no_temporary classes literal (enum n s) f a b d v i h = absurd cc
no_temporary classes literal null f a b d v i h = absurd cc
no_temporary classes literal (ptr t) f a b d v i h = absurd cc
no_temporary classes literal (ref t) f a b d v i h = absurd cc
no_temporary classes literal (array t n) f a b d v i h = absurd cc
no_temporary classes literal (func s) f a b d v i h = absurd cc

no_step : (classes : List Class) (literal : Bool) (t : Typ) (f : Form) (d v : Bool) → is_class_typ t ≡ true
    → related_step classes t (typ f d v) ≡ None → step_of classes literal (decayed t) f ≡ None
no_step classes literal (typ g a b) f d v i h = no_temporary classes literal g f a b d v i h

class_value : (t : Typ) → is_class_typ t ≡ true → has_value t ≡ true
class_value (typ (class n) c v) h = refl
class_value (typ (closure n) c v) h = refl
class_value (typ (tx_ex t) c v) h = refl
class_value (typ f c v) h = absurd cc

class_object : (t : Typ) (cat : Cat) → is_class_prvalue t cat ≡ true → is_object cat t ≡ true
class_object t Lvalue h = absurd cc
class_object (typ f c v) Prvalue h = h

abbrev Binds : Setting → Typ → Made → Type 0
Binds s t m = Reaches s m.work → Initialises s t m.tree

abbrev Bound : Ctx → Work → Typ → Operand → Option Conversion → Result Made ElabFault
Bound c w t o x = and_then (expect o.at NoConversion x) (λ (v : Conversion). Ok (bound_by c w v.binding v.step t o.at o.tree))

module _ (s : Setting) (c : Ctx) (lambda : ℕ → Bool) (w : Work) (t : Typ) (q r : Bool) (o : Operand) (i : IsSetting s c) (m : HasMakers c lambda)
    (h : IsSource s c lambda o) (e : IsExpressionType t Lvalue) (p : is_class_prvalue (typ_in o.tree) (cat_of o.tree) ≡ true) where
  itself : Reaches s (object_of c w o.at o.tree).work → Initialises s (typ (ref t) q r) (seen_as o.at t (object_of c w o.at o.tree).tree)
  itself reached =
      let x = object_placed s c lambda w o i m h reached in
      seen_binds s o.at t q r (object_of c w o.at o.tree).tree e
      (object_lvalue s c w o.at o.tree (prvalue_class (typ_in o.tree) (cat_of o.tree) p) x) (placed_fits s (object_of c w o.at o.tree).tree x)

  direct_if : (step : Step) (b : Bool) → On (Binds s (typ (ref t) q r)) (Bound c w (typ (ref t) q r) o
      (cond b (Some (record { step = step; binding = Direct })) None))
  direct_if step true = itself
  direct_if step false = tt

  none_if : (b : Bool) (x : Option Step) → x ≡ None → On (Binds s (typ (ref t) q r)) (Bound c w (typ (ref t) q r) o (cond b (bound Temporary x) None))
  none_if b (Some step) g = absurd cc
  none_if true None g = tt
  none_if false None g = tt

-- a prvalue of a class
class_binds : (s : Setting) (c : Ctx) (lambda : ℕ → Bool) (w : Work) (f : Form) (d v q r : Bool) (o : Operand) → IsSetting s c → HasMakers c lambda
    → IsSource s c lambda o → IsExpressionType (typ f d v) Lvalue → is_class_prvalue (typ_in o.tree) (cat_of o.tree) ≡ true
    → On (Binds s (typ (ref (typ f d v)) q r)) (initial c w (typ (ref (typ f d v)) q r) o)
class_binds s c lambda w f d v q r o i m h e p =
    let t : Typ = typ f d v in
    let a : has_value (typ_in o.tree) ≡ true = class_value (typ_in o.tree) (prvalue_class (typ_in o.tree) (cat_of o.tree) p) in
    let b : is_object (cat_of o.tree) (typ_in o.tree) ≡ true = class_object (typ_in o.tree) (cat_of o.tree) p in
    rw (a, b) (by_related (related_step c.classes (typ_in o.tree) t) refl)
  where
    by_related : (x : Option Step) → related_step c.classes (typ_in o.tree) (typ f d v) ≡ x
        → On (Binds s (typ (ref (typ f d v)) q r)) (Bound c w (typ (ref (typ f d v)) q r) o
        (object_binding c.classes (cat_of o.tree) o.zero (typ_in o.tree) (typ f d v) x))
    by_related (Some step) g = direct_if s c lambda w (typ f d v) q r o i m h e p step
        (keeps (const_of (typ_in o.tree)) (volatile_of (typ_in o.tree)) (const_of (typ f d v)) (volatile_of (typ f d v))
        && (is_lvalue (cat_of o.tree) || only_const (typ f d v)))
    by_related None g = none_if s c lambda w (typ f d v) q r o i m h e p (only_const (typ f d v))
        (step_of c.classes o.zero (decayed (typ_in o.tree)) f)
        (no_step c.classes o.zero (typ_in o.tree) f d v (prvalue_class (typ_in o.tree) (cat_of o.tree) p) g)

binds_by : (s : Setting) (c : Ctx) (lambda : ℕ → Bool) (w : Work) (f : Form) (d v q r : Bool) (o : Operand) (b : Bool)
    → is_class_prvalue (typ_in o.tree) (cat_of o.tree) ≡ b → IsSetting s c → HasMakers c lambda → IsSource s c lambda o → IsExpressionType (typ f d v) Lvalue
    → On (Binds s (typ (ref (typ f d v)) q r)) (initial c w (typ (ref (typ f d v)) q r) o)
binds_by s c lambda w f d v q r o true p i m h e = class_binds s c lambda w f d v q r o i m h e p
binds_by s c lambda w f d v q r o false p i m h e = reference_binds s c w (typ f d v) q r o h.operand e p

-- a reference, from any operand
pub binds : (s : Setting) (c : Ctx) (lambda : ℕ → Bool) (w : Work) (t : Typ) (q r : Bool) (o : Operand) → IsSetting s c → HasMakers c lambda
    → IsSource s c lambda o → IsExpressionType t Lvalue → On (Binds s (typ (ref t) q r)) (initial c w (typ (ref t) q r) o)
binds s c lambda w (typ f d v) q r o i m h e = binds_by s c lambda w f d v q r o (is_class_prvalue (typ_in o.tree) (cat_of o.tree)) refl i m h e
