-- What references to scalars are bound to.
use Rattle.std.proofs.Common.{◌≡◌, refl, ap, ◌∙◌, Bool, true, false, ◌&&◌, ◌||◌, cond, List, [], ◌∷◌, ◌++◌, length, slice_get, Option, Some, None, is_some}
use Rattle.std.proofs.Common.{Result, Ok}
use Rattle.std.specs.Prelude.{if◌then◌else◌}
use Rattle.elab_rules.specs.cpp_types.Typ.{Typ, typ, Form, void, int, enum, null, ptr, ref, array, func, class, closure, tx_ex}
use Rattle.elab_rules.specs.cpp_types.Class.{Class}
use Rattle.elab_rules.specs.cpp_types.Equal.{typ_eq}
use Rattle.elab_rules.specs.cpp_types.Conversion.{step_of, related_step, reference_conversion, object_binding, temporary as to_temporary, bound, only_const}
use Rattle.elab_rules.specs.cpp_types.Conversion.{keeps, const_of, volatile_of, is_object, has_value, decayed, is_lvalue}
use Rattle.elab_rules.specs.cpp_types.declared.classes.At.{At}
use Rattle.elab_rules.specs.cpp_types.declared.ranks.Cat.{Cat}
use Rattle.elab_rules.specs.cpp_types.declared.ranks.Cat.TheVariants.{Lvalue, Prvalue}
use Rattle.elab_rules.specs.cpp_types.declared.ranks.Step.{Step}
use Rattle.elab_rules.specs.cpp_types.declared.ranks.Conversion.{Conversion}
use Rattle.elab_rules.specs.cpp_types.declared.ranks.Binding.TheVariants.{Direct, Temporary}
use Rattle.elab_rules.specs.cpp_tree.declared.kinds.TKind.TheVariants.{Materialize}
use Rattle.elab_rules.specs.cpp_tree.declared.faults.ElabFault.{ElabFault}
use Rattle.elab_rules.specs.cpp_tree.declared.faults.IllRule.TheVariants.{NoConversion}
use Rattle.elab_rules.specs.cpp_tree.declared.roles.Role.TheVariants.{Value, Initialiser, Destruction}
use Rattle.elab_rules.specs.cpp_tree.Trees.{Tree, none, one, typ_in, cat_of}
use Rattle.elab_rules.specs.cpp_tree.Notation.{plain}
use Rattle.elab_rules.specs.cpp_tree.Typing.{is_class_prvalue, is_class_typ, word_kind}
use Rattle.elab_rules.specs.cpp_tree.Roles.{and_any}
use Rattle.elab_rules.specs.cpp_tree.Rows.{Setting, at_place}
use Rattle.elab_rules.specs.cpp_tree.Typing.{passes}
use Rattle.elab_rules.specs.elab_ctx.Ctx.{Ctx, Work, with_item, next_place}
use Rattle.elab_rules.specs.elab_ctx.Steps.{and_then, expect, Operand, Made}
use Rattle.elab_rules.specs.Values.{valued, stepped, stored, temporary, retyped}
use Rattle.elab_rules.specs.Initialising.{initial, bound_by, with_tree, seen_as}
use Rattle.elab_fits.specs.Standing.{FitsAs, IsExpressionType, BuildsOne, Reaches, On}
use Rattle.elab_fits.specs.Scalars.{is_scalar, Initialises, IsOperand}
use Rattle.elab_fits.proofs.Equal.{typ_refl}
use Rattle.elab_fits.proofs.Nodes.{both, or_left, or_right, clash, head_typ, head_cat, node_fits, one_object}
use Rattle.elab_fits.proofs.Values.{lvalue_stands, stored_builds}
use Rattle.elab_fits.proofs.Initials.{operand_gives}

-- Temporaries (C++14 12.2)

pub last_item : {A : Type 0} (xs : List A) (x : A) → slice_get (xs ++ x ∷ []) (length xs) ≡ Some x
last_item {A} [] x = refl
last_item {A} (y ∷ ys) x = last_item ys x

-- the place of a temporary
pub place_row : (s : Setting) (w : Work) (t : Typ) → Reaches s (with_item w t) → at_place s.function.frame (next_place w) t ≡ true
place_row s w t h = ap (λ (x : Option Typ). passes (typ_eq t) x) (h.frame (next_place w) t (last_item w.frame t)) ∙ typ_refl t

-- an object of a scalar's type, with no destructions
pub temporary_fits : (s : Setting) (w : Work) (t : Typ) (at : At) (e : Tree) → Reaches s (with_item w t) → BuildsOne s t e
    → FitsAs s Value (temporary w t at e none).tree
temporary_fits s w t at e h b = λ p full. node_fits s p Value (Materialize (next_place w) false) t Lvalue at (one e) (and_any (Initialiser ∷ []) Destruction)
    refl refl refl refl (both (both (place_row s w t h) b.builds) refl) refl refl refl (one_object s p e Destruction (b.fits p full))

-- Bindings (C++14 8.5.3)

-- what holds of a binding where what is made stands
abbrev pub Binds : Setting → Typ → Made → Type 0
Binds s t m = Reaches s m.work → Initialises s t m.tree

seen_binds : (s : Setting) (at : At) (t : Typ) (q r : Bool) (e : Tree) (b : Bool) → typ_eq t (typ_in e) ≡ b → IsExpressionType t Lvalue → cat_of e ≡ Lvalue
    → FitsAs s Value e → Initialises s (typ (ref t) q r) (if b then e else retyped at t Lvalue e)
seen_binds s at t q r e true b i l g = record {
  fits = g;
  initialises = both (ap is_lvalue (head_cat e ∙ l)) (or_left _ (ap (λ (u : Typ). typ_eq t u) (head_typ e) ∙ b));
}
seen_binds s at t q r e false b i l g = record {
  fits = (lvalue_stands s at t e (ap (λ (c : Cat). word_kind (typ_in e) c) l) g i).value refl;
  initialises = or_left _ (typ_refl t);
}

-- the object itself
direct_binds : (s : Setting) (at : At) (t : Typ) (q r : Bool) (e : Tree) (w : Work) (x : Made) (b : Bool) → b ≡ false → IsExpressionType t Lvalue
    → cat_of e ≡ Lvalue → FitsAs s Value e → Initialises s (typ (ref t) q r) (with_tree (seen_as at t) (if b then x else record { tree = e; work = w })).tree
direct_binds s at t q r e w x true n i l g = absurd cc
direct_binds s at t q r e w x false n i l g = seen_binds s at t q r e (typ_eq t (typ_in e)) refl i l g

temporary_binds : (s : Setting) (c : Ctx) (w : Work) (f : Form) (d v q r : Bool) (o : Operand) (step : Step) → IsOperand s o → is_scalar f ≡ true
    → step_of c.classes o.zero (decayed (typ_in o.tree)) f ≡ Some step
    → Binds s (typ (ref (typ f d v)) q r) (bound_by c w Temporary step (typ (ref (typ f d v)) q r) o.at o.tree)
temporary_binds s c w f d v q r o step h i e = λ reached. record {
  fits = temporary_fits s w (plain f) o.at (stored o.at (plain f) (stepped o.at step (typ f d v) (valued o.at o.tree))) reached
      (stored_builds s o.at f false false (stepped o.at step (typ f d v) (valued o.at o.tree)) (operand_gives s c.classes step f d v o h i e));
  initialises = or_right _ (typ_refl (plain f));
}

abbrev Bound : Ctx → Work → Typ → Operand → Option Conversion → Result Made ElabFault
Bound c w t o x = and_then (expect o.at NoConversion x) (λ (v : Conversion). Ok (bound_by c w v.binding v.step t o.at o.tree))

temporary_step : (s : Setting) (c : Ctx) (w : Work) (f : Form) (d v q r : Bool) (o : Operand) (x : Option Step) → IsOperand s o
    → (is_some x ≡ true → is_scalar f ≡ true) → step_of c.classes o.zero (decayed (typ_in o.tree)) f ≡ x
    → On (Binds s (typ (ref (typ f d v)) q r)) (Bound c w (typ (ref (typ f d v)) q r) o (bound Temporary x))
temporary_step s c w f d v q r o (Some step) h i e = temporary_binds s c w f d v q r o step h (i refl) e
temporary_step s c w f d v q r o None h i e = tt

temporary_if : (s : Setting) (c : Ctx) (w : Work) (f : Form) (d v q r : Bool) (o : Operand) (b : Bool) → IsOperand s o
    → (is_some (step_of c.classes o.zero (decayed (typ_in o.tree)) f) ≡ true → is_scalar f ≡ true)
    → On (Binds s (typ (ref (typ f d v)) q r)) (Bound c w (typ (ref (typ f d v)) q r) o
    (cond b (bound Temporary (step_of c.classes o.zero (decayed (typ_in o.tree)) f)) None))
temporary_if s c w f d v q r o true h i = temporary_step s c w f d v q r o (step_of c.classes o.zero (decayed (typ_in o.tree)) f) h i refl
temporary_if s c w f d v q r o false h i = tt

-- what is an object and no class prvalue is an lvalue
object_lvalue : (t : Typ) (cat : Cat) → is_object cat t ≡ true → is_class_prvalue t cat ≡ false → cat ≡ Lvalue
object_lvalue t Lvalue h n = refl
object_lvalue (typ f c v) Prvalue h n = clash _ (is_class_prvalue (typ f c v) Prvalue) n h

no_object_class : (t : Typ) (cat : Cat) → is_object cat t ≡ false → is_class_typ t ≡ false
no_object_class t Lvalue h = absurd cc
no_object_class (typ f c v) Prvalue h = h

direct_if : (s : Setting) (c : Ctx) (w : Work) (t : Typ) (q r : Bool) (o : Operand) (step : Step) (b : Bool) → IsOperand s o → IsExpressionType t Lvalue
    → is_class_prvalue (typ_in o.tree) (cat_of o.tree) ≡ false → cat_of o.tree ≡ Lvalue
    → On (Binds s (typ (ref t) q r)) (Bound c w (typ (ref t) q r) o (cond b (Some (record { step = step; binding = Direct })) None))
direct_if s c w t q r o step true h i n l = λ reached. direct_binds s o.at t q r o.tree w _ (is_class_prvalue (typ_in o.tree) (cat_of o.tree)) n i l
    (h.stands.value n)
direct_if s c w t q r o step false h i n l = tt

-- What is made into a temporary is a scalar: another object is bound itself, or not at all
target_scalar : (classes : List Class) (literal : Bool) (g f : Form) (c v d w : Bool) → IsExpressionType (typ f d w) Lvalue → has_value (typ g c v) ≡ true
    → (is_class_typ (typ g c v) && is_some (related_step classes (typ g c v) (typ f d w))) ≡ false
    → is_some (step_of classes literal (decayed (typ g c v)) f) ≡ true → is_scalar f ≡ true
target_scalar classes literal g (int k) c v d w i h n s = refl
target_scalar classes literal g (enum p q) c v d w i h n s = refl
target_scalar classes literal g null c v d w i h n s = refl
target_scalar classes literal g (ptr t) c v d w i h n s = refl
target_scalar classes literal g (ref t) c v d w i h n s = absurd i
target_scalar classes literal void void c v d w i h n s = absurd cc
target_scalar classes literal (int j) void c v d w i h n s = absurd cc
target_scalar classes literal (enum a b) void c v d w i h n s = absurd cc
target_scalar classes literal null void c v d w i h n s = absurd cc
target_scalar classes literal (ptr u) void c v d w i h n s = absurd cc
target_scalar classes literal (ref u) void c v d w i h n s = absurd cc
target_scalar classes literal (array (typ e x y) k) void c v d w i h n s = absurd cc
target_scalar classes literal (func u) void c v d w i h n s = absurd cc
target_scalar classes literal (class m) void c v d w i h n s = absurd cc
target_scalar classes literal (closure m) void c v d w i h n s = absurd cc
target_scalar classes literal (tx_ex u) void c v d w i h n s = absurd cc
target_scalar classes literal void (array t k) c v d w i h n s = absurd cc
target_scalar classes literal (int j) (array t k) c v d w i h n s = absurd cc
target_scalar classes literal (enum a b) (array t k) c v d w i h n s = absurd cc
target_scalar classes literal null (array t k) c v d w i h n s = absurd cc
target_scalar classes literal (ptr u) (array t k) c v d w i h n s = absurd cc
target_scalar classes literal (ref u) (array t k) c v d w i h n s = absurd cc
target_scalar classes literal (array (typ e x y) p) (array t k) c v d w i h n s = absurd cc
target_scalar classes literal (func u) (array t k) c v d w i h n s = absurd cc
target_scalar classes literal (class m) (array t k) c v d w i h n s = absurd cc
target_scalar classes literal (closure m) (array t k) c v d w i h n s = absurd cc
target_scalar classes literal (tx_ex u) (array t k) c v d w i h n s = absurd cc
target_scalar classes literal void (func t) c v d w i h n s = absurd cc
target_scalar classes literal (int j) (func t) c v d w i h n s = absurd cc
target_scalar classes literal (enum a b) (func t) c v d w i h n s = absurd cc
target_scalar classes literal null (func t) c v d w i h n s = absurd cc
target_scalar classes literal (ptr u) (func t) c v d w i h n s = absurd cc
target_scalar classes literal (ref u) (func t) c v d w i h n s = absurd cc
target_scalar classes literal (array (typ e x y) k) (func t) c v d w i h n s = absurd cc
target_scalar classes literal (func u) (func t) c v d w i h n s = absurd cc
target_scalar classes literal (class m) (func t) c v d w i h n s = absurd cc
target_scalar classes literal (closure m) (func t) c v d w i h n s = absurd cc
target_scalar classes literal (tx_ex u) (func t) c v d w i h n s = absurd cc
target_scalar classes literal void (class p) c v d w i h n s = absurd cc
target_scalar classes literal (int j) (class p) c v d w i h n s = absurd cc
target_scalar classes literal (enum a b) (class p) c v d w i h n s = absurd cc
target_scalar classes literal null (class p) c v d w i h n s = absurd cc
target_scalar classes literal (ptr u) (class p) c v d w i h n s = absurd cc
target_scalar classes literal (ref u) (class p) c v d w i h n s = absurd cc
target_scalar classes literal (array (typ e x y) k) (class p) c v d w i h n s = absurd cc
target_scalar classes literal (func u) (class p) c v d w i h n s = absurd cc
target_scalar classes literal (class m) (class p) c v d w i h n s = clash _ _ n s
target_scalar classes literal (closure m) (class p) c v d w i h n s = absurd cc
target_scalar classes literal (tx_ex u) (class p) c v d w i h n s = absurd cc
target_scalar classes literal void (closure p) c v d w i h n s = absurd cc
target_scalar classes literal (int j) (closure p) c v d w i h n s = absurd cc
target_scalar classes literal (enum a b) (closure p) c v d w i h n s = absurd cc
target_scalar classes literal null (closure p) c v d w i h n s = absurd cc
target_scalar classes literal (ptr u) (closure p) c v d w i h n s = absurd cc
target_scalar classes literal (ref u) (closure p) c v d w i h n s = absurd cc
target_scalar classes literal (array (typ e x y) k) (closure p) c v d w i h n s = absurd cc
target_scalar classes literal (func u) (closure p) c v d w i h n s = absurd cc
target_scalar classes literal (class m) (closure p) c v d w i h n s = absurd cc
target_scalar classes literal (closure m) (closure p) c v d w i h n s = clash _ _ n s
target_scalar classes literal (tx_ex u) (closure p) c v d w i h n s = absurd cc
target_scalar classes literal void (tx_ex t) c v d w i h n s = absurd cc
target_scalar classes literal (int j) (tx_ex t) c v d w i h n s = absurd cc
target_scalar classes literal (enum a b) (tx_ex t) c v d w i h n s = absurd cc
target_scalar classes literal null (tx_ex t) c v d w i h n s = absurd cc
target_scalar classes literal (ptr u) (tx_ex t) c v d w i h n s = absurd cc
target_scalar classes literal (ref u) (tx_ex t) c v d w i h n s = absurd cc
target_scalar classes literal (array (typ e x y) k) (tx_ex t) c v d w i h n s = absurd cc
target_scalar classes literal (func u) (tx_ex t) c v d w i h n s = absurd cc
target_scalar classes literal (class m) (tx_ex t) c v d w i h n s = absurd cc
target_scalar classes literal (closure m) (tx_ex t) c v d w i h n s = absurd cc
target_scalar classes literal (tx_ex u) (tx_ex t) c v d w i h n s = clash _ _ n s

target_of : (classes : List Class) (literal : Bool) (t : Typ) (f : Form) (d w : Bool) → IsExpressionType (typ f d w) Lvalue → has_value t ≡ true
    → (is_class_typ t && is_some (related_step classes t (typ f d w))) ≡ false → is_some (step_of classes literal (decayed t) f) ≡ true → is_scalar f ≡ true
target_of classes literal (typ g c v) f d w i h n s = target_scalar classes literal g f c v d w i h n s

and_none : (b : Bool) (x : Option Step) → x ≡ None → (b && is_some x) ≡ false
and_none true x h = ap is_some h
and_none false x h = refl

related_binds : (s : Setting) (c : Ctx) (w : Work) (f : Form) (d v q r : Bool) (o : Operand) (x : Option Step)
    → related_step c.classes (typ_in o.tree) (typ f d v) ≡ x → IsOperand s o → IsExpressionType (typ f d v) Lvalue → has_value (typ_in o.tree) ≡ true
    → is_class_prvalue (typ_in o.tree) (cat_of o.tree) ≡ false → cat_of o.tree ≡ Lvalue
    → On (Binds s (typ (ref (typ f d v)) q r)) (Bound c w (typ (ref (typ f d v)) q r) o
    (object_binding c.classes (cat_of o.tree) o.zero (typ_in o.tree) (typ f d v) x))
related_binds s c w f d v q r o (Some step) e h i m n l = direct_if s c w (typ f d v) q r o step
    (keeps (const_of (typ_in o.tree)) (volatile_of (typ_in o.tree)) (const_of (typ f d v)) (volatile_of (typ f d v))
    && (is_lvalue (cat_of o.tree) || only_const (typ f d v))) h i n l
related_binds s c w f d v q r o None e h i m n l = temporary_if s c w f d v q r o (only_const (typ f d v)) h
    (target_of c.classes o.zero (typ_in o.tree) f d v i m
    (and_none (is_class_typ (typ_in o.tree)) (related_step c.classes (typ_in o.tree) (typ f d v)) e))

object_if : (s : Setting) (c : Ctx) (w : Work) (f : Form) (d v q r : Bool) (o : Operand) (b : Bool) → is_object (cat_of o.tree) (typ_in o.tree) ≡ b
    → IsOperand s o → IsExpressionType (typ f d v) Lvalue → has_value (typ_in o.tree) ≡ true → is_class_prvalue (typ_in o.tree) (cat_of o.tree) ≡ false
    → On (Binds s (typ (ref (typ f d v)) q r)) (Bound c w (typ (ref (typ f d v)) q r) o
    (cond b (object_binding c.classes (cat_of o.tree) o.zero (typ_in o.tree) (typ f d v) (related_step c.classes (typ_in o.tree) (typ f d v)))
    (to_temporary c.classes o.zero (typ_in o.tree) (typ f d v))))
object_if s c w f d v q r o true b h i m n = related_binds s c w f d v q r o (related_step c.classes (typ_in o.tree) (typ f d v)) refl h i m n
    (object_lvalue (typ_in o.tree) (cat_of o.tree) b n)
object_if s c w f d v q r o false b h i m n = temporary_if s c w f d v q r o (only_const (typ f d v)) h (target_of c.classes o.zero (typ_in o.tree) f d v i m
    (ap (λ (z : Bool). z && is_some (related_step c.classes (typ_in o.tree) (typ f d v))) (no_object_class (typ_in o.tree) (cat_of o.tree) b)))

value_if : (s : Setting) (c : Ctx) (w : Work) (f : Form) (d v q r : Bool) (o : Operand) (b : Bool) → has_value (typ_in o.tree) ≡ b → IsOperand s o
    → IsExpressionType (typ f d v) Lvalue → is_class_prvalue (typ_in o.tree) (cat_of o.tree) ≡ false
    → On (Binds s (typ (ref (typ f d v)) q r)) (Bound c w (typ (ref (typ f d v)) q r) o
    (cond b (reference_conversion c.classes (cat_of o.tree) o.zero (typ_in o.tree) (typ f d v)) None))
value_if s c w f d v q r o true b h i n = object_if s c w f d v q r o (is_object (cat_of o.tree) (typ_in o.tree)) refl h i b n
value_if s c w f d v q r o false b h i n = tt

-- a reference, from an expression that is no prvalue of a class
pub reference_binds : (s : Setting) (c : Ctx) (w : Work) (t : Typ) (q r : Bool) (o : Operand) → IsOperand s o → IsExpressionType t Lvalue
    → is_class_prvalue (typ_in o.tree) (cat_of o.tree) ≡ false → On (Binds s (typ (ref t) q r)) (initial c w (typ (ref t) q r) o)
reference_binds s c w (typ f d v) q r o h i n = value_if s c w f d v q r o (has_value (typ_in o.tree)) refl h i n
