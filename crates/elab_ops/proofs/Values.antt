-- What the values of operands are, by the types of the operands.
use Rattle.std.proofs.Common.{◌≡◌, ◌∙◌, ◌||◌, Bool, true, false, Option, Some, None, Result, Ok, Err, refl, sym, ap, cond}
use Rattle.elab_conv.specs.tx_ints.declared.kinds.IntKind.{IntKind}
use Rattle.elab_conv.specs.tx_ints.declared.kinds.IntKind.TheVariants.{Bool as BoolKind, Int}
use Rattle.elab_conv.specs.tx_ints.declared.kinds.BinOp.TheVariants.{Eq}
use Rattle.elab_conv.specs.cpp_tree.declared.kinds.TKind.TheVariants.{Conditional}
use Rattle.elab_conv.specs.cpp_tree.declared.faults.ElabFault.{ElabFault}
use Rattle.elab_conv.specs.cpp_types.Typ.{Typ, typ, Form, void, int, enum, null, ptr, ref, array, func, class, closure, tx_ex}
use Rattle.elab_conv.specs.cpp_types.Equal.{form_eq}
use Rattle.elab_conv.specs.cpp_types.Conversion.{decayed, bound, has_value, step_of}
use Rattle.elab_conv.specs.cpp_types.declared.classes.At.{At}
use Rattle.elab_conv.specs.cpp_types.declared.ranks.Cat.TheVariants.{Lvalue, Prvalue}
use Rattle.elab_conv.specs.cpp_types.declared.ranks.Step.{Step}
use Rattle.elab_conv.specs.cpp_types.declared.ranks.Binding.TheVariants.{Value}
use Rattle.elab_conv.specs.cpp_types.declared.ranks.Conversion.{Conversion}
use Rattle.elab_conv.specs.cpp_tree.declared.faults.IllRule.TheVariants.{NoConversion}
use Rattle.elab_conv.specs.cpp_tree.Trees.{Tree, node, three, typ_in}
use Rattle.elab_conv.specs.cpp_tree.Typing.{form_in}
use Rattle.elab_conv.specs.elab_ctx.Ctx.{Ctx, Work}
use Rattle.elab_conv.specs.elab_ctx.Steps.{and_then, expect, Operand, Made}
use Rattle.elab_conv.specs.elab_rules.Values.{valued, stepped, bool_type, number, in_kind}
use Rattle.elab_conv.specs.elab_rules.Initialising.{bound_by}
use Rattle.elab_conv.specs.elab_rules.Operators.{value, value_form, arithmetic, is_null, truth, logical, negation, false_at, true_at, compared}
use Rattle.elab_ops.specs.Forms.{value_initial, logical_in, negation_in}

pub form_is : (at : At) (e : Tree) → form_in (typ_in (valued at e)) ≡ decayed (typ_in e)
form_is at (node kind (typ (array (typ f d w) n) c v) cat p kids) = refl
form_is at (node kind (typ (func s) c v) cat p kids) = refl
form_is at (node kind (typ f c v) Lvalue p kids) = refl
form_is at (node kind (typ f c v) Prvalue p kids) = refl

-- a pointer, as which an array or a function is taken, is no number
decayed_kind : (t : Typ) → arithmetic (decayed t) ≡ arithmetic (form_in t)
decayed_kind (typ (array (typ f d w) n) c v) = refl
decayed_kind (typ (func s) c v) = refl
decayed_kind (typ f c v) = refl

pub kind_is : (at : At) (e : Tree) → arithmetic (form_in (typ_in e)) ≡ arithmetic (form_in (typ_in (valued at e)))
kind_is at e = sym (ap arithmetic (form_is at e) ∙ decayed_kind (typ_in e))

pub null_is : (b z : Bool) (at : At) (e : Tree) → z ≡ false → b ≡ form_eq (decayed (typ_in e)) null → b ≡ (z || form_eq (form_in (typ_in (valued at e))) null)
null_is b z at e h k = k ∙ sym (rw (h, form_is at e) refl)

-- Truth: the conversion to `bool` gives a value

only_value : (c : Ctx) (w : Work) (at : At) (t : Typ) (e : Tree) (h : Bool) (s : Option Step)
    → and_then (and_then (expect at NoConversion (cond h (bound Value s) None)) (λ (v : Conversion). Ok (bound_by c w v.binding v.step t at e)))
    (λ (m : Made). Ok m.tree) ≡ and_then (expect at NoConversion (cond h (bound Value s) None)) (λ (v : Conversion). Ok (stepped at v.step t (valued at e)))
only_value c w at t e true (Some s) = refl
only_value c w at t e true None = refl
only_value c w at t e false s = refl

pub truth_is : (c : Ctx) (w : Work) (o : Operand) → truth c w o ≡ value_initial c bool_type o
truth_is c w o = only_value c w o.at bool_type o.tree (has_value (typ_in o.tree)) (step_of c.classes o.zero (decayed (typ_in o.tree)) (int BoolKind))

pub logical_is : (c : Ctx) (w : Work) (is_and : Bool) (at : At) (a b : Operand) → logical c w is_and at a b ≡ logical_in c is_and at a b
logical_is c w is_and at a b =
    ap (λ (z : Result Tree ElabFault). and_then z (λ (x : Tree). and_then (truth c w b)
    (λ (y : Tree). Ok (node Conditional bool_type Prvalue at (cond is_and (three x y (false_at at)) (three x (true_at at) y)))))) (truth_is c w a)
    ∙ ap (λ (z : Result Tree ElabFault). and_then (value_initial c bool_type a)
    (λ (x : Tree). and_then z (λ (y : Tree). Ok (node Conditional bool_type Prvalue at (cond is_and (three x y (false_at at)) (three x (true_at at) y))))))
    (truth_is c w b)

pub negation_is : (c : Ctx) (w : Work) (at : At) (a : Operand) → negation c w at a ≡ negation_in c at a
negation_is c w at a = ap (λ (z : Result Tree ElabFault). and_then z (λ (x : Tree). Ok (compared Eq Int at (in_kind a.at Int x) (number Int 0 at))))
    (truth_is c w a)
