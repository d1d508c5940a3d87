-- Operators by the forms of their operands' values.
use Rattle.std.specs.Prelude.{Bool, true, false, Result, Ok, if◌then◌else◌}
use Rattle.elab_conv.specs.tx_ints.declared.kinds.IntKind.TheVariants.{Int, ULong}
use Rattle.elab_conv.specs.tx_ints.declared.kinds.BinOp.{BinOp}
use Rattle.elab_conv.specs.tx_ints.declared.kinds.BinOp.TheVariants.{Eq}
use Rattle.elab_conv.specs.cpp_types.Typ.{Typ, Form, enum}
use Rattle.elab_conv.specs.cpp_types.Equal.{form_eq}
use Rattle.elab_conv.specs.cpp_types.declared.classes.At.{At}
use Rattle.elab_conv.specs.cpp_tree.declared.faults.ElabFault.{ElabFault}
use Rattle.elab_conv.specs.cpp_tree.declared.faults.IllRule.TheVariants.{BadOperand, NoConversion}
use Rattle.elab_conv.specs.cpp_types.declared.ranks.Cat.TheVariants.{Lvalue, Prvalue}
use Rattle.elab_conv.specs.cpp_tree.declared.kinds.TKind.TheVariants.{Conditional}
use Rattle.elab_conv.specs.cpp_tree.Trees.{Tree, node, three, typ_in}
use Rattle.elab_conv.specs.cpp_tree.Typing.{form_in}
use Rattle.elab_conv.specs.elab_ctx.Ctx.{Ctx}
use Rattle.elab_conv.specs.elab_ctx.Steps.{and_then, check, expect, Operand}
use Rattle.elab_conv.specs.cpp_types.declared.ranks.Conversion.{Conversion}
use Rattle.elab_conv.specs.elab_rules.Values.{valued, stepped, bool_type, retyped, number, in_kind}
use Rattle.elab_conv.specs.elab_rules.Initialising.{conversion}
use Rattle.elab_conv.specs.elab_rules.Operators.{value, as_pointer, arithmetic, is_null, pointed, compared, comparison_by, comparison_in, is_comparison, is_sum}
use Rattle.elab_conv.specs.elab_rules.Operators.{sum_of, arithmetic_of, false_at, true_at}

abbrev pub with_null : BinOp → At → Typ → Operand → Operand → Result Tree ElabFault
with_null op at t a b = and_then (check at BadOperand (is_null b)) (λ y. Ok (compared op ULong at (value a) (as_pointer t b)))

abbrev pub null_with : BinOp → At → Typ → Operand → Operand → Result Tree ElabFault
null_with op at t a b = and_then (check at BadOperand (is_null a)) (λ y. Ok (compared op ULong at (as_pointer t a) (value b)))

abbrev pub is_scoped : Form → Bool
is_scoped (enum n s) = s
is_scoped f = false

-- where none is a pointer
abbrev pub scalars_compared : BinOp → At → Form → Form → Operand → Operand → Result Tree ElabFault
scalars_compared op at f g a b = if is_scoped f then and_then (check at BadOperand (form_eq f g))
    (λ y. Ok (compared op Int at (value a) (value b))) else comparison_by op at (arithmetic f) (arithmetic g) a b

-- an operator by the forms of its operands' values
abbrev pub binary_in : Ctx → BinOp → At → Form → Form → Operand → Operand → Result Tree ElabFault
binary_in c op at f g a b = if is_comparison op then comparison_in op at f g a b else
    (if is_sum op then sum_of c op at (pointed f) (pointed g) a b else arithmetic_of op at (arithmetic f) (arithmetic g) a b)

-- the value of an operand as one of a scalar type
abbrev pub value_initial : Ctx → Typ → Operand → Result Tree ElabFault
value_initial c t o = and_then (expect o.at NoConversion (conversion c t o)) (λ (v : Conversion). Ok (stepped o.at v.step t (valued o.at o.tree)))

-- the object to which a pointer points
abbrev pub object_at : At → Tree → Result Tree ElabFault
object_at at p = and_then (expect at BadOperand (pointed (form_in (typ_in p)))) (λ t. Ok (retyped at t Lvalue p))

-- `&&`, `||` and `!`, whatever is made beside nodes
abbrev pub logical_in : Ctx → Bool → At → Operand → Operand → Result Tree ElabFault
logical_in c is_and at a b = and_then (value_initial c bool_type a)
    (λ x. and_then (value_initial c bool_type b) (λ y. Ok
    (node Conditional bool_type Prvalue at (if is_and then three x y (false_at at) else three x (true_at at) y))))

abbrev pub negation_in : Ctx → At → Operand → Result Tree ElabFault
negation_in c at a = and_then (value_initial c bool_type a) (λ x. Ok (compared Eq Int at (in_kind a.at Int x) (number Int 0 at)))
