-- Parts of rows, as functions of what they read.
use Rattle.std.specs.Prelude.{Bool, ◌&&◌, ◌||◌, Option, Some, None, is_some, Result, Ok, if◌then◌else◌, ℕ}
use Rattle.elab_make.specs.cpp_types.Typ.{Typ, Form, ptr}
use Rattle.elab_make.specs.cpp_types.Equal.{form_eq}
use Rattle.elab_make.specs.cpp_types.declared.classes.At.{At}
use Rattle.elab_make.specs.cpp_types.declared.ranks.Cat.TheVariants.{Prvalue}
use Rattle.elab_make.specs.cpp_tree.declared.faults.ElabFault.{ElabFault}
use Rattle.elab_make.specs.cpp_tree.declared.faults.IllRule.TheVariants.{BadOperand}
use Rattle.elab_make.specs.cpp_tree.Trees.{Tree, typ_in}
use Rattle.elab_make.specs.cpp_tree.Notation.{plain}
use Rattle.elab_make.specs.cpp_tree.Typing.{form_in, unqualified, is_void, kind_in}
use Rattle.elab_make.specs.elab_ctx.Ctx.{Ctx, Work}
use Rattle.elab_make.specs.elab_ctx.Steps.{and_then, check, Operand, Made}
use Rattle.elab_make.specs.elab_rules.Values.{bool_type}
use Rattle.elab_make.specs.elab_rules.Initialising.{initial, as_source, with_tree}
use Rattle.elab_make.specs.elab_rules.Operators.{value, arithmetic, as_pointer, is_null, assigned, same_lvalues, conditional_node, two_numbers}
use Rattle.elab_make.specs.elab_rules.Operators.{branches, bare_throw, settled, conditional_like, both_of_class, two_objects, two_values}
use Rattle.elab_make.specs.elab_rules.Operators.{value_form, same_work, is_shared, shared}
use Rattle.elab_ops.specs.Forms.{value_initial}

-- Assignments

-- an operand that is no class object and is assigned another
abbrev pub scalar_assigned : Ctx → Work → At → Operand → Operand → Result Made ElabFault
scalar_assigned c w at a b = and_then (check at BadOperand (is_some (kind_in (form_in (typ_in a.tree)))))
    (λ x. and_then (initial c w (unqualified (typ_in a.tree)) b)
    (λ (m : Made). and_then (assigned at (kind_in (form_in (typ_in a.tree))) a m.tree) (λ (t : Tree). Ok (record { tree = t; work = m.work }))))

-- an object as one of a class, where one is given
abbrev pub as_object : At → Option ℕ → Tree → Tree
as_object at (Some n) e = as_source at n e
as_object at None e = e

-- `? :`

-- operands that stay as they are
abbrev pub both_stay : Operand → Operand → Bool
both_stay a b = same_lvalues a b || (is_void (typ_in a.tree) && is_void (typ_in b.tree))

-- a pointer and a null pointer
abbrev pub value_or_null : At → Tree → Typ → Operand → Operand → Result Tree ElabFault
value_or_null at test t a b = and_then (check at BadOperand (is_null b)) (λ y. Ok (conditional_node at (plain (ptr t)) Prvalue test (value a) (as_pointer t b)))

-- a null pointer and a pointer
abbrev pub null_or_value : At → Tree → Typ → Operand → Operand → Result Tree ElabFault
null_or_value at test t a b = and_then (check at BadOperand (is_null a)) (λ y. Ok (conditional_node at (plain (ptr t)) Prvalue test (as_pointer t a) (value b)))

abbrev pub same_scalars : Form → Form → Bool
same_scalars f g = form_eq f g && is_some (kind_in f)

-- where none is a pointer
abbrev pub two_scalars : At → Tree → Form → Form → Operand → Operand → Result Tree ElabFault
two_scalars at test f g a b = if same_scalars f g then Ok (conditional_node at (plain f) Prvalue test (value a) (value b)) else two_numbers at test
    (arithmetic f) (arithmetic g) a b

-- an operand beside one that throws, and the other way about
abbrev pub beside_throw : Ctx → Work → At → Tree → Operand → Operand → Made
beside_throw c w at test a b = with_tree (λ (x : Tree). conditional_like at x test x (bare_throw b.tree)) (settled c w a)

abbrev pub behind_throw : Ctx → Work → At → Tree → Operand → Operand → Made
behind_throw c w at test a b = with_tree (λ (y : Tree). conditional_like at y test (bare_throw a.tree) y) (settled c w b)

-- where none throws
abbrev pub two_operands : Ctx → Work → At → Tree → Operand → Operand → Result Made ElabFault
two_operands c w at test a b = if both_stay a b then Ok (record { tree = conditional_like at a.tree test a.tree b.tree; work = w }) else (
    if is_shared a b then Ok (record { tree = shared at test a b; work = w }) else (
    if both_of_class a b then two_objects c w at test a b else same_work w (two_values at test (value_form a) (value_form b) a b)))

-- by the value of the test
abbrev pub conditional_by : Ctx → Work → At → Operand → Operand → Operand → Result Made ElabFault
conditional_by c w at test a b = and_then (value_initial c bool_type test) (λ (t : Tree). branches c w at t a b)
