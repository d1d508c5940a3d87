-- Parts of rows, as functions of what they read.
use Rattle.std.specs.Prelude.{Bool, not, ◌&&◌, List, [], ◌∷◌, is_some, Result, Ok, Err, if◌then◌else◌}
use Rattle.elab_forms.specs.cpp_types.Typ.{Typ, void}
use Rattle.elab_forms.specs.cpp_types.declared.classes.At.{At}
use Rattle.elab_forms.specs.cpp_types.declared.ranks.Cat.TheVariants.{Prvalue}
use Rattle.elab_forms.specs.cpp_tree.declared.faults.ElabFault.{ElabFault}
use Rattle.elab_forms.specs.cpp_tree.declared.faults.ElabFault.TheVariants.{Ill}
use Rattle.elab_forms.specs.cpp_tree.declared.faults.IllRule.TheVariants.{BadInit, BadThrow}
use Rattle.elab_forms.specs.cpp_tree.declared.kinds.TKind.TheVariants.{Literal, Retype}
use Rattle.elab_forms.specs.tx_ints.declared.kinds.IntKind.TheVariants.{ULong}
use Rattle.elab_forms.specs.cpp_tree.Trees.{Tree, node, none, one, typ_in}
use Rattle.elab_forms.specs.cpp_tree.Notation.{plain}
use Rattle.elab_forms.specs.cpp_tree.Typing.{form_in, unqualified, is_class_typ, is_void, is_reference, kind_in}
use Rattle.elab_forms.specs.elab_ctx.Ctx.{Ctx, Work}
use Rattle.elab_forms.specs.elab_ctx.Steps.{and_then, check, Operand, Made}
use Rattle.elab_forms.specs.elab_rules.Values.{converted, number, retyped}
use Rattle.elab_forms.specs.elab_rules.Initialising.{initial, from_values, with_tree}
use Rattle.elab_forms.specs.elab_rules.Operators.{dropped, without_value}
use Rattle.elab_forms.specs.elab_rules.Casts.{is_numeric, as_expression, is_thrown_scalar, throw_node, throw_in}

-- a value as one of a scalar type
abbrev pub value_cast : Ctx → Work → At → Typ → Tree → Bool → Result Made ElabFault
value_cast c w at t v zero = if is_numeric (form_in (typ_in v)) && is_numeric (form_in t) then Ok (record { tree = converted at t v; work = w })
    else initial c w (unqualified t) (record { tree = v; at = at; zero = zero })

-- an object of class type as an expression, from values in parentheses
abbrev pub class_made : Ctx → Work → At → Typ → List Operand → Result Made ElabFault
class_made c w at t os = and_then (from_values c w t at os) (λ (m : Made). Ok (with_tree (as_expression at t) m))

-- `T()` of a type that is no class
abbrev pub zero_made : Work → At → Typ → Result Made ElabFault
zero_made w at t = if is_void t then Ok (record { tree = node Retype (plain void) Prvalue at (one (number ULong 0 at)); work = w }) else and_then
    (check at BadInit (is_some (kind_in (form_in t)) && not (is_reference t))) (λ y. Ok (record { tree = node (Literal 0) (unqualified t) Prvalue at none; work = w }))

-- `T(a, b, ..)` of any number of values but one
abbrev pub many_made : Ctx → Work → At → Typ → List Operand → Result Made ElabFault
many_made c w at t [] = if is_class_typ t then class_made c w at t [] else zero_made w at t
many_made c w at t (o ∷ os) = if is_class_typ t then class_made c w at t (o ∷ os) else Err (Ill at BadInit)

-- a cast to `void`
abbrev pub void_made : Ctx → Work → At → Operand → Made
void_made c w at o = with_tree (λ (e : Tree). retyped at (plain void) Prvalue e) (dropped c w o)

-- `throw`

-- a value that is thrown
abbrev pub value_thrown : Ctx → Work → At → Tree → Result Made ElabFault
value_thrown c w at v = and_then (check at BadThrow (is_thrown_scalar (form_in (typ_in v))))
    (λ y. Ok (record { tree = throw_node c at (typ_in v) v; work = w }))

-- `throw` of an operand, which has no value
abbrev pub one_thrown : Ctx → Work → At → Operand → Result Made ElabFault
one_thrown c w at o = and_then (throw_in c w at (form_in (typ_in o.tree)) o) (λ (m : Made). Ok (with_tree (without_value at) m))
