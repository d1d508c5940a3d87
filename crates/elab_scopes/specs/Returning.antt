-- `return`, step by step.
use Rattle.std.specs.Prelude.{false, Option, Some, None, Result}
use Rattle.elab_expr.specs.cpp_types.Typ.{Typ}
use Rattle.elab_expr.specs.cpp_types.declared.classes.At.{At}
use Rattle.elab_expr.specs.cpp_tree.declared.faults.ElabFault.{ElabFault}
use Rattle.elab_expr.specs.cpp_tree.declared.faults.IllRule.TheVariants.{BadReturn}
use Rattle.elab_expr.specs.cpp_tree.declared.kinds.TKind.TheVariants as forms
use Rattle.elab_expr.specs.cpp_tree.Trees.{Tree, none, one, two, typ_in}
use Rattle.elab_expr.specs.cpp_tree.Typing.{is_void, unqualified}
use Rattle.elab_expr.specs.elab_ctx.Ctx.{Returns, known, deduced}
use Rattle.elab_expr.specs.elab_ctx.Steps.{and_then, check, Made}
use Rattle.elab_expr.specs.elab_rules.Initialising.{initial, class_from}
use Rattle.elab_expr.specs.elab_rules.Operators.{value, bare_throw}
use Rattle.elab_expr.specs.elab_rules.Statements.{State, Done, Full, done, full, with_work, statement, return_node, result_object, result_of, with_deduced, same_deduction}

abbrev pub void_returned : At → At → Tree → Tree
void_returned at place e = statement (forms.Block false) at (two (full place e) (return_node at none))

abbrev pub return_void : At → Full → Result Done ElabFault
return_void at f = and_then (check at BadReturn (is_void (typ_in f.operand.tree)))
    (λ y. done (one (void_returned at f.operand.at (bare_throw f.operand.tree))) f.state)

abbrev pub object_built : At → Typ → At → Tree → Tree
object_built at t place e = statement forms.Init at (two (result_object t at) (full place e))

abbrev pub object_returned : At → Typ → At → Tree → Tree
object_returned at t place e = statement (forms.Block false) at (two (object_built at t place e) (return_node at none))

abbrev pub return_object : At → Typ → Full → Result Done ElabFault
return_object at t f = and_then (class_from f.state.ctx f.state.work t f.operand.at f.operand)
    (λ (m : Made). done (one (object_returned at t f.operand.at m.tree)) (with_work f.state m.work))

abbrev pub scalar_returned : At → At → Typ → Tree → Tree
scalar_returned at place t e = return_node at (one (full place (result_of t place e)))

abbrev pub return_scalar : At → Typ → Full → Result Done ElabFault
return_scalar at t f = and_then (initial f.state.ctx f.state.work t f.operand)
    (λ (m : Made). done (one (scalar_returned at f.operand.at t m.tree)) (with_work f.state m.work))

abbrev pub return_known : Returns → Option Typ
return_known (known t) = Some t
return_known (deduced t) = None

-- the type of a result that is deduced; where it is known, nothing is asked
abbrev pub return_deduced : At → State → Returns → Typ → Result Done ElabFault
return_deduced at st (known t) u = done none st
return_deduced at st (deduced t) u = and_then (check at BadReturn (same_deduction t u)) (λ y. done (one (return_node at none)) (with_deduced st (Some u)))

abbrev pub return_deduced_by : At → Full → Returns → Result Done ElabFault
return_deduced_by at f r = return_deduced at f.state r (unqualified (typ_in (value f.operand)))
