-- What is made of a full-expression, and what it is made of.
use Rattle.std.specs.Prelude.{Result, Ok, false, if◌then◌else◌}
use Rattle.elab_expr.specs.cpp_types.Typ.{Typ}
use Rattle.elab_expr.specs.cpp_types.declared.classes.At.{At}
use Rattle.elab_expr.specs.cpp_tree.declared.faults.ElabFault.{ElabFault}
use Rattle.elab_expr.specs.cpp_tree.Trees.{Tree, typ_in}
use Rattle.elab_expr.specs.cpp_tree.Typing.{form_in}
use Rattle.elab_expr.specs.elab_ctx.Steps.{and_then}
use Rattle.elab_expr.specs.elab_rules.Values.{place_of}
use Rattle.elab_expr.specs.elab_rules.Operators.{value, truth, dropped, without_value}
use Rattle.elab_expr.specs.elab_rules.Statements.{Done, Full, Switched, full, full_made, throws_object, switched_type, switch_value}

-- what stands in a full-expression
abbrev pub without_object : Tree → Tree
without_object e = if throws_object e then without_value (place_of e) e else e

abbrev pub dropped_whole : Full → Result Done ElabFault
dropped_whole f = full_made f (Ok (dropped f.state.ctx f.state.work f.operand))

abbrev pub truth_whole : Full → Result Done ElabFault
truth_whole f = full_made f (and_then (truth f.state.ctx f.state.work f.operand) (λ (t : Tree). Ok (record { tree = t; work = f.state.work })))

abbrev pub switched_on : Full → Result Switched ElabFault
switched_on f = and_then (switched_type f.operand.at (form_in (typ_in (value f.operand))))
    (λ (t : Typ). Ok (record { value = full f.operand.at (switch_value t (value f.operand) f.operand); typ = t; state = f.state }))

-- a value in the type of a `switch`, by its place
abbrev pub value_at : At → Typ → Tree → Tree
value_at at t e = switch_value t e (record { tree = e; at = at; zero = false })
