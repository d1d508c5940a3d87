-- What answers that are operands say of what is to be answered.
use Rattle.std.specs.Prelude.{◌≡◌, ◌<◌, List, map, Result, Ok, Err, true, length, Vec}
use Rattle.std.specs.declared.alloc.Global.{Global}
use Rattle.elab_casts.specs.cpp_tree.declared.faults.ElabFault.{ElabFault}
use Rattle.elab_casts.specs.cpp_tree.Trees.{Tree}
use Rattle.elab_casts.specs.cpp_tree.Arena.{Grows}
use Rattle.elab_casts.specs.elab_ctx.Ctx.{Work}
use Rattle.elab_casts.specs.elab_ctx.Steps.{Typed, TypedAll}
use Rattle.elab_casts.specs.elab_ctx.Operands.{operand_in, operands_in, are_in}
use Rattle.elab_casts.specs.elab_ctx.Says.{Faults}
use Rattle.elab_casts.specs.elab_ctx.declared.operand.Operand.{Operand as OperandRec}
use Rattle.elab_casts.specs.elab_rules.Types.{Parameter}
use Rattle.elab_types.specs.Shown.{parameter_of}
use Rattle.elab_types.specs.declared.records.Parameter.{Parameter as ParameterRec}

-- an operand was made of what is to be answered, or stood there before
pub record TypedAt (old new : List Tree) (work : Work) (o : OperandRec) (x : Result Typed ElabFault) : Type 0 where
  pub grows : Grows old new
  pub within : o.id.0 < length new
  pub is : x ≡ Ok (record { operand = operand_in new o; work = work })

abbrev pub Types : List Tree → List Tree → Work → Result OperandRec ElabFault → Result Typed ElabFault → Type 0
Types old new work (Ok o) x = TypedAt old new work o x
Types old new work (Err e) x = Faults e x

-- the same of several operands
pub record AllTyped (old new : List Tree) (work : Work) (os : List OperandRec) (x : Result TypedAll ElabFault) : Type 0 where
  pub grows : Grows old new
  pub within : are_in (length new) os ≡ true
  pub is : x ≡ Ok (record { operands = operands_in new os; work = work })

abbrev pub TypesAll : List Tree → List Tree → Work → Result (Vec OperandRec Global) ElabFault → Result TypedAll ElabFault → Type 0
TypesAll old new work (Ok v) x = AllTyped old new work v.items x
TypesAll old new work (Err e) x = Faults e x

abbrev pub parameters_of : Vec ParameterRec Global → List Parameter
parameters_of v = map parameter_of v.items
