-- What the operands of the code show.
use Rattle.std.specs.Prelude.{ℕ, Bool, nat_lt, List, map}
use Rattle.std.specs.List.{list_all}
use Rattle.cpp_tree.specs.Trees.{Tree}
use Rattle.cpp_tree.specs.Arena.{tree_at}
use Rattle.elab_ctx.specs.Steps.{Operand}
use Rattle.elab_ctx.specs.declared.operand.Operand.{Operand as OperandRec}

abbrev pub operand_in : List Tree → OperandRec → Operand
operand_in trees o = record { tree = tree_at trees o.id; at = o.at; zero = o.zero }

abbrev pub operands_in : List Tree → List OperandRec → List Operand
operands_in trees os = map (operand_in trees) os

-- each stands among the first trees
abbrev pub are_in : ℕ → List OperandRec → Bool
are_in n os = list_all (λ (o : OperandRec). nat_lt o.id.0 n) os
