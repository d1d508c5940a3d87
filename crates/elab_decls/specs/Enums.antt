-- The value that is written for an enumerator, with its place.
use Rattle.std.specs.Prelude.{ℤ, Result, Ok}
use Rattle.cpp_types.specs.declared.classes.At.{At}
use Rattle.elab_expr.specs.cpp_lex.Tokens.{Lexeme}
use Rattle.elab_expr.specs.cpp_ast.Trees as syntax
use Rattle.std.specs.Prelude.{List}
use Rattle.elab_expr.specs.cpp_tree.declared.faults.ElabFault.{ElabFault}
use Rattle.elab_expr.specs.elab_ctx.Ctx.{Ctx, Work}
use Rattle.elab_expr.specs.elab_ctx.Steps.{and_then, Typed}
use Rattle.elab_expr.specs.elab_rules.Expressions.{expression_of, chosen_operand}
use Rattle.elab_expr.specs.elab_rules.Globals.{enumerator_value}
use Rattle.elab_decls.specs.declared.enums.Valued.{Valued as ValuedRec}

pub record Valued : Type 0 where
  pub value : ℤ
  pub at : At

abbrev pub valued_shown : ValuedRec → Valued
valued_shown v = record { value = v.value; at = v.at }

abbrev pub written_value : List Lexeme → Ctx → Work → At → syntax.Tree → Result Valued ElabFault
written_value s c w at t = and_then (and_then (expression_of s c w t) (chosen_operand c))
    (λ (o : Typed). and_then (enumerator_value at w o.operand) (λ (n : ℤ). Ok (record { value = n; at = o.operand.at })))

-- the value of an enumerator: that of the kid behind its name, or the next
abbrev pub found_value : List Lexeme → Ctx → Work → At → ℤ → syntax.Trees → Result Valued ElabFault
found_value s c w at next syntax.none = Ok (record { value = next; at = at })
found_value s c w at next (syntax.more t ts) = written_value s c w at t
