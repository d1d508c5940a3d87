-- Parameters, step by step.
use Rattle.std.specs.Prelude.{ℕ, List, Result, Ok}
use Rattle.cpp_types.specs.Typ.{Typ}
use Rattle.cpp_types.specs.Class.{held}
use Rattle.cpp_types.specs.declared.classes.At.{At}
use Rattle.elab_stmt.specs.cpp_lex.Tokens.{Lexeme}
use Rattle.elab_stmt.specs.cpp_tree.declared.faults.ElabFault.{ElabFault}
use Rattle.elab_stmt.specs.cpp_tree.declared.faults.IllRule.TheVariants.{Redeclared, Incomplete}
use Rattle.elab_stmt.specs.elab_ctx.Steps.{and_then, check, spelling}
use Rattle.elab_stmt.specs.elab_rules.Operators.{is_complete}
use Rattle.elab_stmt.specs.elab_rules.Statements.{State, is_fresh}
use Rattle.elab_stmt.specs.elab_rules.Types.{Parameter}
use Rattle.elab_stmt.specs.elab_rules.Functions.{with_parameter, parameter_named}

-- a parameter with the name that a token spells
abbrev pub named_parameter : List Lexeme → State → At → Typ → ℕ → Result State ElabFault
named_parameter s st at t n = and_then (check at Redeclared (is_fresh st.ctx (spelling s n))) (λ y. Ok (with_parameter st (spelling s n) t))

abbrev pub one_parameter : List Lexeme → State → Parameter → Result State ElabFault
one_parameter s st p = and_then (check p.at Incomplete (is_complete st.ctx (held p.typ))) (λ y. parameter_named s st p p.name)
