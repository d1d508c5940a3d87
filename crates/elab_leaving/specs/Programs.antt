-- The typed program of some units as the code makes it, and what `elaborate` says of it. Declarations are those of `Declaring`; the rest is `Programs` of
-- elab_rules.
use Rattle.std.specs.Prelude.{ℕ, suc, List, [], ◌∷◌, Result, Ok}
use Rattle.elab_rules.specs.cpp_lex.Tokens.{Lexeme}
use Rattle.elab_rules.specs.cpp_ast.Trees as syntax
use Rattle.elab_rules.specs.cpp_tree.declared.faults.ElabFault.{ElabFault}
use Rattle.elab_rules.specs.cpp_tree.Units.{TypedProgram}
use Rattle.elab_rules.specs.elab_ctx.Ctx.{Traits}
use Rattle.elab_rules.specs.elab_ctx.Steps.{and_then}
use Rattle.elab_rules.specs.Functions.{no_storage}
use Rattle.elab_rules.specs.Statements.{State}
use Rattle.elab_rules.specs.Programs.{Source, start_behind, with_unit}
use Rattle.elab_implicit.specs.Implied.{with_implied}
use Rattle.elab_leaving.specs.Declaring.{declarations_of}

-- The program

-- the declarations of a unit in order, and the bodies of the implicit members to which they refer
abbrev pub unit_from : List Lexeme → State → syntax.Trees → Result State ElabFault
unit_from s st decls = and_then (declarations_of s no_storage st decls) with_implied

abbrev pub program_from : ℕ → TypedProgram → List Traits → List Source → Result TypedProgram ElabFault
program_from i p traits [] = Ok p
program_from i p traits (x ∷ xs) = and_then (unit_from x.tokens (start_behind i p traits) x.decls)
    (λ (st : State). program_from (suc i) (with_unit p x st) st.ctx.traits xs)

abbrev pub no_units : TypedProgram
no_units = record { units = []; classes = []; slots = [] }

-- the typed program of all units, or the first fault
abbrev pub program_of : List Source → Result TypedProgram ElabFault
program_of xs = program_from 0 no_units [] xs
