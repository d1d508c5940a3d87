-- Variables with their initialisers, by the form in which that is written.
use Rattle.std.specs.Prelude.{ℕ, Bool, true, List, Option, Some, Result, Err}
use Rattle.elab_scopes.specs.cpp_types.Typ.{Typ}
use Rattle.elab_scopes.specs.cpp_types.declared.classes.At.{At}
use Rattle.elab_scopes.specs.cpp_lex.Tokens.{Lexeme}
use Rattle.elab_scopes.specs.cpp_ast.Trees as syntax
use Rattle.elab_scopes.specs.cpp_tree.declared.faults.ElabFault.{ElabFault}
use Rattle.elab_scopes.specs.cpp_tree.declared.faults.ElabFault.TheVariants.{Ill}
use Rattle.elab_scopes.specs.cpp_tree.declared.faults.IllRule.TheVariants.{OutOfProfile}
use Rattle.elab_scopes.specs.cpp_tree.declared.kinds.TKind.TheVariants as forms
use Rattle.elab_scopes.specs.cpp_tree.Trees.{Tree, more, one}
use Rattle.elab_scopes.specs.elab_ctx.Ctx.{Ctx}
use Rattle.elab_scopes.specs.elab_ctx.Steps.{and_then, Made, TypedAll, at_of, spelling}
use Rattle.elab_scopes.specs.elab_rules.Objects.{destroys}
use Rattle.elab_scopes.specs.elab_rules.Strings.{string_bytes}
use Rattle.elab_scopes.specs.elab_rules.Expressions.{operands_of}
use Rattle.elab_scopes.specs.elab_rules.Braces.{item_of, string_token, string_object, is_char_array, syntax_place}
use Rattle.elab_scopes.specs.elab_rules.Statements.{Lambdas, State, Done, Full, done, statement, full, full_operand, with_work, init_node, all_lambdas}
use Rattle.elab_scopes.specs.elab_rules.Statements.{default_object, copy_initialised, directly_initialised, values_place, initialised}
use Rattle.elab_braces.specs.Forms.{Form, nothing, values, braces, expression, other}

abbrev pub init_in : Ctx → Typ → At → At → Tree → Tree → Tree
init_in c t at p variable init = statement forms.Init at (more variable (more (full p init) (destroys c at t)))

-- what an expression makes, behind its lambdas
abbrev pub expression_made : Typ → At → Tree → Full → Result Done ElabFault
expression_made t at variable f = initialised f.state t at variable f (copy_initialised f.state.ctx f.state.work t f.operand)

abbrev pub by_value_in : Lambdas → List Lexeme → Tree → State → Typ → At → syntax.Tree → Result Done ElabFault
by_value_in lams s variable v t at e = and_then (full_operand lams s v e) (λ (f : Full). expression_made t at variable f)

abbrev pub by_string_in : List Lexeme → Tree → State → Typ → At → At → ℕ → Result Done ElabFault
by_string_in s variable v t at p n = and_then (string_object v.ctx t p (string_bytes (spelling s n)))
    (λ (e : Tree). done (one (init_node v t at p variable e)) v)

abbrev pub by_expression_in : Lambdas → List Lexeme → Tree → State → Typ → At → syntax.Tree → Bool → Option ℕ → Result Done ElabFault
by_expression_in lams s variable v t at e true (Some n) = by_string_in s variable v t at (syntax_place e) n
by_expression_in lams s variable v t at e b o = by_value_in lams s variable v t at e

-- values that were read
abbrev pub values_made : State → Typ → At → Tree → At → TypedAll → Result Done ElabFault
values_made x t at variable p xs = and_then (directly_initialised x.ctx xs.work t at xs.operands)
    (λ (m : Made). done (one (init_node x t at (values_place t at xs.operands) variable m.tree)) (with_work x m.work))

abbrev pub values_read : List Lexeme → Tree → State → Typ → At → At → syntax.Trees → Result Done ElabFault
values_read s variable x t at p es = and_then (operands_of s x.ctx x.work es) (λ (xs : TypedAll). values_made x t at variable p xs)

abbrev pub kids_read : List Lexeme → Tree → State → Typ → At → syntax.Tree → Result Done ElabFault
kids_read s variable x t at (syntax.node kind p token es) = values_read s variable x t at (at_of p) es

abbrev pub by_values_in : Lambdas → List Lexeme → Tree → State → Typ → At → syntax.Tree → Result Done ElabFault
by_values_in lams s variable v t at (syntax.node kind p token es) =
    and_then (all_lambdas lams s v es) (λ (x : State). values_read s variable x t at (at_of p) es)

abbrev pub braces_made : List Lexeme → Tree → State → Typ → At → syntax.Tree → Result Done ElabFault
braces_made s variable x t at b = and_then (item_of s x.ctx x.work variable t b)
    (λ (m : Made). done (one (init_node x t at (syntax_place b) variable m.tree)) (with_work x m.work))

abbrev pub by_braces_in : Lambdas → List Lexeme → Tree → State → Typ → At → syntax.Tree → Result Done ElabFault
by_braces_in lams s variable v t at (syntax.node kind q brace items) =
    and_then (all_lambdas lams s v items) (λ (x : State). braces_made s variable x t at (syntax.node kind q brace items))

abbrev pub nothing_made : Tree → State → Typ → At → Result Done ElabFault
nothing_made variable v t at = and_then (default_object v.ctx t at) (λ (e : Tree). done (one (init_node v t at at variable e)) v)

-- the initialiser of a variable that stands where a tree says
abbrev pub initialised_by : Lambdas → List Lexeme → Tree → State → Typ → At → Form → Result Done ElabFault
initialised_by lams s variable v t at nothing = nothing_made variable v t at
initialised_by lams s variable v t at (values x) = by_values_in lams s variable v t at x
initialised_by lams s variable v t at (braces x) = by_braces_in lams s variable v t at x
initialised_by lams s variable v t at (expression e) = by_expression_in lams s variable v t at e (is_char_array t) (string_token e)
initialised_by lams s variable v t at other = Err (Ill at OutOfProfile)
