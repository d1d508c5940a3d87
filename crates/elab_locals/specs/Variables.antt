-- Variables of blocks, step by step.
use Rattle.std.specs.Prelude.{ℕ, ◌-◌, ◌&&◌, List, length, Option, None, Result}
use Rattle.elab_scopes.specs.cpp_types.Typ.{Typ}
use Rattle.elab_scopes.specs.cpp_types.declared.classes.At.{At}
use Rattle.elab_scopes.specs.cpp_lex.Tokens.{Lexeme}
use Rattle.elab_scopes.specs.cpp_ast.Trees as syntax
use Rattle.elab_scopes.specs.cpp_tree.declared.faults.ElabFault.{ElabFault}
use Rattle.elab_scopes.specs.cpp_tree.declared.faults.IllRule.TheVariants.{Redeclared, TypeDiffers, BadInit, BadDeclaration}
use Rattle.elab_scopes.specs.cpp_tree.Trees.{Tree, one}
use Rattle.elab_scopes.specs.elab_ctx.Steps.{and_then, expect, check, Made}
use Rattle.elab_scopes.specs.elab_rules.Operators.{within_if_sized}
use Rattle.elab_scopes.specs.elab_rules.Sizes.{typ_sized}
use Rattle.elab_scopes.specs.elab_rules.Statements.{Lambdas, State, Done, Full, Deduction, done, full_operand, with_work, init_node, variable_tree}
use Rattle.elab_scopes.specs.elab_rules.Statements.{declared_variable, placed_variable, auto_placed, copy_initialised, deduced_type, replaced, same_deduction}
use Rattle.elab_scopes.specs.elab_rules.Statements.{with_auto, is_fresh, declarable, only_expression}
use Rattle.elab_scopes.specs.elab_rules.Types.{is_bounded}
use Rattle.elab_braces.specs.Forms.{form_of}
use Rattle.elab_locals.specs.Inits.{initialised_by}

-- the node of a variable of a deduced type, behind which it has its item
abbrev pub auto_node : State → ℕ → Typ → At → At → Tree → Result Done ElabFault
auto_node st i t at p init = done (one (init_node st t at p (variable_tree (with_work st st.work) t at) init)) (auto_placed (with_work st st.work) i t)

abbrev pub auto_of_type : ℕ → Typ → At → Full → Result Done ElabFault
auto_of_type i t at f = and_then (copy_initialised f.state.ctx f.state.work t f.operand)
    (λ (m : Made). done (one (init_node f.state t at f.operand.at (variable_tree (with_work f.state m.work) t at) m.tree))
    (auto_placed (with_work f.state m.work) i t))

abbrev pub auto_from : ℕ → Typ → At → Option Typ → Full → Result Deduction ElabFault
auto_from i t at before f = and_then (deduced_type at t f.operand)
    (λ (u : Typ). and_then (check at TypeDiffers (same_deduction before u)) (λ y. with_auto u (auto_of_type i (replaced u t) at f)))

-- the last variable, whose initialiser is read
abbrev pub auto_declared : Lambdas → List Lexeme → State → Typ → At → Option Typ → syntax.Tree → Result Deduction ElabFault
auto_declared lams s st t at before e = and_then (full_operand lams s st e) (λ (f : Full). auto_from (length st.ctx.variables - 1) t at before f)

abbrev pub auto_read : Lambdas → List Lexeme → State → List ℕ → Typ → At → Option Typ → syntax.Trees → Result Deduction ElabFault
auto_read lams s st name t at before init = and_then (check at Redeclared (is_fresh st.ctx name))
    (λ y. and_then (expect at BadInit (only_expression init)) (λ (e : syntax.Tree). auto_declared lams s (declared_variable st name None) t at before e))

-- a variable of a type that is known, which is declared
abbrev pub plain_made : Lambdas → List Lexeme → Tree → State → Typ → At → syntax.Trees → Result Done ElabFault
plain_made lams s variable v t at init = and_then (declarable v.ctx at t)
    (λ x. and_then (check at BadDeclaration (is_bounded t))
    (λ z. and_then (typ_sized v.ctx.classes at t)
    (λ y. and_then (within_if_sized v.ctx at t) (λ w. initialised_by lams s variable v t at (form_of init)))))

abbrev pub plain_read : Lambdas → List Lexeme → State → List ℕ → Typ → At → syntax.Trees → Result Done ElabFault
plain_read lams s st name t at init = and_then (check at Redeclared (is_fresh st.ctx name))
    (λ y. plain_made lams s (variable_tree st t at) (placed_variable st name t) t at init)
