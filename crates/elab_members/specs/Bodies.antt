-- Bodies of members, as the code makes them: with what is left behind a function by `left_by` of elab_entry, where elab_rules says `leaving`.
use Rattle.std.specs.Prelude.{ℕ, List, [], Some, Result}
use Rattle.elab_entry.specs.cpp_lex.Tokens.{Lexeme}
use Rattle.elab_entry.specs.cpp_ast.Trees as syntax
use Rattle.elab_entry.specs.cpp_tree.declared.program.FuncKind.{FuncKind}
use Rattle.elab_entry.specs.cpp_tree.declared.program.FuncKind.TheVariants.{Constructor, Destructor}
use Rattle.elab_entry.specs.cpp_tree.declared.faults.ElabFault.{ElabFault}
use Rattle.elab_entry.specs.cpp_tree.Trees.{one}
use Rattle.elab_entry.specs.elab_ctx.Steps.{and_then}
use Rattle.elab_entry.specs.elab_rules.Braces.{syntax_place}
use Rattle.elab_entry.specs.elab_rules.Statements.{State, Done, done, the_tree, Lambdas}
use Rattle.elab_entry.specs.elab_rules.Functions.{Header, with_parameters, defines_well}
use Rattle.elab_entry.specs.elab_rules.Members.{Giving, all_given, parts_built, constructor_tree, destructor_tree, this_type}
use Rattle.elab_entry.specs.Round.{round_function}
use Rattle.elab_entry.specs.Bodies.{statements_in, body_made, function_body}
use Rattle.elab_implicit.specs.Implied.{in_object}

-- what was made inside a function is kept as its body
abbrev pub kept : State → Header → ℕ → Done → Result State ElabFault
kept st h place d = body_made (round_function st) h.at place (the_tree h.at d.trees) d.state

-- the parts of the object, then the block
abbrev pub constructor_block : Lambdas → List Lexeme → Done → syntax.Tree → Result Done ElabFault
constructor_block lams s parts body = and_then (statements_in lams s parts.state body)
    (λ (d : Done). done (one (constructor_tree (syntax_place body) parts.trees d.trees)) d.state)

-- what is written for the parts, the parts, and the block
abbrev pub constructor_given : Lambdas → List Lexeme → State → Header → ℕ → syntax.Trees → syntax.Tree → Result Done ElabFault
constructor_given lams s st h n inits body = and_then (all_given lams s n (record { state = st; given = [] }) inits)
    (λ (g : Giving). and_then (parts_built g.state h.at n g.given) (λ (parts : Done). constructor_block lams s parts body))

-- what a constructor does, in its own scope
abbrev pub constructor_inside : Lambdas → List Lexeme → State → Header → ℕ → syntax.Trees → syntax.Tree → Result Done ElabFault
constructor_inside lams s st h n inits body = and_then (with_parameters s st h.params) (λ (e : State). constructor_given lams s e h n inits body)

abbrev pub constructor_body : Lambdas → List Lexeme → State → Header → ℕ → ℕ → syntax.Trees → syntax.Tree → Result State ElabFault
constructor_body lams s st h n place inits body = and_then (constructor_inside lams s (in_object st n) h n inits body) (kept st h place)

-- what a destructor does, in its own scope
abbrev pub destructor_inside : Lambdas → List Lexeme → State → Header → ℕ → syntax.Tree → Result Done ElabFault
destructor_inside lams s st h n body = and_then (statements_in lams s st body)
    (λ (d : Done). done (one (destructor_tree d.state.ctx h.at (syntax_place body) n d.trees)) d.state)

abbrev pub destructor_body : Lambdas → List Lexeme → State → Header → ℕ → ℕ → syntax.Tree → Result State ElabFault
destructor_body lams s st h n place body = and_then (destructor_inside lams s (in_object st n) h n body) (kept st h place)

-- the body of a member, with what stands between its declarator and that
abbrev pub body_by_kind : Lambdas → List Lexeme → State → ℕ → ℕ → FuncKind → Header → syntax.Trees → syntax.Tree → Result State ElabFault
body_by_kind lams s st n place Constructor h rest body = constructor_body lams s st h n place rest body
body_by_kind lams s st n place Destructor h rest body = destructor_body lams s st h n place body
body_by_kind lams s st n place kind h rest body = function_body lams s st h (Some (this_type n h)) place body

abbrev pub method_body : Lambdas → List Lexeme → State → ℕ → ℕ → FuncKind → Header → syntax.Trees → syntax.Tree → Result State ElabFault
method_body lams s st n place kind h rest body = and_then (defines_well h) (λ y. body_by_kind lams s st n place kind h rest body)
