-- The tests hold for the production of each form that reads its tokens.
use Rattle.std.proofs.Common.{◌≡◌, ℕ, zero, suc, nat_eq, Bool, true, false, not, ◌&&◌, refl, arith}
use Rattle.std.proofs.lemmas.Bool.{and_from}
use Rattle.cpp_syntax.specs.Terminals.{level_of}
use Rattle.cpp_syntax.specs.Rules.{whole, by_shape, named, unnamed, either, in_block, qualified, plain, Nonterminal, primary_expression, lambda_expression}
use Rattle.cpp_syntax.specs.Rules.{lambda_introducer, lambda_declarator, functional_type, expression_list, postfix_expression, unary_expression}
use Rattle.cpp_syntax.specs.Rules.{cast_expression, binary_expression, conditional_expression, assignment_expression, expression, type_specifier}
use Rattle.cpp_syntax.specs.Rules.{type_specifier_seq, type_id, declarator, direct_declarator, parameter_declaration, parameter_declaration_clause}
use Rattle.cpp_syntax.specs.Rules.{function_qualifiers, balanced, braced_init_list, initializer, init_declarator, block_declaration, shaped_choice}
use Rattle.cpp_syntax.specs.Rules.{shaped_init_declarator, shaped_declaration, compound_statement, statement, for_init_statement, handler}
use Rattle.cpp_syntax.specs.Rules.{enumerator_definition, declaration_head, simple_declaration, constructor_declarator, destructor_declarator}
use Rattle.cpp_syntax.specs.Rules.{member_initializer, member_declarator, initialized_member, listed_member, member_declaration, declaration, translation_unit}
use Rattle.cpp_syntax.specs.Grammar.{production}
use Rattle.cpp_syntax.proofs.TerminalTables.{implies}
use Rattle.elab_read_texts.proofs.CalmRules.{is_read, is_plain, is_calm, calms, reads_plainly, reads_named}

level_four : (b : Bool) → b ≡ false → (not b && not b && not b && not b) ≡ true
level_four true h = absurd cc
level_four false h = refl

level_calm : (n : ℕ) → is_calm (λ s. nat_eq (level_of s) (suc n)) ≡ true
level_calm n = level_four (nat_eq 0 (suc n)) (grind arith)

level_then : (n : ℕ) → (is_calm (λ s. nat_eq (level_of s) (suc n)) && true) ≡ true
level_then n = and_from (is_calm (λ s. nat_eq (level_of s) (suc n))) true (level_calm n) refl

level_twice : (n : ℕ) → ((is_calm (λ s. nat_eq (level_of s) (suc n)) && true) && (is_calm (λ s. nat_eq (level_of s) (suc n)) && true)) ≡ true
level_twice n =
    and_from (is_calm (λ s. nat_eq (level_of s) (suc n)) && true) (is_calm (λ s. nat_eq (level_of s) (suc n)) && true) (level_then n) (level_then n)

pub calms_holds : (f : Nonterminal) → implies (is_read f) (calms (production f) true) ≡ true
calms_holds primary_expression = refl
calms_holds lambda_expression = refl
calms_holds lambda_introducer = refl
calms_holds lambda_declarator = refl
calms_holds functional_type = refl
calms_holds expression_list = refl
calms_holds postfix_expression = refl
calms_holds unary_expression = refl
calms_holds cast_expression = refl
calms_holds (binary_expression zero) = refl
calms_holds (binary_expression (suc n)) = level_then n
calms_holds conditional_expression = refl
calms_holds assignment_expression = refl
calms_holds expression = refl
calms_holds (type_specifier whole) = refl
calms_holds (type_specifier by_shape) = refl
calms_holds (type_specifier_seq whole) = refl
calms_holds (type_specifier_seq by_shape) = refl
calms_holds (type_id whole) = refl
calms_holds (type_id by_shape) = refl
calms_holds (declarator whole named) = refl
calms_holds (declarator whole unnamed) = refl
calms_holds (declarator whole either) = refl
calms_holds (declarator whole in_block) = refl
calms_holds (declarator by_shape named) = refl
calms_holds (declarator by_shape unnamed) = refl
calms_holds (declarator by_shape either) = refl
calms_holds (declarator by_shape in_block) = refl
calms_holds (direct_declarator whole named) = refl
calms_holds (direct_declarator whole unnamed) = refl
calms_holds (direct_declarator whole either) = refl
calms_holds (direct_declarator whole in_block) = refl
calms_holds (direct_declarator by_shape named) = refl
calms_holds (direct_declarator by_shape unnamed) = refl
calms_holds (direct_declarator by_shape either) = refl
calms_holds (direct_declarator by_shape in_block) = refl
calms_holds (parameter_declaration whole) = refl
calms_holds (parameter_declaration by_shape) = refl
calms_holds (parameter_declaration_clause whole) = refl
calms_holds (parameter_declaration_clause by_shape) = refl
calms_holds function_qualifiers = refl
calms_holds balanced = refl
calms_holds braced_init_list = refl
calms_holds initializer = refl
calms_holds (init_declarator named) = refl
calms_holds (init_declarator unnamed) = refl
calms_holds (init_declarator either) = refl
calms_holds (init_declarator in_block) = refl
calms_holds block_declaration = refl
calms_holds shaped_choice = refl
calms_holds shaped_init_declarator = refl
calms_holds shaped_declaration = refl
calms_holds compound_statement = refl
calms_holds statement = refl
calms_holds for_init_statement = refl
calms_holds handler = refl
calms_holds enumerator_definition = refl
calms_holds declaration_head = refl
calms_holds simple_declaration = refl
calms_holds (constructor_declarator qualified) = refl
calms_holds (constructor_declarator plain) = refl
calms_holds (destructor_declarator qualified) = refl
calms_holds (destructor_declarator plain) = refl
calms_holds member_initializer = refl
calms_holds member_declarator = refl
calms_holds initialized_member = refl
calms_holds listed_member = refl
calms_holds member_declaration = refl
calms_holds declaration = refl
calms_holds translation_unit = refl

pub plainly_holds : (f : Nonterminal) → implies (is_plain f) (reads_plainly (production f) true) ≡ true
plainly_holds primary_expression = refl
plainly_holds lambda_expression = refl
plainly_holds lambda_introducer = refl
plainly_holds lambda_declarator = refl
plainly_holds functional_type = refl
plainly_holds expression_list = refl
plainly_holds postfix_expression = refl
plainly_holds unary_expression = refl
plainly_holds cast_expression = refl
plainly_holds (binary_expression zero) = refl
plainly_holds (binary_expression (suc n)) = level_twice n
plainly_holds conditional_expression = refl
plainly_holds assignment_expression = refl
plainly_holds expression = refl
plainly_holds (type_specifier whole) = refl
plainly_holds (type_specifier by_shape) = refl
plainly_holds (type_specifier_seq whole) = refl
plainly_holds (type_specifier_seq by_shape) = refl
plainly_holds (type_id whole) = refl
plainly_holds (type_id by_shape) = refl
plainly_holds (declarator whole named) = refl
plainly_holds (declarator whole unnamed) = refl
plainly_holds (declarator whole either) = refl
plainly_holds (declarator whole in_block) = refl
plainly_holds (declarator by_shape named) = refl
plainly_holds (declarator by_shape unnamed) = refl
plainly_holds (declarator by_shape either) = refl
plainly_holds (declarator by_shape in_block) = refl
plainly_holds (direct_declarator whole named) = refl
plainly_holds (direct_declarator whole unnamed) = refl
plainly_holds (direct_declarator whole either) = refl
plainly_holds (direct_declarator whole in_block) = refl
plainly_holds (direct_declarator by_shape named) = refl
plainly_holds (direct_declarator by_shape unnamed) = refl
plainly_holds (direct_declarator by_shape either) = refl
plainly_holds (direct_declarator by_shape in_block) = refl
plainly_holds (parameter_declaration whole) = refl
plainly_holds (parameter_declaration by_shape) = refl
plainly_holds (parameter_declaration_clause whole) = refl
plainly_holds (parameter_declaration_clause by_shape) = refl
plainly_holds function_qualifiers = refl
plainly_holds balanced = refl
plainly_holds braced_init_list = refl
plainly_holds initializer = refl
plainly_holds (init_declarator named) = refl
plainly_holds (init_declarator unnamed) = refl
plainly_holds (init_declarator either) = refl
plainly_holds (init_declarator in_block) = refl
plainly_holds block_declaration = refl
plainly_holds shaped_choice = refl
plainly_holds shaped_init_declarator = refl
plainly_holds shaped_declaration = refl
plainly_holds compound_statement = refl
plainly_holds statement = refl
plainly_holds for_init_statement = refl
plainly_holds handler = refl
plainly_holds enumerator_definition = refl
plainly_holds declaration_head = refl
plainly_holds simple_declaration = refl
plainly_holds (constructor_declarator qualified) = refl
plainly_holds (constructor_declarator plain) = refl
plainly_holds (destructor_declarator qualified) = refl
plainly_holds (destructor_declarator plain) = refl
plainly_holds member_initializer = refl
plainly_holds member_declarator = refl
plainly_holds initialized_member = refl
plainly_holds listed_member = refl
plainly_holds member_declaration = refl
plainly_holds declaration = refl
plainly_holds translation_unit = refl

pub named_holds : (f : Nonterminal) → implies (is_read f) (reads_named (production f) true) ≡ true
named_holds primary_expression = refl
named_holds lambda_expression = refl
named_holds lambda_introducer = refl
named_holds lambda_declarator = refl
named_holds functional_type = refl
named_holds expression_list = refl
named_holds postfix_expression = refl
named_holds unary_expression = refl
named_holds cast_expression = refl
named_holds (binary_expression zero) = refl
named_holds (binary_expression (suc n)) = level_twice n
named_holds conditional_expression = refl
named_holds assignment_expression = refl
named_holds expression = refl
named_holds (type_specifier whole) = refl
named_holds (type_specifier by_shape) = refl
named_holds (type_specifier_seq whole) = refl
named_holds (type_specifier_seq by_shape) = refl
named_holds (type_id whole) = refl
named_holds (type_id by_shape) = refl
named_holds (declarator whole named) = refl
named_holds (declarator whole unnamed) = refl
named_holds (declarator whole either) = refl
named_holds (declarator whole in_block) = refl
named_holds (declarator by_shape named) = refl
named_holds (declarator by_shape unnamed) = refl
named_holds (declarator by_shape either) = refl
named_holds (declarator by_shape in_block) = refl
named_holds (direct_declarator whole named) = refl
named_holds (direct_declarator whole unnamed) = refl
named_holds (direct_declarator whole either) = refl
named_holds (direct_declarator whole in_block) = refl
named_holds (direct_declarator by_shape named) = refl
named_holds (direct_declarator by_shape unnamed) = refl
named_holds (direct_declarator by_shape either) = refl
named_holds (direct_declarator by_shape in_block) = refl
named_holds (parameter_declaration whole) = refl
named_holds (parameter_declaration by_shape) = refl
named_holds (parameter_declaration_clause whole) = refl
named_holds (parameter_declaration_clause by_shape) = refl
named_holds function_qualifiers = refl
named_holds balanced = refl
named_holds braced_init_list = refl
named_holds initializer = refl
named_holds (init_declarator named) = refl
named_holds (init_declarator unnamed) = refl
named_holds (init_declarator either) = refl
named_holds (init_declarator in_block) = refl
named_holds block_declaration = refl
named_holds shaped_choice = refl
named_holds shaped_init_declarator = refl
named_holds shaped_declaration = refl
named_holds compound_statement = refl
named_holds statement = refl
named_holds for_init_statement = refl
named_holds handler = refl
named_holds enumerator_definition = refl
named_holds declaration_head = refl
named_holds simple_declaration = refl
named_holds (constructor_declarator qualified) = refl
named_holds (constructor_declarator plain) = refl
named_holds (destructor_declarator qualified) = refl
named_holds (destructor_declarator plain) = refl
named_holds member_initializer = refl
named_holds member_declarator = refl
named_holds initialized_member = refl
named_holds listed_member = refl
named_holds member_declaration = refl
named_holds declaration = refl
named_holds translation_unit = refl
