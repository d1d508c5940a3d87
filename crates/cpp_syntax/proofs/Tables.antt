-- The tables of terminals hold for the production of each form: by computation over all terminals, form by form.
--
-- first_set_holds f seen s        : rule_first_set (production f) seen s ≡ true → first_set f s ≡ true
-- nullable_holds f                : rule_nullable (production f) ≡ true → nullable f ≡ true
-- continuation_set_holds f seen s : rule_continuation_set (production f) seen s ≡ true → continuation_set f seen s ≡ true
use Rattle.std.proofs.Common.{◌≡◌, ℕ, zero, suc, nat_le, nat_eq, Bool, true, false, ◌||◌, ◌&&◌, inl, inr, refl, sym as back, arith, true≢false}
use Rattle.std.proofs.lemmas.Bool.{and_parts, or_cases}
use Rattle.cpp_ast.specs.declared.kinds.NodeKind.TheVariants.{BinaryExpression}
use Rattle.cpp_syntax.specs.declared.terminal.Terminal.{Terminal}
use Rattle.cpp_syntax.specs.Terminals.{level_of}
use Rattle.cpp_syntax.specs.Rules.{whole, by_shape, named, unnamed, either, in_block, qualified, plain, Nonterminal, Rule, ◌·◌, many, form, mark, wrap}
use Rattle.cpp_syntax.specs.Rules.{primary_expression, lambda_expression, lambda_introducer, lambda_declarator, functional_type, expression_list}
use Rattle.cpp_syntax.specs.Rules.{postfix_expression, unary_expression, cast_expression, binary_expression, conditional_expression, assignment_expression}
use Rattle.cpp_syntax.specs.Rules.{expression, type_specifier, type_specifier_seq, type_id, declarator, direct_declarator, parameter_declaration}
use Rattle.cpp_syntax.specs.Rules.{parameter_declaration_clause, function_qualifiers, balanced, braced_init_list, initializer, init_declarator}
use Rattle.cpp_syntax.specs.Rules.{block_declaration, shaped_choice, shaped_init_declarator, shaped_declaration, compound_statement, statement}
use Rattle.cpp_syntax.specs.Rules.{for_init_statement, handler, enumerator_definition, declaration_head, simple_declaration, constructor_declarator}
use Rattle.cpp_syntax.specs.Rules.{destructor_declarator, member_initializer, member_declarator, initialized_member, listed_member, member_declaration}
use Rattle.cpp_syntax.specs.Rules.{declaration, translation_unit}
use Rattle.cpp_syntax.specs.Grammar.{production}
use Rattle.cpp_syntax.specs.FirstSets.{first_set, nullable, continuation_set, continuation_of_primary, rule_first_set, rule_nullable, rule_continuation_set}
use Rattle.cpp_syntax.proofs.TerminalTables.{passes, at_each, implies, implied}

abbrev begins_by : Nonterminal → Bool → Terminal → Bool
begins_by f seen s = implies (rule_first_set (production f) seen s) (first_set f s)

abbrev continuation_set_by : Nonterminal → Bool → Terminal → Bool
continuation_set_by f seen s = implies (rule_continuation_set (production f) seen s) (continuation_set f seen s)

first_set_table : (f : Nonterminal) → (passes (begins_by f true) && passes (begins_by f false)) ≡ true
first_set_table primary_expression = refl
first_set_table lambda_expression = refl
first_set_table lambda_introducer = refl
first_set_table lambda_declarator = refl
first_set_table functional_type = refl
first_set_table expression_list = refl
first_set_table postfix_expression = refl
first_set_table unary_expression = refl
first_set_table cast_expression = refl
first_set_table (binary_expression zero) = refl
first_set_table (binary_expression (suc n)) = refl
first_set_table conditional_expression = refl
first_set_table assignment_expression = refl
first_set_table expression = refl
first_set_table (type_specifier whole) = refl
first_set_table (type_specifier by_shape) = refl
first_set_table (type_specifier_seq whole) = refl
first_set_table (type_specifier_seq by_shape) = refl
first_set_table (type_id whole) = refl
first_set_table (type_id by_shape) = refl
first_set_table (declarator whole named) = refl
first_set_table (declarator whole unnamed) = refl
first_set_table (declarator whole either) = refl
first_set_table (declarator whole in_block) = refl
first_set_table (declarator by_shape named) = refl
first_set_table (declarator by_shape unnamed) = refl
first_set_table (declarator by_shape either) = refl
first_set_table (declarator by_shape in_block) = refl
first_set_table (direct_declarator whole named) = refl
first_set_table (direct_declarator whole unnamed) = refl
first_set_table (direct_declarator whole either) = refl
first_set_table (direct_declarator whole in_block) = refl
first_set_table (direct_declarator by_shape named) = refl
first_set_table (direct_declarator by_shape unnamed) = refl
first_set_table (direct_declarator by_shape either) = refl
first_set_table (direct_declarator by_shape in_block) = refl
first_set_table (parameter_declaration whole) = refl
first_set_table (parameter_declaration by_shape) = refl
first_set_table (parameter_declaration_clause whole) = refl
first_set_table (parameter_declaration_clause by_shape) = refl
first_set_table function_qualifiers = refl
first_set_table balanced = refl
first_set_table braced_init_list = refl
first_set_table initializer = refl
first_set_table (init_declarator named) = refl
first_set_table (init_declarator unnamed) = refl
first_set_table (init_declarator either) = refl
first_set_table (init_declarator in_block) = refl
first_set_table block_declaration = refl
first_set_table shaped_choice = refl
first_set_table shaped_init_declarator = refl
first_set_table shaped_declaration = refl
first_set_table compound_statement = refl
first_set_table statement = refl
first_set_table for_init_statement = refl
first_set_table handler = refl
first_set_table enumerator_definition = refl
first_set_table declaration_head = refl
first_set_table simple_declaration = refl
first_set_table (constructor_declarator qualified) = refl
first_set_table (constructor_declarator plain) = refl
first_set_table (destructor_declarator qualified) = refl
first_set_table (destructor_declarator plain) = refl
first_set_table member_initializer = refl
first_set_table member_declarator = refl
first_set_table initialized_member = refl
first_set_table listed_member = refl
first_set_table member_declaration = refl
first_set_table declaration = refl
first_set_table translation_unit = refl

-- the terminals that a text of a form begins with
pub first_set_holds : (f : Nonterminal) (seen : Bool) (s : Terminal) → rule_first_set (production f) seen s ≡ true → first_set f s ≡ true
first_set_holds f true s e =
    implied (rule_first_set (production f) true s) (first_set f s) (at_each (begins_by f true)
    (and_parts (passes (begins_by f true)) (passes (begins_by f false)) (first_set_table f)).0 s) e
first_set_holds f false s e =
    implied (rule_first_set (production f) false s) (first_set f s) (at_each (begins_by f false)
    (and_parts (passes (begins_by f true)) (passes (begins_by f false)) (first_set_table f)).1 s) e

-- the forms whose texts may be empty
pub nullable_holds : (f : Nonterminal) → rule_nullable (production f) ≡ true → nullable f ≡ true
nullable_holds primary_expression e = e
nullable_holds lambda_expression e = e
nullable_holds lambda_introducer e = e
nullable_holds lambda_declarator e = e
nullable_holds functional_type e = e
nullable_holds expression_list e = e
nullable_holds postfix_expression e = e
nullable_holds unary_expression e = e
nullable_holds cast_expression e = e
nullable_holds (binary_expression zero) e = e
nullable_holds (binary_expression (suc n)) e = e
nullable_holds conditional_expression e = e
nullable_holds assignment_expression e = e
nullable_holds expression e = e
nullable_holds (type_specifier whole) e = e
nullable_holds (type_specifier by_shape) e = e
nullable_holds (type_specifier_seq whole) e = e
nullable_holds (type_specifier_seq by_shape) e = e
nullable_holds (type_id whole) e = e
nullable_holds (type_id by_shape) e = e
nullable_holds (declarator whole named) e = e
nullable_holds (declarator whole unnamed) e = e
nullable_holds (declarator whole either) e = e
nullable_holds (declarator whole in_block) e = e
nullable_holds (declarator by_shape named) e = e
nullable_holds (declarator by_shape unnamed) e = e
nullable_holds (declarator by_shape either) e = e
nullable_holds (declarator by_shape in_block) e = e
nullable_holds (direct_declarator whole named) e = e
nullable_holds (direct_declarator whole unnamed) e = e
nullable_holds (direct_declarator whole either) e = e
nullable_holds (direct_declarator whole in_block) e = e
nullable_holds (direct_declarator by_shape named) e = e
nullable_holds (direct_declarator by_shape unnamed) e = e
nullable_holds (direct_declarator by_shape either) e = e
nullable_holds (direct_declarator by_shape in_block) e = e
nullable_holds (parameter_declaration whole) e = e
nullable_holds (parameter_declaration by_shape) e = e
nullable_holds (parameter_declaration_clause whole) e = e
nullable_holds (parameter_declaration_clause by_shape) e = e
nullable_holds function_qualifiers e = e
nullable_holds balanced e = e
nullable_holds braced_init_list e = e
nullable_holds initializer e = e
nullable_holds (init_declarator named) e = e
nullable_holds (init_declarator unnamed) e = e
nullable_holds (init_declarator either) e = e
nullable_holds (init_declarator in_block) e = e
nullable_holds block_declaration e = e
nullable_holds shaped_choice e = e
nullable_holds shaped_init_declarator e = e
nullable_holds shaped_declaration e = e
nullable_holds compound_statement e = e
nullable_holds statement e = e
nullable_holds for_init_statement e = e
nullable_holds handler e = e
nullable_holds enumerator_definition e = e
nullable_holds declaration_head e = e
nullable_holds simple_declaration e = e
nullable_holds (constructor_declarator qualified) e = e
nullable_holds (constructor_declarator plain) e = e
nullable_holds (destructor_declarator qualified) e = e
nullable_holds (destructor_declarator plain) e = e
nullable_holds member_initializer e = e
nullable_holds member_declarator e = e
nullable_holds initialized_member e = e
nullable_holds listed_member e = e
nullable_holds member_declaration e = e
nullable_holds declaration e = e
nullable_holds translation_unit e = e

higher : (g : Bool) (l n : ℕ) → (g || nat_le 1 l && nat_le l n) ≡ true → (g || nat_le 1 l && nat_le l (suc n)) ≡ true
higher g l n e = grind (arith)

highest : (g : Bool) (l n : ℕ) → nat_eq l (suc n) ≡ true → (g || nat_le 1 l && nat_le l (suc n)) ≡ true
highest g l n e = grind (arith)

abbrev operated : ℕ → Rule
operated n = wrap BinaryExpression (mark (λ s. nat_eq (level_of s) (suc n)) · form (binary_expression n))

-- an operator's level is that of the form, or a lower one
level_holds : (n : ℕ) (seen : Bool) (s : Terminal) → rule_continuation_set (production (binary_expression (suc n))) seen s ≡ true
    → continuation_set (binary_expression (suc n)) seen s ≡ true
level_holds n seen s e = elim (or_cases (rule_continuation_set (many (operated n)) seen s) (continuation_set (binary_expression n) seen s) e) [
  | inl h ↦ elim (or_cases (rule_first_set (operated n) seen s) (rule_continuation_set (operated n) seen s) h) [
    | inl i ↦ elim (or_cases (nat_eq (level_of s) (suc n)) false i) [
      | inl j ↦ highest (continuation_of_primary s) (level_of s) n j
      | inr j ↦ absurd (true≢false (back j))
    ]
    | inr i ↦ elim (or_cases (continuation_set (binary_expression n) seen s) false i) [
      | inl j ↦ higher (continuation_of_primary s) (level_of s) n j
      | inr j ↦ absurd (true≢false (back j))
    ]
  ]
  | inr h ↦ higher (continuation_of_primary s) (level_of s) n h
]

other_holds : (f : Nonterminal) (seen : Bool) (s : Terminal) → (passes (continuation_set_by f true) && passes (continuation_set_by f false)) ≡ true
    → rule_continuation_set (production f) seen s ≡ true → continuation_set f seen s ≡ true
other_holds f true s t e =
    implied (rule_continuation_set (production f) true s) (continuation_set f true s)
    (at_each (continuation_set_by f true) (and_parts (passes (continuation_set_by f true)) (passes (continuation_set_by f false)) t).0 s) e
other_holds f false s t e =
    implied (rule_continuation_set (production f) false s) (continuation_set f false s)
    (at_each (continuation_set_by f false) (and_parts (passes (continuation_set_by f true)) (passes (continuation_set_by f false)) t).1 s) e

-- the terminals that a text of a form goes on at
pub continuation_set_holds : (f : Nonterminal) (seen : Bool) (s : Terminal) → rule_continuation_set (production f) seen s ≡ true
    → continuation_set f seen s ≡ true
continuation_set_holds primary_expression seen s e = other_holds primary_expression seen s refl e
continuation_set_holds lambda_expression seen s e = other_holds lambda_expression seen s refl e
continuation_set_holds lambda_introducer seen s e = other_holds lambda_introducer seen s refl e
continuation_set_holds lambda_declarator seen s e = other_holds lambda_declarator seen s refl e
continuation_set_holds functional_type seen s e = other_holds functional_type seen s refl e
continuation_set_holds expression_list seen s e = other_holds expression_list seen s refl e
continuation_set_holds postfix_expression seen s e = other_holds postfix_expression seen s refl e
continuation_set_holds unary_expression seen s e = other_holds unary_expression seen s refl e
continuation_set_holds cast_expression seen s e = other_holds cast_expression seen s refl e
continuation_set_holds (binary_expression zero) seen s e = other_holds (binary_expression zero) seen s refl e
continuation_set_holds (binary_expression (suc n)) seen s e = level_holds n seen s e
continuation_set_holds conditional_expression seen s e = other_holds conditional_expression seen s refl e
continuation_set_holds assignment_expression seen s e = other_holds assignment_expression seen s refl e
continuation_set_holds expression seen s e = other_holds expression seen s refl e
continuation_set_holds (type_specifier whole) seen s e = other_holds (type_specifier whole) seen s refl e
continuation_set_holds (type_specifier by_shape) seen s e = other_holds (type_specifier by_shape) seen s refl e
continuation_set_holds (type_specifier_seq whole) seen s e = other_holds (type_specifier_seq whole) seen s refl e
continuation_set_holds (type_specifier_seq by_shape) seen s e = other_holds (type_specifier_seq by_shape) seen s refl e
continuation_set_holds (type_id whole) seen s e = other_holds (type_id whole) seen s refl e
continuation_set_holds (type_id by_shape) seen s e = other_holds (type_id by_shape) seen s refl e
continuation_set_holds (declarator whole named) seen s e = other_holds (declarator whole named) seen s refl e
continuation_set_holds (declarator whole unnamed) seen s e = other_holds (declarator whole unnamed) seen s refl e
continuation_set_holds (declarator whole either) seen s e = other_holds (declarator whole either) seen s refl e
continuation_set_holds (declarator whole in_block) seen s e = other_holds (declarator whole in_block) seen s refl e
continuation_set_holds (declarator by_shape named) seen s e = other_holds (declarator by_shape named) seen s refl e
continuation_set_holds (declarator by_shape unnamed) seen s e = other_holds (declarator by_shape unnamed) seen s refl e
continuation_set_holds (declarator by_shape either) seen s e = other_holds (declarator by_shape either) seen s refl e
continuation_set_holds (declarator by_shape in_block) seen s e = other_holds (declarator by_shape in_block) seen s refl e
continuation_set_holds (direct_declarator whole named) seen s e = other_holds (direct_declarator whole named) seen s refl e
continuation_set_holds (direct_declarator whole unnamed) seen s e = other_holds (direct_declarator whole unnamed) seen s refl e
continuation_set_holds (direct_declarator whole either) seen s e = other_holds (direct_declarator whole either) seen s refl e
continuation_set_holds (direct_declarator whole in_block) seen s e = other_holds (direct_declarator whole in_block) seen s refl e
continuation_set_holds (direct_declarator by_shape named) seen s e = other_holds (direct_declarator by_shape named) seen s refl e
continuation_set_holds (direct_declarator by_shape unnamed) seen s e = other_holds (direct_declarator by_shape unnamed) seen s refl e
continuation_set_holds (direct_declarator by_shape either) seen s e = other_holds (direct_declarator by_shape either) seen s refl e
continuation_set_holds (direct_declarator by_shape in_block) seen s e = other_holds (direct_declarator by_shape in_block) seen s refl e
continuation_set_holds (parameter_declaration whole) seen s e = other_holds (parameter_declaration whole) seen s refl e
continuation_set_holds (parameter_declaration by_shape) seen s e = other_holds (parameter_declaration by_shape) seen s refl e
continuation_set_holds (parameter_declaration_clause whole) seen s e = other_holds (parameter_declaration_clause whole) seen s refl e
continuation_set_holds (parameter_declaration_clause by_shape) seen s e = other_holds (parameter_declaration_clause by_shape) seen s refl e
continuation_set_holds function_qualifiers seen s e = other_holds function_qualifiers seen s refl e
continuation_set_holds balanced seen s e = other_holds balanced seen s refl e
continuation_set_holds braced_init_list seen s e = other_holds braced_init_list seen s refl e
continuation_set_holds initializer seen s e = other_holds initializer seen s refl e
continuation_set_holds (init_declarator named) seen s e = other_holds (init_declarator named) seen s refl e
continuation_set_holds (init_declarator unnamed) seen s e = other_holds (init_declarator unnamed) seen s refl e
continuation_set_holds (init_declarator either) seen s e = other_holds (init_declarator either) seen s refl e
continuation_set_holds (init_declarator in_block) seen s e = other_holds (init_declarator in_block) seen s refl e
continuation_set_holds block_declaration seen s e = other_holds block_declaration seen s refl e
continuation_set_holds shaped_choice seen s e = other_holds shaped_choice seen s refl e
continuation_set_holds shaped_init_declarator seen s e = other_holds shaped_init_declarator seen s refl e
continuation_set_holds shaped_declaration seen s e = other_holds shaped_declaration seen s refl e
continuation_set_holds compound_statement seen s e = other_holds compound_statement seen s refl e
continuation_set_holds statement seen s e = other_holds statement seen s refl e
continuation_set_holds for_init_statement seen s e = other_holds for_init_statement seen s refl e
continuation_set_holds handler seen s e = other_holds handler seen s refl e
continuation_set_holds enumerator_definition seen s e = other_holds enumerator_definition seen s refl e
continuation_set_holds declaration_head seen s e = other_holds declaration_head seen s refl e
continuation_set_holds simple_declaration seen s e = other_holds simple_declaration seen s refl e
continuation_set_holds (constructor_declarator qualified) seen s e = other_holds (constructor_declarator qualified) seen s refl e
continuation_set_holds (constructor_declarator plain) seen s e = other_holds (constructor_declarator plain) seen s refl e
continuation_set_holds (destructor_declarator qualified) seen s e = other_holds (destructor_declarator qualified) seen s refl e
continuation_set_holds (destructor_declarator plain) seen s e = other_holds (destructor_declarator plain) seen s refl e
continuation_set_holds member_initializer seen s e = other_holds member_initializer seen s refl e
continuation_set_holds member_declarator seen s e = other_holds member_declarator seen s refl e
continuation_set_holds initialized_member seen s e = other_holds initialized_member seen s refl e
continuation_set_holds listed_member seen s e = other_holds listed_member seen s refl e
continuation_set_holds member_declaration seen s e = other_holds member_declaration seen s refl e
continuation_set_holds declaration seen s e = other_holds declaration seen s refl e
continuation_set_holds translation_unit seen s e = other_holds translation_unit seen s refl e
