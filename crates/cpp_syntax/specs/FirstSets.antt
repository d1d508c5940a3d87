-- With which tokens the texts of a form begin, and at which tokens a text of it may end that is not its longest.
use Rattle.std.specs.Prelude.{◌≡◌, ℕ, nat_le, Bool, true, false, not, ◌&&◌, ◌||◌}
use Rattle.cpp_syntax.specs.declared.terminal.Terminal.{Terminal}
use Rattle.cpp_syntax.specs.Source.{Source, terminal_at}
use Rattle.cpp_syntax.specs.Terminals.{is_name, is_type_name, is_integer, is_character, is_string, is_boolean, is_type_word, is_cv, is_safety, is_virt}
use Rattle.cpp_syntax.specs.Terminals.{is_class_key, is_access, is_specifier, is_atomic, is_prefix, is_step, level_of, is_assignment, is_unbracketed}
use Rattle.cpp_syntax.specs.Terminals.{is_unseparated, std, nullptr_word, const_word, this_word, sizeof_word, static_cast_word, throw_word, mutable_word}
use Rattle.cpp_syntax.specs.Terminals.{noexcept_word, using_word, enum_word, extern_word, inline_word, virtual_word, explicit_word, if_word, while_word}
use Rattle.cpp_syntax.specs.Terminals.{do_word, for_word, switch_word, case_word, default_word, break_word, continue_word, return_word, try_word, catch_word}
use Rattle.cpp_syntax.specs.Terminals.{synchronized_word, open_paren, open_bracket, open_brace, semicolon, comma, question, dot, arrow, star, amp, tilde, equal}
use Rattle.cpp_syntax.specs.Rules.{Naming, named, unnamed, either, in_block, Nonterminal, primary_expression, lambda_expression, lambda_introducer}
use Rattle.cpp_syntax.specs.Rules.{lambda_declarator, functional_type, expression_list, postfix_expression, unary_expression, cast_expression}
use Rattle.cpp_syntax.specs.Rules.{binary_expression, conditional_expression, assignment_expression, expression, type_specifier, type_specifier_seq, type_id}
use Rattle.cpp_syntax.specs.Rules.{declarator, direct_declarator, parameter_declaration, parameter_declaration_clause, function_qualifiers, balanced}
use Rattle.cpp_syntax.specs.Rules.{braced_init_list, initializer, init_declarator, block_declaration, shaped_choice, shaped_init_declarator, shaped_declaration}
use Rattle.cpp_syntax.specs.Rules.{compound_statement, statement, for_init_statement, handler, enumerator_definition, declaration_head, simple_declaration}
use Rattle.cpp_syntax.specs.Rules.{constructor_declarator, destructor_declarator, member_initializer, member_declarator, initialized_member, listed_member}
use Rattle.cpp_syntax.specs.Rules.{member_declaration, declaration, translation_unit, qualified, plain, Lookahead, parameters, Rule, nothing, word, mark}
use Rattle.cpp_syntax.specs.Rules.{mark_next, mark_name, ◌·◌, ◌∣◌, many, form, node_at, wrap, with_body, where_, before_no, if_, unless}

-- What texts begin with.

abbrev pub opens : Terminal → Bool
opens s = open_paren s || open_bracket s || open_brace s

abbrev pub first_of_type : Terminal → Bool
first_of_type s = is_type_word s || is_type_name s || std s

abbrev pub first_of_types : Terminal → Bool
first_of_types s = is_cv s || first_of_type s

abbrev pub first_of_primary : Terminal → Bool
first_of_primary s =
    is_integer s || is_character s || is_string s || is_boolean s || nullptr_word s || this_word s || is_name s || first_of_type s ||
    static_cast_word s || open_paren s || open_bracket s

abbrev pub first_of_unary : Terminal → Bool
first_of_unary s = first_of_primary s || is_prefix s || sizeof_word s

abbrev pub first_of_assignment : Terminal → Bool
first_of_assignment s = first_of_unary s || throw_word s

abbrev pub first_of_direct : Naming → Terminal → Bool
first_of_direct named s = is_name s || is_type_name s || open_paren s
first_of_direct in_block s = is_name s || is_type_name s || open_paren s
first_of_direct unnamed s = open_paren s || open_bracket s
first_of_direct either s = is_name s || is_type_name s || open_paren s || open_bracket s

abbrev pub first_of_declarator : Naming → Terminal → Bool
first_of_declarator naming s = star s || amp s || first_of_direct naming s

abbrev pub first_of_simple : Terminal → Bool
first_of_simple s = open_bracket s || is_specifier s || first_of_types s

abbrev pub first_of_declaration : Terminal → Bool
first_of_declaration s = using_word s || is_class_key s || enum_word s || extern_word s || first_of_simple s || semicolon s

-- the terminals that a text of the form may begin with
abbrev pub first_set : Nonterminal → Terminal → Bool
first_set primary_expression s = first_of_primary s
first_set lambda_expression s = open_bracket s
first_set lambda_introducer s = open_bracket s
first_set lambda_declarator s = open_paren s || is_safety s
first_set functional_type s = first_of_type s
first_set expression_list s = first_of_assignment s
first_set postfix_expression s = first_of_primary s
first_set unary_expression s = first_of_unary s
first_set cast_expression s = first_of_unary s
first_set (binary_expression n) s = first_of_unary s
first_set conditional_expression s = first_of_unary s
first_set assignment_expression s = first_of_assignment s
first_set expression s = first_of_assignment s
first_set (type_specifier reading) s = first_of_type s
first_set (type_specifier_seq reading) s = first_of_types s
first_set (type_id reading) s = first_of_types s
first_set (declarator reading naming) s = first_of_declarator naming s
first_set (direct_declarator reading naming) s = first_of_direct naming s
first_set (parameter_declaration reading) s = first_of_types s
first_set (parameter_declaration_clause reading) s = first_of_types s
first_set function_qualifiers s = const_word s || is_safety s || noexcept_word s
first_set balanced s = is_unbracketed s || opens s
first_set braced_init_list s = open_brace s
first_set initializer s = first_of_assignment s || open_brace s
first_set (init_declarator naming) s = first_of_declarator naming s || equal s
first_set block_declaration s = first_of_types s
first_set shaped_choice s = question s
first_set shaped_init_declarator s = first_of_declarator named s
first_set shaped_declaration s = first_of_types s
first_set compound_statement s = open_brace s
first_set statement s =
    open_brace s || semicolon s || first_of_assignment s || first_of_types s || if_word s || while_word s || do_word s || for_word s || switch_word s
    || case_word s || default_word s || break_word s || continue_word s || return_word s || try_word s || synchronized_word s || is_atomic s
first_set for_init_statement s = first_of_types s || first_of_assignment s || semicolon s
first_set handler s = catch_word s
first_set enumerator_definition s = is_name s
first_set declaration_head s = first_of_simple s
first_set simple_declaration s = first_of_simple s
first_set (constructor_declarator qualifying) s = is_type_name s
first_set (destructor_declarator qualified) s = is_type_name s
first_set (destructor_declarator plain) s = tilde s
first_set member_initializer s = is_type_name s || is_name s
first_set member_declarator s = first_of_declarator named s
first_set initialized_member s = first_of_declarator named s
first_set listed_member s = first_of_declarator named s
first_set member_declaration s = is_access s || open_bracket s || virtual_word s || inline_word s || explicit_word s || first_of_types s || tilde s
first_set declaration s = first_of_declaration s
first_set translation_unit s = first_of_declaration s

abbrev pub need_not_name : Naming → Bool
need_not_name named = false
need_not_name in_block = false
need_not_name unnamed = true
need_not_name either = true

-- a text of the form may be empty
abbrev pub nullable : Nonterminal → Bool
nullable expression_list = true
nullable (declarator reading naming) = need_not_name naming
nullable (direct_declarator reading naming) = need_not_name naming
nullable (parameter_declaration_clause reading) = true
nullable function_qualifiers = true
nullable balanced = true
nullable (init_declarator naming) = need_not_name naming
nullable translation_unit = true
nullable _ = false

-- Where texts end that are not the longest.

abbrev pub continuation_of_primary : Terminal → Bool
continuation_of_primary s = open_bracket s || open_paren s || dot s || arrow s || is_step s

abbrev pub continuation_of_binary : ℕ → Terminal → Bool
continuation_of_binary n s = continuation_of_primary s || nat_le 1 (level_of s) && nat_le (level_of s) n

-- throw alone goes on with an expression
abbrev pub continuation_of_assignment : Terminal → Bool
continuation_of_assignment s = continuation_of_binary 10 s || question s || is_assignment s || first_of_assignment s

abbrev pub continuation_of_types : Terminal → Bool
continuation_of_types s = is_cv s || is_type_word s

abbrev pub continuation_of_function : Terminal → Bool
continuation_of_function s = const_word s || is_safety s || noexcept_word s

-- a suffix begins, or goes on; where an initializer may stand, parameters must be seen behind a name
abbrev pub continuation_of_direct : Naming → Bool → Terminal → Bool
continuation_of_direct named seen s = open_bracket s || seen && open_paren s || continuation_of_function s
continuation_of_direct in_block seen s = open_bracket s || seen && open_paren s || continuation_of_function s
continuation_of_direct naming seen s = first_of_direct naming s || continuation_of_function s

abbrev pub continuation_of_declarator : Naming → Bool → Terminal → Bool
continuation_of_declarator named seen s = continuation_of_direct named seen s
continuation_of_declarator in_block seen s = continuation_of_direct in_block seen s
continuation_of_declarator naming seen s = star s || amp s || is_cv s || continuation_of_direct naming seen s

abbrev pub continuation_of_type_id : Terminal → Bool
continuation_of_type_id s = continuation_of_types s || continuation_of_declarator unnamed true s

abbrev pub continuation_of_parameter : Terminal → Bool
continuation_of_parameter s = continuation_of_types s || continuation_of_declarator either true s

-- The terminals at which a text of the form may end that is not the longest from its index, where parameters are seen from
-- there on or are not. Where a list may end with a comma, also what begins its items.
abbrev pub continuation_set : Nonterminal → Bool → Terminal → Bool
continuation_set lambda_declarator seen s = mutable_word s || is_safety s || noexcept_word s || arrow s || continuation_of_type_id s
continuation_set expression_list seen s = continuation_of_assignment s || comma s
continuation_set postfix_expression seen s = continuation_of_primary s
continuation_set unary_expression seen s = continuation_of_primary s
continuation_set cast_expression seen s = continuation_of_primary s
continuation_set (binary_expression n) seen s = continuation_of_binary n s
continuation_set conditional_expression seen s = continuation_of_assignment s
continuation_set assignment_expression seen s = continuation_of_assignment s
continuation_set expression seen s = continuation_of_assignment s || comma s
continuation_set (type_specifier reading) seen s = is_type_word s
continuation_set (type_specifier_seq reading) seen s = continuation_of_types s
continuation_set (type_id reading) seen s = continuation_of_type_id s
continuation_set (declarator reading naming) seen s = continuation_of_declarator naming seen s
continuation_set (direct_declarator reading naming) seen s = continuation_of_direct naming seen s
continuation_set (parameter_declaration reading) seen s = continuation_of_parameter s
continuation_set (parameter_declaration_clause reading) seen s = continuation_of_parameter s || first_of_types s || comma s
continuation_set function_qualifiers seen s = continuation_of_function s
continuation_set balanced seen s = is_unbracketed s || opens s
continuation_set initializer seen s = continuation_of_assignment s || open_brace s
continuation_set (init_declarator naming) seen s = continuation_of_declarator naming seen s || continuation_of_assignment s || open_brace s
continuation_set shaped_init_declarator seen s = is_unseparated s || question s || opens s
continuation_set enumerator_definition seen s = continuation_of_assignment s
continuation_set declaration_head seen s = continuation_of_types s
continuation_set (constructor_declarator qualifying) seen s = continuation_of_function s
continuation_set (destructor_declarator qualifying) seen s = continuation_of_function s
continuation_set member_declarator seen s = continuation_of_declarator named seen s || is_virt s || equal s
continuation_set initialized_member seen s = continuation_of_assignment s
continuation_set listed_member seen s = continuation_of_declarator named seen s || continuation_of_assignment s
continuation_set member_declaration seen s = semicolon s
continuation_set translation_unit seen s = first_of_declaration s
continuation_set _ seen s = false

-- whether parameters are seen from an index on
abbrev pub AreParametersAhead : (Lookahead → ℕ → Type 0) → ℕ → Bool → Type 0
AreParametersAhead lookahead a true = lookahead parameters a
AreParametersAhead lookahead a false = lookahead parameters a → ⊥

-- a text of the form that ends at the index may be not the longest
abbrev pub Continues : (Lookahead → ℕ → Type 0) → Source → Nonterminal → ℕ → Type 0
Continues lookahead source f a = (seen : Bool) → AreParametersAhead lookahead a seen → continuation_set f seen (terminal_at source a) ≡ true

-- The same of rules.

abbrev pub rule_nullable : Rule → Bool
rule_nullable nothing = true
rule_nullable (word test) = false
rule_nullable (mark test) = false
rule_nullable mark_next = true
rule_nullable mark_name = true
rule_nullable (p · q) = rule_nullable p && rule_nullable q
rule_nullable (p ∣ q) = rule_nullable p || rule_nullable q
rule_nullable (many p) = true
rule_nullable (form f) = nullable f
rule_nullable (node_at positioning kind p) = rule_nullable p
rule_nullable (wrap kind p) = rule_nullable p
rule_nullable (with_body kind p) = false
rule_nullable (where_ test p) = rule_nullable p
rule_nullable (before_no test p) = rule_nullable p
rule_nullable (if_ look p) = rule_nullable p
rule_nullable (unless look p) = rule_nullable p

-- whether the look may be seen, and whether it may not, where parameters are seen or are not
abbrev pub may_be_seen : Lookahead → Bool → Bool
may_be_seen parameters seen = seen
may_be_seen _ seen = true

abbrev pub may_be_unseen : Lookahead → Bool → Bool
may_be_unseen parameters seen = not seen
may_be_unseen _ seen = true

abbrev pub rule_first_set : Rule → Bool → Terminal → Bool
rule_first_set (word test) seen s = test s
rule_first_set (mark test) seen s = test s
rule_first_set (p · q) seen s = rule_first_set p seen s || rule_nullable p && rule_first_set q seen s
rule_first_set (p ∣ q) seen s = rule_first_set p seen s || rule_first_set q seen s
rule_first_set (many p) seen s = rule_first_set p seen s
rule_first_set (form f) seen s = first_set f s
rule_first_set (node_at positioning kind p) seen s = rule_first_set p seen s
rule_first_set (wrap kind p) seen s = rule_first_set p seen s
rule_first_set (with_body kind p) seen s = rule_first_set p seen s || rule_nullable p && open_brace s
rule_first_set (where_ test p) seen s = rule_first_set p seen s
rule_first_set (before_no test p) seen s = rule_first_set p seen s
rule_first_set (if_ look p) seen s = may_be_seen look seen && rule_first_set p seen s
rule_first_set (unless look p) seen s = may_be_unseen look seen && rule_first_set p seen s
rule_first_set nothing seen s = false
rule_first_set mark_next seen s = false
rule_first_set mark_name seen s = false

abbrev pub rule_continuation_set : Rule → Bool → Terminal → Bool
rule_continuation_set (p · q) seen s = rule_continuation_set q seen s || rule_nullable q && rule_continuation_set p seen s
rule_continuation_set (p ∣ q) seen s =
    rule_continuation_set p seen s || rule_continuation_set q seen s || rule_nullable q && rule_first_set p seen s || rule_nullable p &&
    rule_first_set q seen s
rule_continuation_set (many p) seen s = rule_first_set p seen s || rule_continuation_set p seen s
rule_continuation_set (form f) seen s = continuation_set f seen s
rule_continuation_set (node_at positioning kind p) seen s = rule_continuation_set p seen s
rule_continuation_set (wrap kind p) seen s = rule_continuation_set p seen s
rule_continuation_set (where_ test p) seen s = rule_continuation_set p seen s
rule_continuation_set (before_no test p) seen s = rule_continuation_set p seen s && not (test s)
rule_continuation_set (if_ look p) seen s = rule_continuation_set p seen s
rule_continuation_set (unless look p) seen s = rule_continuation_set p seen s
rule_continuation_set (with_body kind p) seen s = false
rule_continuation_set nothing seen s = false
rule_continuation_set (word test) seen s = false
rule_continuation_set (mark test) seen s = false
rule_continuation_set mark_next seen s = false
rule_continuation_set mark_name seen s = false

abbrev pub StartsRule : (Lookahead → ℕ → Type 0) → Source → Rule → ℕ → Type 0
StartsRule lookahead source p a = (seen : Bool) → AreParametersAhead lookahead a seen → rule_first_set p seen (terminal_at source a) ≡ true

abbrev pub ContinuesRule : (Lookahead → ℕ → Type 0) → Source → Rule → ℕ → Type 0
ContinuesRule lookahead source p a = (seen : Bool) → AreParametersAhead lookahead a seen → rule_continuation_set p seen (terminal_at source a) ≡ true
