-- Derivations end where the tokens do, or before.
--
-- inside x refl h : b ≤ length source.terminals    where x is a text from a to b, h : a ≤ length source.terminals
-- token_inside source a test refl t : a < length source.terminals
use Rattle.std.proofs.Common.{◌≡◌, ℕ, zero, suc, ◌<◌, ◌≤◌, inl, inr, nat_eq, Bool, true, not, ◌&&◌, refl, sym as back, ◌∙◌, ap, arith, length, Option}
use Rattle.std.proofs.Common.{true≢false}
use Rattle.std.proofs.lemmas.Bool.{cases_lt, and_parts, and_from, not-true}
use Rattle.std.proofs.lemmas.List.{get_or_past}
use Rattle.cpp_syntax.specs.declared.terminal.Terminal.{Terminal}
use Rattle.cpp_syntax.specs.declared.terminal.Terminal.TheVariants as terminal
use Rattle.cpp_syntax.specs.Source.{Source, terminal_at}
use Rattle.cpp_syntax.specs.Terminals.{close_brace}
use Rattle.cpp_syntax.specs.Rules.{whole, by_shape, named, unnamed, either, in_block, qualified, plain, Nonterminal, primary_expression, lambda_expression}
use Rattle.cpp_syntax.specs.Rules.{lambda_introducer, lambda_declarator, functional_type, expression_list, postfix_expression, unary_expression}
use Rattle.cpp_syntax.specs.Rules.{cast_expression, binary_expression, conditional_expression, assignment_expression, expression, type_specifier}
use Rattle.cpp_syntax.specs.Rules.{type_specifier_seq, type_id, declarator, direct_declarator, parameter_declaration, parameter_declaration_clause}
use Rattle.cpp_syntax.specs.Rules.{function_qualifiers, balanced, braced_init_list, initializer, init_declarator, block_declaration, shaped_choice}
use Rattle.cpp_syntax.specs.Rules.{shaped_init_declarator, shaped_declaration, compound_statement, statement, for_init_statement, handler}
use Rattle.cpp_syntax.specs.Rules.{enumerator_definition, declaration_head, simple_declaration, constructor_declarator, destructor_declarator}
use Rattle.cpp_syntax.specs.Rules.{member_initializer, member_declarator, initialized_member, listed_member, member_declaration, declaration, translation_unit}
use Rattle.cpp_syntax.specs.Rules.{Lookahead, Rule, nothing, word, mark, mark_next, mark_name, ◌·◌, ◌∣◌, many, form, node_at, wrap, with_body, where_}
use Rattle.cpp_syntax.specs.Rules.{before_no, if_, unless}
use Rattle.cpp_syntax.specs.Grammar.{production}
use Rattle.cpp_syntax.specs.Derivations.{Read, Bodies, Derives, is_nothing, is_word, is_mark, is_mark_next, is_mark_name, is_both, is_left, is_right, is_last}
use Rattle.cpp_syntax.specs.Derivations.{is_more, is_form, is_node, is_wrap, is_kept_apart, is_in_tree, is_where, is_before, is_if, is_unless}

-- no token of the rule is the end
abbrev pub ends_inside : Rule → Bool
ends_inside (word test) = not (test terminal.End)
ends_inside (mark test) = not (test terminal.End)
ends_inside (p · q) = ends_inside p && ends_inside q
ends_inside (p ∣ q) = ends_inside p && ends_inside q
ends_inside (many p) = ends_inside p
ends_inside (node_at positioning kind p) = ends_inside p
ends_inside (wrap kind p) = ends_inside p
ends_inside (with_body kind p) = ends_inside p
ends_inside (where_ test p) = ends_inside p
ends_inside (before_no test p) = ends_inside p
ends_inside (if_ look p) = ends_inside p
ends_inside (unless look p) = ends_inside p
ends_inside (form f) = true
ends_inside nothing = true
ends_inside mark_next = true
ends_inside mark_name = true

no_level_at_end : (n : ℕ) → not (nat_eq 0 (suc n)) ≡ true
no_level_at_end n = grind arith

inside_holds : (f : Nonterminal) → ends_inside (production f) ≡ true
inside_holds primary_expression = refl
inside_holds lambda_expression = refl
inside_holds lambda_introducer = refl
inside_holds lambda_declarator = refl
inside_holds functional_type = refl
inside_holds expression_list = refl
inside_holds postfix_expression = refl
inside_holds unary_expression = refl
inside_holds cast_expression = refl
inside_holds (binary_expression zero) = refl
inside_holds (binary_expression (suc n)) = and_from (not (nat_eq 0 (suc n))) true (no_level_at_end n) refl
inside_holds conditional_expression = refl
inside_holds assignment_expression = refl
inside_holds expression = refl
inside_holds (type_specifier whole) = refl
inside_holds (type_specifier by_shape) = refl
inside_holds (type_specifier_seq whole) = refl
inside_holds (type_specifier_seq by_shape) = refl
inside_holds (type_id whole) = refl
inside_holds (type_id by_shape) = refl
inside_holds (declarator whole named) = refl
inside_holds (declarator whole unnamed) = refl
inside_holds (declarator whole either) = refl
inside_holds (declarator whole in_block) = refl
inside_holds (declarator by_shape named) = refl
inside_holds (declarator by_shape unnamed) = refl
inside_holds (declarator by_shape either) = refl
inside_holds (declarator by_shape in_block) = refl
inside_holds (direct_declarator whole named) = refl
inside_holds (direct_declarator whole unnamed) = refl
inside_holds (direct_declarator whole either) = refl
inside_holds (direct_declarator whole in_block) = refl
inside_holds (direct_declarator by_shape named) = refl
inside_holds (direct_declarator by_shape unnamed) = refl
inside_holds (direct_declarator by_shape either) = refl
inside_holds (direct_declarator by_shape in_block) = refl
inside_holds (parameter_declaration whole) = refl
inside_holds (parameter_declaration by_shape) = refl
inside_holds (parameter_declaration_clause whole) = refl
inside_holds (parameter_declaration_clause by_shape) = refl
inside_holds function_qualifiers = refl
inside_holds balanced = refl
inside_holds braced_init_list = refl
inside_holds initializer = refl
inside_holds (init_declarator named) = refl
inside_holds (init_declarator unnamed) = refl
inside_holds (init_declarator either) = refl
inside_holds (init_declarator in_block) = refl
inside_holds block_declaration = refl
inside_holds shaped_choice = refl
inside_holds shaped_init_declarator = refl
inside_holds shaped_declaration = refl
inside_holds compound_statement = refl
inside_holds statement = refl
inside_holds for_init_statement = refl
inside_holds handler = refl
inside_holds enumerator_definition = refl
inside_holds declaration_head = refl
inside_holds simple_declaration = refl
inside_holds (constructor_declarator qualified) = refl
inside_holds (constructor_declarator plain) = refl
inside_holds (destructor_declarator qualified) = refl
inside_holds (destructor_declarator plain) = refl
inside_holds member_initializer = refl
inside_holds member_declarator = refl
inside_holds initialized_member = refl
inside_holds listed_member = refl
inside_holds member_declaration = refl
inside_holds declaration = refl
inside_holds translation_unit = refl

pub token_inside : (source : Source) (a : ℕ) (test : Terminal → Bool) → not (test terminal.End) ≡ true → test (terminal_at source a) ≡ true
    → a < length source.terminals
token_inside source a test e f = elim (cases_lt a (length source.terminals)) [
  | inl h ↦ h
  | inr h ↦ absurd (true≢false (back f ∙ ap test (get_or_past source.terminals a terminal.End h) ∙ not-true (test terminal.End) e))
]

-- a text from an index among the tokens, or right behind the last, ends at such an index
pub inside : {lookahead : Lookahead → ℕ → Type 0} {bodies : Bodies} {source : Source} {p : Rule} {r s : Read} {a b : ℕ} {k : Option ℕ}
    → Derives lookahead bodies source p r a b k s → ends_inside p ≡ true → a ≤ length source.terminals → b ≤ length source.terminals
inside (is_nothing e f g) i h = omega (arith, e, h)
inside {source = source} (is_word {test = test} {a = a} t e f g) i h = let l = token_inside source a test i t in omega (arith, e, l)
inside {source = source} (is_mark {test = test} {a = a} t e f g) i h = let l = token_inside source a test i t in omega (arith, e, l)
inside (is_mark_next e f g) i h = omega (arith, e, h)
inside (is_mark_name e f g) i h = omega (arith, e, h)
inside (is_both {p = p} {q = q} x y e) i h = let j = and_parts (ends_inside p) (ends_inside q) i in inside y j.1 (inside x j.0 h)
inside (is_left {p = p} {q = q} x) i h = inside x (and_parts (ends_inside p) (ends_inside q) i).0 h
inside (is_right {p = p} {q = q} x) i h = inside x (and_parts (ends_inside p) (ends_inside q) i).1 h
inside (is_last e f g) i h = omega (arith, e, h)
inside (is_more x y e) i h = inside y i (inside x i h)
inside (is_form {f = f} x e g) i h = inside x (inside_holds f) h
inside (is_node x e f) i h = inside x i h
inside (is_wrap x e f) i h = inside x i h
inside {source = source} (is_kept_apart {n = n} e x f o y c g j k) i h = let l = token_inside source n close_brace refl c in omega (arith, g, l)
inside (is_in_tree e x y f g) i h = inside y refl (inside x i h)
inside (is_where x e) i h = inside x i h
inside (is_before x e) i h = inside x i h
inside (is_if l x) i h = inside x i h
inside (is_unless l x) i h = inside x i h
