-- Every text is balanced: each of its brackets is closed in it by its own kind.
--
-- text_balanced x refl : Balanced source.terminals a b    where x is a text from a to b of a rule with `effect p [] ≡ Some []`
-- form_balanced x      : the same of a form
use Rattle.std.proofs.Common.{◌≡◌, ℕ, zero, suc, ◌+◌, inl, inr, nat_eq, Bool, true, false, ◌&&◌, ◌||◌, if◌then◌else◌, option_and_then, refl, sym as back, ◌∙◌}
use Rattle.std.proofs.Common.{ap, arith, subst, List, [], ◌∷◌, ◌++◌, Option, Some, None, true≢false}
use Rattle.std.proofs.lemmas.Bool.{and_parts, cases_Bool, cond-true, cond-false}
use Rattle.cpp_syntax.specs.declared.terminal.Terminal.{Terminal}
use Rattle.cpp_syntax.specs.declared.terminal.Terminal.TheVariants as terminal
use Rattle.cpp_syntax.specs.Source.{Source}
use Rattle.cpp_syntax.specs.Terminals.{level_of, is_unbracketed, open_paren, close_paren, open_bracket, close_bracket, open_brace, close_brace}
use Rattle.cpp_syntax.specs.Balance.{terminal_in, closes, Balanced, is_empty, is_token, is_bracket}
use Rattle.cpp_syntax.specs.Rules.{whole, by_shape, named, unnamed, either, in_block, qualified, plain, Nonterminal, primary_expression, lambda_expression}
use Rattle.cpp_syntax.specs.Rules.{lambda_introducer, lambda_declarator, functional_type, expression_list, postfix_expression, unary_expression}
use Rattle.cpp_syntax.specs.Rules.{cast_expression, binary_expression, conditional_expression, assignment_expression, expression, type_specifier}
use Rattle.cpp_syntax.specs.Rules.{type_specifier_seq, type_id, declarator, direct_declarator, parameter_declaration, parameter_declaration_clause}
use Rattle.cpp_syntax.specs.Rules.{function_qualifiers, balanced, braced_init_list, initializer, init_declarator, block_declaration, shaped_choice}
use Rattle.cpp_syntax.specs.Rules.{shaped_init_declarator, shaped_declaration, compound_statement, statement, for_init_statement, handler}
use Rattle.cpp_syntax.specs.Rules.{enumerator_definition, declaration_head, simple_declaration, constructor_declarator, destructor_declarator}
use Rattle.cpp_syntax.specs.Rules.{member_initializer, member_declarator, initialized_member, listed_member, member_declaration, declaration, translation_unit}
use Rattle.cpp_syntax.specs.Rules.{Lookahead, Rule, nothing, word, mark, mark_next, mark_name, ◌·◌, ◌∣◌, many, form, node_at, wrap, with_body, where_}
use Rattle.cpp_syntax.specs.Rules.{before_no, if_, unless}
use Rattle.cpp_syntax.specs.Grammar.{production}
use Rattle.cpp_syntax.specs.Derivations.{Read, Bodies, Derives, is_nothing, is_word, is_mark, is_mark_next, is_mark_name, is_both, is_left, is_right, is_last}
use Rattle.cpp_syntax.specs.Derivations.{is_more, is_form, is_node, is_wrap, is_kept_apart, is_in_tree, is_where, is_before, is_if, is_unless}
use Rattle.cpp_syntax.proofs.TerminalTables.{passes, at_each, implies, implied}
use Rattle.cpp_syntax.proofs.OperatorLevels.{passes_by as each_passes}

-- Brackets that are open, the innermost first.

pub data Bracket : Type 0 where
  a_paren : Bracket
  a_bracket : Bracket
  a_brace : Bracket

abbrev pub opened_by : Bracket → Terminal → Bool
opened_by a_paren s = open_paren s
opened_by a_bracket s = open_bracket s
opened_by a_brace s = open_brace s

abbrev pub closed_by : Bracket → Terminal → Bool
closed_by a_paren s = close_paren s
closed_by a_bracket s = close_bracket s
closed_by a_brace s = close_brace s

-- What the tokens between two indices do to the open brackets.
data Nested (xs : List Terminal) : List Bracket → ℕ → ℕ → List Bracket → Type 0 where
  no_more : {st st' : List Bracket} {a b : ℕ} → b ≡ a → st' ≡ st → Nested xs st a b st'
  passes_by : {st st' : List Bracket} {a b : ℕ} → is_unbracketed (terminal_in xs a) ≡ true → Nested xs st (a + 1) b st' → Nested xs st a b st'
  opens_one : {st st' : List Bracket} {a b : ℕ} (k : Bracket) → opened_by k (terminal_in xs a) ≡ true → Nested xs (k ∷ st) (a + 1) b st' → Nested xs st a b st'
  closes_one : {st st' : List Bracket} {a b : ℕ} (k : Bracket) → closed_by k (terminal_in xs a) ≡ true → Nested xs st (a + 1) b st' → Nested xs (k ∷ st) a b st'

nested_then : {xs : List Terminal} {st st' st'' : List Bracket} {a m b : ℕ} → Nested xs st a m st' → Nested xs st' m b st'' → Nested xs st a b st''
nested_then {xs = xs} {st'' = st''} {b = b} (no_more {st = st} {b = m} e f) y =
    subst (λ (z : ℕ). Nested xs st z b st'') e (subst (λ (z : List Bracket). Nested xs z m b st'') f y)
nested_then (passes_by t x) y = passes_by t (nested_then x y)
nested_then (opens_one k t x) y = opens_one k t (nested_then x y)
nested_then (closes_one k t x) y = closes_one k t (nested_then x y)

-- under more open brackets
nested_under : {xs : List Terminal} {st st' : List Bracket} {a b : ℕ} (more : List Bracket) → Nested xs st a b st' → Nested xs (st ++ more) a b (st' ++ more)
nested_under more (no_more e f) = no_more e (ap (λ (z : List Bracket). z ++ more) f)
nested_under more (passes_by t x) = passes_by t (nested_under more x)
nested_under more (opens_one k t x) = opens_one k t (nested_under more x)
nested_under more (closes_one k t x) = closes_one k t (nested_under more x)

-- Balanced tokens, and behind each a bracket that closes the innermost one open.
abbrev EndsWith : List Terminal → List Bracket → ℕ → ℕ → Type 0
EndsWith xs [] a b = Balanced xs a b
EndsWith xs (k ∷ st) a b = (m : ℕ) × Balanced xs a m × (closed_by k (terminal_in xs m) ≡ true) × EndsWith xs st (m + 1) b

bracket_closes : (k : Bracket) (x y : Terminal) → opened_by k x ≡ true → closed_by k y ≡ true → closes x y ≡ true
bracket_closes a_paren terminal.OpenParen terminal.CloseParen e f = refl
bracket_closes a_bracket terminal.OpenBracket terminal.CloseBracket e f = refl
bracket_closes a_brace terminal.OpenBrace terminal.CloseBrace e f = refl
bracket_closes a_paren _ _ e f = cc
bracket_closes a_bracket _ _ e f = cc
bracket_closes a_brace _ _ e f = cc

before_ends : (xs : List Terminal) (st : List Bracket) (a m b : ℕ) → ((c : ℕ) → Balanced xs m c → Balanced xs a c) → EndsWith xs st m b → EndsWith xs st a b
before_ends xs [] a m b f x = f b x
before_ends xs (k ∷ st) a m b f x = (x.0, f x.0 x.1, x.2, x.3)

nested_ends : (xs : List Terminal) {st : List Bracket} {a b : ℕ} → Nested xs st a b [] → EndsWith xs st a b
nested_ends xs {a = a} {b = b} (no_more {st = st} e f) = subst (λ (z : List Bracket). EndsWith xs z a b) f (is_empty e)
nested_ends xs {a = a} {b = b} (passes_by {st = st} t x) = before_ends xs st a (a + 1) b (λ c y. is_token t y) (nested_ends xs x)
nested_ends xs {a = a} {b = b} (opens_one {st = st} k t x) =
    let h = nested_ends xs x in before_ends xs st a (h.0 + 1) b (λ c y. is_bracket h.1
    (bracket_closes k (terminal_in xs a) (terminal_in xs h.0) t h.2) y) h.3
nested_ends xs {a = a} (closes_one k t x) = (a, is_empty refl, t, nested_ends xs x)

balanced_nested : {xs : List Terminal} {a b : ℕ} → Balanced xs a b → (st : List Bracket) → Nested xs st a b st
balanced_nested (is_empty e) st = no_more e refl
balanced_nested (is_token t x) st = passes_by t (balanced_nested x st)
balanced_nested {xs = xs} {a = a} (is_bracket {m = m} x t y) st =
    let h = shut (terminal_in xs a) (terminal_in xs m) t in opens_one h.0 h.1 (nested_then (balanced_nested x (h.0 ∷ st))
    (closes_one h.0 h.2 (balanced_nested y st)))
  where
    shut : (x y : Terminal) → closes x y ≡ true → (k : Bracket) × (opened_by k x ≡ true) × (closed_by k y ≡ true)
    shut terminal.OpenParen terminal.CloseParen e = (a_paren, refl, refl)
    shut terminal.OpenBracket terminal.CloseBracket e = (a_bracket, refl, refl)
    shut terminal.OpenBrace terminal.CloseBrace e = (a_brace, refl, refl)
    shut _ _ e = absurd cc

-- What a rule does to the open brackets, if that can be told of it.

abbrev pub all_within : (Terminal → Bool) → (Terminal → Bool) → Bool
all_within test other = passes (λ s. implies (test s) (other s))

abbrev pub shuts : (Terminal → Bool) → List Bracket → Option (List Bracket)
shuts test [] = None
shuts test (k ∷ st) = if all_within test (closed_by k) then Some st else None

abbrev pub token_effect : (Terminal → Bool) → List Bracket → Option (List Bracket)
token_effect test st =
    if all_within test is_unbracketed then Some st
    else if all_within test open_paren then Some (a_paren ∷ st)
    else if all_within test open_bracket then Some (a_bracket ∷ st)
    else if all_within test open_brace then Some (a_brace ∷ st)
    else shuts test st

abbrev pub leaves_even : Option (List Bracket) → Bool
leaves_even (Some []) = true
leaves_even _ = false

abbrev pub effect : Rule → List Bracket → Option (List Bracket)
effect nothing st = Some st
effect (word test) st = token_effect test st
effect (mark test) st = token_effect test st
effect mark_next st = Some st
effect mark_name st = Some st
effect (p · q) st = option_and_then (λ z. effect q z) (effect p st)
effect (p ∣ q) st = if leaves_even (effect p []) && leaves_even (effect q []) then Some st else None
effect (many p) st = if leaves_even (effect p []) then Some st else None
effect (form f) st = Some st
effect (node_at positioning kind p) st = effect p st
effect (wrap kind p) st = effect p st
effect (with_body kind p) st = effect p st
effect (where_ test p) st = effect p st
effect (before_no test p) st = effect p st
effect (if_ look p) st = effect p st
effect (unless look p) st = effect p st

-- Each production leaves no bracket open and closes none but its own.

plain_within : (n : ℕ) (s : Terminal) → implies (nat_eq (level_of s) (suc n)) (is_unbracketed s) ≡ true
plain_within n s = by (is_unbracketed s) (level_of s) (at_each (λ z. is_unbracketed z || nat_eq (level_of z) 0) refl s)
  where
    by : (u : Bool) (l : ℕ) → (u || nat_eq l 0) ≡ true → implies (nat_eq l (suc n)) u ≡ true
    by true l e = always (nat_eq l (suc n))
      where
        always : (b : Bool) → implies b true ≡ true
        always true = refl
        always false = refl
    by false l e = let h : nat_eq l (suc n) ≡ false = grind (arith, e) in ap (λ (b : Bool). implies b false) h

level_effect : (n : ℕ) → token_effect (λ s. nat_eq (level_of s) (suc n)) [] ≡ Some []
level_effect n =
    cond-true (all_within (λ s. nat_eq (level_of s) (suc n)) is_unbracketed) (Some []) _
    (each_passes (λ s. implies (nat_eq (level_of s) (suc n)) (is_unbracketed s)) (plain_within n))

even_holds : (f : Nonterminal) → effect (production f) [] ≡ Some []
even_holds primary_expression = refl
even_holds lambda_expression = refl
even_holds lambda_introducer = refl
even_holds lambda_declarator = refl
even_holds functional_type = refl
even_holds expression_list = refl
even_holds postfix_expression = refl
even_holds unary_expression = refl
even_holds cast_expression = refl
even_holds (binary_expression zero) = refl
even_holds (binary_expression (suc n)) =
    ap (λ (o : Option (List Bracket)). if leaves_even (option_and_then (λ z. Some z) o) then Some [] else None) (level_effect n)
even_holds conditional_expression = refl
even_holds assignment_expression = refl
even_holds expression = refl
even_holds (type_specifier whole) = refl
even_holds (type_specifier by_shape) = refl
even_holds (type_specifier_seq whole) = refl
even_holds (type_specifier_seq by_shape) = refl
even_holds (type_id whole) = refl
even_holds (type_id by_shape) = refl
even_holds (declarator whole named) = refl
even_holds (declarator whole unnamed) = refl
even_holds (declarator whole either) = refl
even_holds (declarator whole in_block) = refl
even_holds (declarator by_shape named) = refl
even_holds (declarator by_shape unnamed) = refl
even_holds (declarator by_shape either) = refl
even_holds (declarator by_shape in_block) = refl
even_holds (direct_declarator whole named) = refl
even_holds (direct_declarator whole unnamed) = refl
even_holds (direct_declarator whole either) = refl
even_holds (direct_declarator whole in_block) = refl
even_holds (direct_declarator by_shape named) = refl
even_holds (direct_declarator by_shape unnamed) = refl
even_holds (direct_declarator by_shape either) = refl
even_holds (direct_declarator by_shape in_block) = refl
even_holds (parameter_declaration whole) = refl
even_holds (parameter_declaration by_shape) = refl
even_holds (parameter_declaration_clause whole) = refl
even_holds (parameter_declaration_clause by_shape) = refl
even_holds function_qualifiers = refl
even_holds balanced = refl
even_holds braced_init_list = refl
even_holds initializer = refl
even_holds (init_declarator named) = refl
even_holds (init_declarator unnamed) = refl
even_holds (init_declarator either) = refl
even_holds (init_declarator in_block) = refl
even_holds block_declaration = refl
even_holds shaped_choice = refl
even_holds shaped_init_declarator = refl
even_holds shaped_declaration = refl
even_holds compound_statement = refl
even_holds statement = refl
even_holds for_init_statement = refl
even_holds handler = refl
even_holds enumerator_definition = refl
even_holds declaration_head = refl
even_holds simple_declaration = refl
even_holds (constructor_declarator qualified) = refl
even_holds (constructor_declarator plain) = refl
even_holds (destructor_declarator qualified) = refl
even_holds (destructor_declarator plain) = refl
even_holds member_initializer = refl
even_holds member_declarator = refl
even_holds initialized_member = refl
even_holds listed_member = refl
even_holds member_declaration = refl
even_holds declaration = refl
even_holds translation_unit = refl

-- So the texts of a rule do what it does.

within_at : (test other : Terminal → Bool) → all_within test other ≡ true → (s : Terminal) → test s ≡ true → other s ≡ true
within_at test other e s t = implied (test s) (other s) (at_each (λ z. implies (test z) (other z)) e s) t

some_is : {A : Type 0} {x y : A} → Some x ≡ Some y → y ≡ x
some_is e = cc

shuts_nested : (xs : List Terminal) (test : Terminal → Bool) (st st' : List Bracket) (a b : ℕ) → shuts test st ≡ Some st'
    → test (terminal_in xs a) ≡ true → b ≡ a + 1 → Nested xs st a b st'
shuts_nested xs test [] st' a b e t f = absurd cc
shuts_nested xs test (k ∷ st) st' a b e t f = elim (cases_Bool (all_within test (closed_by k))) [
  | inl h ↦ closes_one k (within_at test (closed_by k) h (terminal_in xs a) t) (no_more f
      (some_is (back (cond-true (all_within test (closed_by k)) (Some st) None h) ∙ e)))
  | inr h ↦ absurd (let g = back (cond-false (all_within test (closed_by k)) (Some st) None h) ∙ e in cc)
]

token_nested : (xs : List Terminal) (test : Terminal → Bool) (st st' : List Bracket) (a b : ℕ) → token_effect test st ≡ Some st'
    → test (terminal_in xs a) ≡ true → b ≡ a + 1 → Nested xs st a b st'
token_nested xs test st st' a b e t f = elim (cases_Bool (all_within test is_unbracketed)) [
  | inl h ↦ passes_by (within_at test is_unbracketed h (terminal_in xs a) t) (no_more f (some_is (back (cond-true (all_within test is_unbracketed) _ _ h) ∙ e)))
  | inr h ↦ let e1 = back (cond-false (all_within test is_unbracketed) _ _ h) ∙ e in elim (cases_Bool (all_within test open_paren)) [
    | inl i ↦ opens_one a_paren (within_at test open_paren i (terminal_in xs a) t) (no_more f
        (some_is (back (cond-true (all_within test open_paren) _ _ i) ∙ e1)))
    | inr i ↦ let e2 = back (cond-false (all_within test open_paren) _ _ i) ∙ e1 in elim (cases_Bool (all_within test open_bracket)) [
      | inl j ↦ opens_one a_bracket (within_at test open_bracket j (terminal_in xs a) t)
          (no_more f (some_is (back (cond-true (all_within test open_bracket) _ _ j) ∙ e2)))
      | inr j ↦ let e3 = back (cond-false (all_within test open_bracket) _ _ j) ∙ e2 in elim (cases_Bool (all_within test open_brace)) [
        | inl k ↦ opens_one a_brace (within_at test open_brace k (terminal_in xs a) t) (no_more f
            (some_is (back (cond-true (all_within test open_brace) _ _ k) ∙ e3)))
        | inr k ↦ shuts_nested xs test st st' a b (back (cond-false (all_within test open_brace) _ _ k) ∙ e3) t f
      ]
    ]
  ]
]

then_parts : (o : Option (List Bracket)) (f : List Bracket → Option (List Bracket)) (z : List Bracket) → option_and_then f o ≡ Some z
    → (y : List Bracket) × (o ≡ Some y) × (f y ≡ Some z)
then_parts None f z e = absurd cc
then_parts (Some y) f z e = (y, refl, e)

even_is : (o : Option (List Bracket)) → leaves_even o ≡ true → o ≡ Some []
even_is (Some []) e = refl
even_is (Some (k ∷ st)) e = absurd (true≢false (back e))
even_is None e = absurd (true≢false (back e))

if_some : (b : Bool) (st st' : List Bracket) → (if b then Some st else None) ≡ Some st' → (b ≡ true) × (st' ≡ st)
if_some true st st' e = (refl, some_is e)
if_some false st st' e = absurd cc

even_under : {xs : List Terminal} {a b : ℕ} (st st' : List Bracket) → st' ≡ st → Nested xs [] a b [] → Nested xs st a b st'
even_under {xs = xs} {a = a} {b = b} st st' e x = subst (λ (z : List Bracket). Nested xs st a b z) (back e) (nested_under st x)

text_nested : {lookahead : Lookahead → ℕ → Type 0} {bodies : Bodies} {source : Source} {p : Rule} {r s : Read} {a b : ℕ} {k : Option ℕ}
    → Derives lookahead bodies source p r a b k s → (st st' : List Bracket) → effect p st ≡ Some st' → Nested source.terminals st a b st'
text_nested (is_nothing e f g) st st' h = no_more e (some_is h)
text_nested {source = source} (is_word {test = test} {a = a} {b = b} t e f g) st st' h = token_nested source.terminals test st st' a b h t e
text_nested {source = source} (is_mark {test = test} {a = a} {b = b} t e f g) st st' h = token_nested source.terminals test st st' a b h t e
text_nested (is_mark_next e f g) st st' h = no_more e (some_is h)
text_nested (is_mark_name e f g) st st' h = no_more e (some_is h)
text_nested (is_both {p = p} {q = q} x y e) st st' h =
    let z = then_parts (effect p st) (λ z. effect q z) st' h in nested_then (text_nested x st z.0 z.1) (text_nested y z.0 st' z.2)
text_nested (is_left {p = p} {q = q} x) st st' h = let z = if_some (leaves_even (effect p []) && leaves_even (effect q [])) st st' h in
    even_under st st' z.1 (text_nested x [] [] (even_is (effect p []) (and_parts (leaves_even (effect p [])) (leaves_even (effect q [])) z.0).0))
text_nested (is_right {p = p} {q = q} x) st st' h = let z = if_some (leaves_even (effect p []) && leaves_even (effect q [])) st st' h in
    even_under st st' z.1 (text_nested x [] [] (even_is (effect q []) (and_parts (leaves_even (effect p [])) (leaves_even (effect q [])) z.0).1))
text_nested (is_last {p = p} e f g) st st' h = no_more e (if_some (leaves_even (effect p [])) st st' h).1
text_nested (is_more {p = p} x y e) st st' h =
    let z = if_some (leaves_even (effect p [])) st st' h in nested_then (even_under st st refl (text_nested x [] [] (even_is (effect p []) z.0)))
    (text_nested y st st' h)
text_nested (is_form {f = f} x e g) st st' h = even_under st st' (some_is h) (text_nested x [] [] (even_holds f))
text_nested (is_node x e f) st st' h = text_nested x st st' h
text_nested (is_wrap x e f) st st' h = text_nested x st st' h
text_nested {source = source} (is_kept_apart {b = b} e x f o y c g i j) st st' h =
    nested_then (text_nested x st st' h) (opens_one a_brace o (nested_then (text_nested y (a_brace ∷ st') (a_brace ∷ st') refl)
    (closes_one a_brace c (no_more g refl))))
text_nested (is_in_tree e x y f g) st st' h = nested_then (text_nested x st st' h) (text_nested y st' st' refl)
text_nested (is_where x e) st st' h = text_nested x st st' h
text_nested (is_before x e) st st' h = text_nested x st st' h
text_nested (is_if l x) st st' h = text_nested x st st' h
text_nested (is_unless l x) st st' h = text_nested x st st' h

-- a text is balanced
pub text_balanced : {lookahead : Lookahead → ℕ → Type 0} {bodies : Bodies} {source : Source} {p : Rule} {r s : Read} {a b : ℕ} {k : Option ℕ}
    → Derives lookahead bodies source p r a b k s → effect p [] ≡ Some [] → Balanced source.terminals a b
text_balanced {source = source} x e = nested_ends source.terminals (text_nested x [] [] e)

pub form_balanced : {lookahead : Lookahead → ℕ → Type 0} {bodies : Bodies} {source : Source} {f : Nonterminal} {r s : Read} {a b : ℕ} {k : Option ℕ}
    → Derives lookahead bodies source (form f) r a b k s → Balanced source.terminals a b
form_balanced x = text_balanced x refl
