-- Types and parameters by their shape look at nothing: their texts are the same whatever is seen.
use Rattle.std.proofs.Common.{◌≡◌, ℕ, ◌+◌, ◌<◌, ◌⊎◌, inl, inr, Bool, true, false, not, ◌&&◌, refl, sym as back, ◌∙◌, ap, subst, length, Option, None}
use Rattle.std.proofs.Common.{true≢false}
use Rattle.std.proofs.lemmas.Bool.{and_parts, cases_lt}
use Rattle.std.proofs.lemmas.List.{get_or_past}
use Rattle.cpp_syntax.specs.declared.terminal.Terminal.{Terminal}
use Rattle.cpp_syntax.specs.declared.terminal.Terminal.TheVariants as terminal
use Rattle.cpp_syntax.specs.Source.{Source, terminal_at}
use Rattle.cpp_syntax.specs.Terminals.{open_paren, close_paren}
use Rattle.cpp_syntax.specs.Rules.{Reading, whole, by_shape, Naming, named, unnamed, either, in_block, Nonterminal, type_specifier, type_specifier_seq, type_id}
use Rattle.cpp_syntax.specs.Rules.{declarator, direct_declarator, parameter_declaration, parameter_declaration_clause, function_qualifiers, balanced}
use Rattle.cpp_syntax.specs.Rules.{parameters, Lookahead, Rule, nothing, word, mark, mark_next, mark_name, ◌·◌, ◌∣◌, many, form, node_at, wrap, with_body}
use Rattle.cpp_syntax.specs.Rules.{where_, before_no, if_, unless}
use Rattle.cpp_syntax.specs.Grammar.{production, function_parameters}
use Rattle.cpp_syntax.specs.Derivations.{Read, no_read, kept_apart, Bodies, Derives, is_nothing, is_word, is_mark, is_mark_next, is_mark_name, is_both, is_left}
use Rattle.cpp_syntax.specs.Derivations.{is_right, is_last, is_more, is_form, is_node, is_wrap, is_kept_apart, is_in_tree, is_where, is_before, is_if}
use Rattle.cpp_syntax.specs.Derivations.{is_unless}
use Rattle.cpp_syntax.specs.FirstSets.{rule_nullable, rule_first_set}
use Rattle.cpp_syntax.specs.Lookahead.{lookahead_types, Shape, InParentheses}
use Rattle.cpp_syntax.specs.Shapes.{Spans, NoSpan, ParametersAt, BehindType}
use Rattle.cpp_syntax.proofs.DisjointFirstSets.{apart, never_both}
use Rattle.cpp_syntax.proofs.IndependentDerivations.{free}
use Rattle.cpp_syntax.proofs.LongestMatches.{none_at}

abbrev pub is_blind_form : Nonterminal → Bool
is_blind_form (type_specifier by_shape) = true
is_blind_form (type_specifier_seq by_shape) = true
is_blind_form (type_id by_shape) = true
is_blind_form (declarator by_shape unnamed) = true
is_blind_form (declarator by_shape either) = true
is_blind_form (direct_declarator by_shape unnamed) = true
is_blind_form (direct_declarator by_shape either) = true
is_blind_form (parameter_declaration by_shape) = true
is_blind_form (parameter_declaration_clause by_shape) = true
is_blind_form function_qualifiers = true
is_blind_form balanced = true
is_blind_form _ = false

abbrev pub is_blind : Rule → Bool
is_blind nothing = true
is_blind (word test) = true
is_blind (mark test) = true
is_blind mark_next = true
is_blind mark_name = true
is_blind (p · q) = is_blind p && is_blind q
is_blind (p ∣ q) = is_blind p && is_blind q
is_blind (many p) = is_blind p
is_blind (form f) = is_blind_form f
is_blind (node_at positioning kind p) = is_blind p
is_blind (wrap kind p) = is_blind p
is_blind (where_ test p) = is_blind p
is_blind (before_no test p) = is_blind p
is_blind (with_body kind p) = false
is_blind (if_ look p) = false
is_blind (unless look p) = false

blind_holds : (f : Nonterminal) → is_blind_form f ≡ true → is_blind (production f) ≡ true
blind_holds (type_specifier by_shape) e = refl
blind_holds (type_specifier_seq by_shape) e = refl
blind_holds (type_id by_shape) e = refl
blind_holds (declarator by_shape unnamed) e = refl
blind_holds (declarator by_shape either) e = refl
blind_holds (direct_declarator by_shape unnamed) e = refl
blind_holds (direct_declarator by_shape either) e = refl
blind_holds (parameter_declaration by_shape) e = refl
blind_holds (parameter_declaration_clause by_shape) e = refl
blind_holds function_qualifiers e = refl
blind_holds balanced e = refl
blind_holds _ e = absurd (true≢false (back e))

pub blind : {lookahead other : Lookahead → ℕ → Type 0} {bodies : Bodies} {source : Source} {p : Rule} {r s : Read} {a b : ℕ} {k : Option ℕ}
    → is_blind p ≡ true → Derives lookahead bodies source p r a b k s → Derives other bodies source p r a b k s
blind i (is_nothing e f g) = is_nothing e f g
blind i (is_word t e f g) = is_word t e f g
blind i (is_mark t e f g) = is_mark t e f g
blind i (is_mark_next e f g) = is_mark_next e f g
blind i (is_mark_name e f g) = is_mark_name e f g
blind i (is_both {p = p} {q = q} x y e) = let h = and_parts (is_blind p) (is_blind q) i in is_both (blind h.0 x) (blind h.1 y) e
blind i (is_left {p = p} {q = q} x) = is_left (blind (and_parts (is_blind p) (is_blind q) i).0 x)
blind i (is_right {p = p} {q = q} x) = is_right (blind (and_parts (is_blind p) (is_blind q) i).1 x)
blind i (is_last e f g) = is_last e f g
blind i (is_more x y e) = is_more (blind i x) (blind i y) e
blind i (is_form {f = f} x e g) = is_form (blind (blind_holds f i) x) e g
blind i (is_node x e f) = is_node (blind i x) e f
blind i (is_wrap x e f) = is_wrap (blind i x) e f
blind i (is_kept_apart e x f o y c g h j) = absurd (true≢false (back i))
blind i (is_in_tree e x y f g) = absurd (true≢false (back i))
blind i (is_where x e) = is_where (blind i x) e
blind i (is_before x e) = is_before (blind i x) e
blind i (is_if l x) = absurd (true≢false (back i))
blind i (is_unless l x) = absurd (true≢false (back i))

-- Shapes in parentheses.

pub no_parentheses : {s : Source} {f : Nonterminal} {a : ℕ} → open_paren (terminal_at s a) ≡ false → (b : ℕ) → InParentheses s f a b → ⊥
no_parentheses t b x = true≢false (back x.opened ∙ t)

-- where no shape begins behind the (
pub none_inside : {s : Source} (f : Nonterminal) {a : ℕ} → is_blind_form f ≡ true → NoSpan s (form f) (a + 1) → (b : ℕ) → InParentheses s f a b → ⊥
none_inside f i x b y = x b y.shape.0 y.shape.1 (blind i y.shape.2)

-- the longest shape behind the ( is the one that ends before a )
pub one_end : {s : Source} (f : Nonterminal) {a m : ℕ} → is_blind_form f ≡ true → apart (form f) (word close_paren) ≡ true
    → Spans s (form f) (a + 1) m → (b : ℕ) → InParentheses s f a b → b ≡ m
one_end {s = s} f i e x b y = elim (x.long.longest b y.shape.0 y.shape.1 (blind i y.shape.2)) [
  | inl h ↦ absurd (never_both (lookahead_types s) s (form f) (word close_paren) b e h.1 (λ seen w. y.closed))
  | inr h ↦ h.0
]

pub not_closed : {s : Source} (f : Nonterminal) {a m : ℕ} → is_blind_form f ≡ true → apart (form f) (word close_paren) ≡ true
    → Spans s (form f) (a + 1) m → close_paren (terminal_at s m) ≡ false → (b : ℕ) → InParentheses s f a b → ⊥
not_closed {s = s} f i e x t b y = true≢false (back y.closed ∙ ap (λ (n : ℕ). close_paren (terminal_at s n)) (one_end f i e x b y) ∙ t)

pub in_parentheses : {s : Source} (f : Nonterminal) {a m : ℕ} → is_blind_form f ≡ true → open_paren (terminal_at s a) ≡ true
    → Spans s (form f) (a + 1) m → close_paren (terminal_at s m) ≡ true → InParentheses s f a m
in_parentheses f i t x u = record { opened = t; shape = (x.marked, x.got, blind i x.long.derives); closed = u }

-- Parameters in parentheses are seen.

pub parameters_seen : {s : Source} {a b : ℕ} → ParametersAt s a b → lookahead_types s parameters a
parameters_seen {b = b} x = (b, in_parentheses (parameter_declaration_clause by_shape) refl x.opened x.spans x.closed)

shape_there : (s : Source) (f : Nonterminal) (a : ℕ) {m n : ℕ} {r t : Read} {k : Option ℕ} → is_blind_form f ≡ true → m ≡ a + 1
    → Derives (lookahead_types s) kept_apart s (form f) r m n k t → Shape s f (a + 1) n
shape_there s f a {n = n} {k = k} i e x = subst (λ (z : ℕ). Shape s f z n) e (let y = free refl x in (k, _, blind i (y.behind no_read)))

pub function_seen : {s : Source} {r t : Read} {a b : ℕ} {k : Option ℕ}
    → Derives (lookahead_types s) kept_apart s (function_parameters by_shape) r a b k t → lookahead_types s parameters a
function_seen {s = s} {a = a} (is_both (is_mark t0 e0 f0 g0) (is_both {m = n} x (is_both (is_word t1 e1 f1 g1) y h2) h1) h0) =
    (n, record { opened = t0; shape = shape_there s (parameter_declaration_clause by_shape) a refl e0 x; closed = t1 })

-- A text that is not empty begins at a token.
pub begins_inside : {lookahead : Lookahead → ℕ → Type 0} {bodies : Bodies} {source : Source} {p : Rule} {r s : Read} {a b : ℕ} {k : Option ℕ}
    → Derives lookahead bodies source p r a b k s → rule_nullable p ≡ false → rule_first_set p true terminal.End ≡ false
    → rule_first_set p false terminal.End ≡ false → a < length source.terminals
begins_inside {source = source} {r = r} {s = s} {a = a} {b = b} {k = k} x e f g = elim (cases_lt a (length source.terminals)) [
  | inl h ↦ h
  | inr h ↦ absurd (none_at terminal.End (get_or_past source.terminals a terminal.End h) e f g b k s x)
]
