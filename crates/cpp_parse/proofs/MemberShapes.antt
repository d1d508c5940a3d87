-- What a member can be whose type begins at an index, by what stands behind its first declarator. Below, m is the index behind
-- the longest declarator, and e that behind the longest initializer, if = stands at m.
use Rattle.std.proofs.Common.{◌≡◌, ℕ, zero, suc, ◌+◌, inl, inr, ◌<◌, nat_eq, true, false, not, ◌&&◌, refl, sym as back, ◌∙◌, ap, subst, arith, length, Option}
use Rattle.std.proofs.Common.{None}
use Rattle.std.proofs.Common.{true≢false}
use Rattle.std.proofs.lemmas.Bool.{not-true, and_from, and_parts, cases_Bool}
use Rattle.cpp_syntax.specs.declared.terminal.Terminal.{Terminal}
use Rattle.cpp_syntax.specs.Source.{Source, terminal_at}
use Rattle.cpp_syntax.specs.Terminals.{level_of, is_zero, is_integer, semicolon, comma, equal, open_paren}
use Rattle.cpp_syntax.specs.Types.{is_not_zero}
use Rattle.cpp_syntax.specs.Rules.{Nonterminal, cast_expression, binary_expression, assignment_expression, a_cast, word, ◌·◌, form}
use Rattle.cpp_syntax.specs.Rules.{where_, optional}
use Rattle.cpp_syntax.specs.Derivations.{Read, no_read, kept_apart, Derives, is_nothing, is_word, is_mark, is_both, is_left, is_right, is_node, is_where}
use Rattle.cpp_syntax.specs.Longest.{LongestMatch}
use Rattle.cpp_syntax.specs.Lookahead.{lookahead}
use Rattle.cpp_syntax.specs.Parsed.{NoneOf}
use Rattle.cpp_syntax.proofs.TerminalTables.{at_each, implies, implied}
use Rattle.cpp_syntax.proofs.DisjointFirstSets.{never_both}
use Rattle.cpp_syntax.proofs.FirstTerminals.{not_empty}
use Rattle.cpp_syntax.proofs.DeclaratorForms.{differ}
use Rattle.cpp_syntax.proofs.LongestMatches.{carry, seq, seq_none, seq_ends, left, left_out, taken, mark_long, node_long, form_long, unless_long, word_none}
use Rattle.cpp_syntax.proofs.LongestMatches.{mark_none, node_none, where_refused}
use Rattle.cpp_syntax.proofs.OperatorLevels.{levels_apart, operated_none}
use Rattle.cpp_parse_expr.proofs.ReaderAnswers.{none_unlike, none_second_mark}
use Rattle.cpp_parse.specs.Alternatives.{types, named_declarator, single, initialized, listed, with_function_body, pure_specifier}
use Rattle.cpp_parse.specs.Answers.{Reaches}
use Rattle.cpp_parse.specs.MemberHeads.{rest_single, rest_initialized, rest_listed, rest_function}
use Rattle.cpp_parse.proofs.LongestAlone.{none_reached, none_skipped, many_none}
use Rattle.cpp_parse.proofs.NamedDeclarators.{none_formed, none_member, none_grouped}

pub no_single : {s : Source} {a h m : ℕ} → Reaches s types a h → Reaches s named_declarator h m → NoneOf s rest_single m → NoneOf s single a
no_single x y n = none_reached x (none_formed (none_member y n refl refl refl refl) refl) refl refl refl

pub no_initialized : {s : Source} {a h m : ℕ} → Reaches s types a h → Reaches s named_declarator h m → NoneOf s rest_initialized m → NoneOf s initialized a
no_initialized x y n = none_reached x (none_formed (none_member y n refl refl refl refl) refl) refl refl refl

pub no_listed : {s : Source} {a h m : ℕ} → Reaches s types a h → Reaches s named_declarator h m → NoneOf s rest_listed m → NoneOf s listed a
no_listed x y n = none_reached x (none_formed (none_member y n refl refl refl refl) refl) refl refl refl

pub no_function_body : {s : Source} {a h m : ℕ} → Reaches s types a h → Reaches s named_declarator h m → NoneOf s rest_function m
    → NoneOf s with_function_body a
no_function_body x y n = none_reached x (none_reached y n refl refl refl) refl refl refl

-- 0 before ; is an expression, and the longest there.

record ZeroText (s : Source) (f : Nonterminal) (a : ℕ) : Type 0 where
  got : Read
  long : LongestMatch (lookahead s) kept_apart s (form f) no_read a (a + 1) None got

zero_is_integer : (z : Terminal) → is_zero z ≡ true → is_integer z ≡ true
zero_is_integer z t = implied (is_zero z) (is_integer z) (at_each (λ y. implies (is_zero y) (is_integer y)) refl z) t

no_operator : (z : Terminal) (n : ℕ) → semicolon z ≡ true → level_of z ≡ n + 1 → ⊥
no_operator z n t e =
    let i = implied (semicolon z) (nat_eq (level_of z) 0) (at_each (λ y. implies (semicolon y) (nat_eq (level_of y) 0)) refl z) t in
    absurd (grind (arith, i, e))

module _ (s : Source) (a : ℕ) (t : is_zero (terminal_at s a) ≡ true) (u : semicolon (terminal_at s (a + 1)) ≡ true) where
  no_cast : lookahead s a_cast a → ⊥
  no_cast h = differ is_zero open_paren refl (terminal_at s a) t (h.1).opened

  zero_cast : ZeroText s cast_expression a
  zero_cast = record {
    got = _;
    long = form_long (left (unless_long no_cast (form_long (left
        (form_long (seq (form_long (left (left (node_long (mark_long (zero_is_integer (terminal_at s a) t))) (none_unlike is_zero t refl refl))
        (none_unlike is_zero t refl refl))) (many_none (none_unlike semicolon u refl refl)) refl))
        (none_unlike is_zero t refl refl)))) (none_unlike is_zero t refl refl));
  }

  zero_binary : (n : ℕ) → ZeroText s (binary_expression n) a
  zero_binary zero = record { got = _; long = form_long zero_cast.long }
  zero_binary (suc n) = record {
    got = _;
    long = form_long (seq (zero_binary n).long (many_none (operated_none (no_operator (terminal_at s (a + 1)) n u))) (levels_apart n));
  }

  zero_text : ZeroText s assignment_expression a
  zero_text = record {
    got = _;
    long = form_long (left (seq (zero_binary 10).long (left_out (none_unlike semicolon u refl refl)) refl) (none_unlike is_zero t refl refl));
  }

  zero_reached : a < length s.terminals → Reaches s (form assignment_expression) a (a + 1)
  zero_reached i = record { marked = None; got = zero_text.got; long = zero_text.long; inside = omega (arith, i) }

-- Behind = .

-- one member alone is pure, or has no =
pub not_pure : {s : Source} {m : ℕ} → equal (terminal_at s m) ≡ true
    → (is_zero (terminal_at s (m + 1)) ≡ true → semicolon (terminal_at s (m + 1 + 1)) ≡ true → ⊥) → NoneOf s rest_single m
not_pure {s = s} {m = m} t f = none_grouped (seq_ends (many_none (none_unlike equal t refl refl)) only refl refl)
  where
    only : NoneOf s (optional pure_specifier · word semicolon) m
    only b k o (is_both (is_left (is_node (is_both (is_mark g h i j) (is_node (is_mark g' h' i' j') e1 e2) e3) e4 e5)) (is_word u h'' i'' j'') e6) = f
        (subst (λ (n : ℕ). is_zero (terminal_at s n) ≡ true) h g')
        (subst (λ (n : ℕ). semicolon (terminal_at s n) ≡ true) (h' ∙ ap (λ (n : ℕ). n + 1) h) u)
    only b k o (is_both (is_right (is_nothing g h i)) (is_word u h'' i'' j'') e6) =
        differ equal semicolon refl (terminal_at s m) t (subst (λ (n : ℕ). semicolon (terminal_at s n) ≡ true) g u)

-- what an initializer and ; behind it are
initializer_closed : {s : Source} {m e b : ℕ} {k : Option ℕ} {o : Read} → Reaches s (form assignment_expression) (m + 1) e
    → Derives (lookahead s) kept_apart s rest_initialized no_read m b k o → (semicolon (terminal_at s e) ≡ true) × (is_not_zero s (m + 1) e ≡ true)
initializer_closed {s = s} {m = m} {e = e} x (is_both (is_node (is_both {m = m'} (is_mark g h i j) (is_where {s = o'} {b = c} {k = k'} u z) e3) e4
    e5) (is_word t h' i' j') e6) = elim ((x.long).longest c k' o' (carry h j u)) [
      | inl d ↦ absurd (never_both (lookahead s) s (form assignment_expression) (word semicolon) c refl d.1 (λ seen w. t))
      | inr d ↦ (
        subst (λ (n : ℕ). semicolon (terminal_at s n) ≡ true) d.0 t,
        subst (λ (n : ℕ). is_not_zero s n e ≡ true) h
            (subst (λ (n : ℕ). is_not_zero s m' n ≡ true) d.0 z),
      )
    ]

pub not_closed : {s : Source} {m e : ℕ} → Reaches s (form assignment_expression) (m + 1) e → semicolon (terminal_at s e) ≡ false → NoneOf s rest_initialized m
not_closed x f b k o u = true≢false (back (initializer_closed x u).0 ∙ f)

zero_refused : (s : Source) (a e : ℕ) → is_zero (terminal_at s a) ≡ true → e ≡ a + 1 → is_not_zero s a e ≡ false
zero_refused s a e t h = ap not (and_from (is_zero (terminal_at s a)) (nat_eq e (a + 1)) t (grind (arith, h)))

-- 0 before ; makes a function pure
pub zero_alone : {s : Source} {m : ℕ} → is_zero (terminal_at s (m + 1)) ≡ true → semicolon (terminal_at s (m + 1 + 1)) ≡ true
    → m + 1 < length s.terminals → NoneOf s rest_initialized m
zero_alone {s = s} {m = m} t u i b k o v =
    true≢false (back (initializer_closed (zero_reached s (m + 1) t u i) v).1 ∙ zero_refused s (m + 1) (m + 1 + 1) t refl)

semicolon_no_comma : (z : Terminal) → semicolon z ≡ true → comma z ≡ false
semicolon_no_comma z t = not-true (comma z) (implied (semicolon z) (not (comma z)) (at_each (λ y. implies (semicolon y) (not (comma y))) refl z) t)

pub comma_open : (z : Terminal) → comma z ≡ true → semicolon z ≡ false
comma_open z t = not-true (semicolon z) (implied (comma z) (not (semicolon z)) (at_each (λ y. implies (comma y) (not (semicolon y))) refl z) t)

pub no_more : {s : Source} {m e : ℕ} → equal (terminal_at s m) ≡ true → Reaches s (form assignment_expression) (m + 1) e
    → comma (terminal_at s e) ≡ false → NoneOf s rest_listed m
no_more t x f = seq_ends (taken (node_long (seq (mark_long t) x.long refl)) refl) (seq_none (seq_none (seq_none (word_none f)))) refl refl

pub zero_unlisted : {s : Source} {m : ℕ} → equal (terminal_at s m) ≡ true → is_zero (terminal_at s (m + 1)) ≡ true
    → semicolon (terminal_at s (m + 1 + 1)) ≡ true → m + 1 < length s.terminals → NoneOf s rest_listed m
zero_unlisted {s = s} {m = m} e t u i = no_more e (zero_reached s (m + 1) t u i) (semicolon_no_comma (terminal_at s (m + 1 + 1)) u)

-- no initializer stands behind =
pub no_value : {s : Source} {m : ℕ} → equal (terminal_at s m) ≡ true → NoneOf s (form assignment_expression) (m + 1) → NoneOf s rest_listed m
no_value t n = none_skipped (node_none (none_second_mark n)) (none_unlike equal t refl refl) refl refl

-- Where neither = nor , stands behind the declarator.
pub no_equal_listed : {s : Source} {m : ℕ} → equal (terminal_at s m) ≡ false → comma (terminal_at s m) ≡ false → NoneOf s rest_listed m
no_equal_listed f g = none_skipped (node_none (seq_none (mark_none f))) (seq_none (seq_none (seq_none (word_none g)))) refl refl

-- 0 alone is refused where an initializer may not be 0.
zero_parts : (s : Source) (a e : ℕ) → is_not_zero s a e ≡ false → e ≡ a + 1
zero_parts s a e f = elim (cases_Bool (is_zero (terminal_at s a) && nat_eq e (a + 1))) [
  | inl h ↦ let i = (and_parts (is_zero (terminal_at s a)) (nat_eq e (a + 1)) h).1 in grind (arith, i)
  | inr h ↦ absurd (true≢false (back (ap not h) ∙ f))
]

pub none_but_zero : {s : Source} {a e : ℕ} → Reaches s (form assignment_expression) a e → is_not_zero s a e ≡ false
    → NoneOf s (where_ is_not_zero (form assignment_expression)) a
none_but_zero {s = s} {a = a} {e = e} x f = where_refused only
  where
    only : (c : ℕ) (k : Option ℕ) (o : Read) → Derives (lookahead s) kept_apart s (form assignment_expression) no_read a c k o → is_not_zero s a c ≡ false
    only c k o u = elim ((x.long).longest c k o u) [
      | inl h ↦ let lt = h.0 in let n = not_empty u refl in let at = zero_parts s a e f in absurd (omega (arith, lt, n, at))
      | inr h ↦ ap (λ (n : ℕ). is_not_zero s a n) h.0 ∙ f
    ]
