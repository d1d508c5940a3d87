-- The shapes of declarations, from those of their parts.
use Rattle.std.proofs.Common.{◌≡◌, ℕ, zero, suc, ◌+◌, ◌<◌, ◌≤◌, ◌⊎◌, inl, inr, ◌↔◌, Bool, true, false, not, ◌&&◌, ◌||◌, refl, sym as back, ◌∙◌, ap, arith}
use Rattle.std.proofs.Common.{subst, List, length, Option, Some, None, Result, Ok, Err, true≢false}
use Rattle.std.proofs.lemmas.Bool.{cases_lt, and_from, and_parts, or_left}
use Rattle.std.specs.declared.alloc.AllocError.{AllocError}
use Rattle.cpp_syntax.specs.declared.terminal.Terminal.{Terminal}
use Rattle.cpp_syntax.specs.declared.terminal.Terminal.TheVariants as terminal
use Rattle.cpp_syntax.specs.Source.{Source, terminal_at}
use Rattle.cpp_syntax.specs.Terminals.{is_unseparated, is_chosen, is_unbracketed, equal, comma, colon, question, semicolon, open_paren, close_paren}
use Rattle.cpp_syntax.specs.Terminals.{open_bracket, close_bracket, open_brace, close_brace, ReadsAs}
use Rattle.cpp_syntax.specs.Balance.{closes, Balanced, Partners, IsPartner}
use Rattle.cpp_syntax.specs.Rules.{by_shape, named, type_specifier_seq, declarator, balanced, shaped_choice, shaped_init_declarator, shaped_declaration}
use Rattle.cpp_syntax.specs.Rules.{parameters, a_declaration, Lookahead, Rule, nothing, word, ◌·◌, ◌∣◌, many, some, form, unless, optional}
use Rattle.cpp_syntax.specs.Grammar.{production, list, bracketed, shaped_token, shaped_initializers}
use Rattle.cpp_syntax.specs.Derivations.{Read, no_read, first_or, kept_apart, Bodies, Derives, is_word, is_both, is_left, is_right, is_last, is_more, is_form}
use Rattle.cpp_syntax.specs.Derivations.{is_unless}
use Rattle.cpp_syntax.specs.FirstSets.{rule_nullable, rule_continuation_set}
use Rattle.cpp_syntax.specs.Longest.{IsNoLonger, LongestMatch, NoDerivation}
use Rattle.cpp_syntax.specs.Lookahead.{lookahead_types, lookahead}
use Rattle.cpp_syntax.specs.Shapes.{SpansBehind, Spans, NoSpan, Recognised}
use Rattle.cpp_syntax.proofs.TerminalTables.{passes}
use Rattle.cpp_syntax.proofs.SingleTerminals.{passed, passed_not}
use Rattle.cpp_syntax.proofs.FirstTerminals.{ends_behind, not_empty}
use Rattle.cpp_syntax.proofs.DisjointFirstSets.{goes_wider}
use Rattle.cpp_syntax.proofs.Balances.{run, run_text, text_run, balanced_long}
use Rattle.cpp_syntax.proofs.LongestMatches.{word_none, neither, seq_none, form_none, unless_long, unless_none, unless_seen}
use Rattle.cpp_syntax.proofs.Recognisers.{spans_word, spans_form, spans_seq, spans_left, spans_right, spans_taken, spans_left_out, none_after, none_seq}
use Rattle.cpp_syntax.proofs.ShapeDerivations.{begins_inside}
use Rattle.cpp_syntax.proofs.TypeShapes.{refused_by}
use Rattle.cpp_syntax.proofs.DeclaratorShapes.{partner_closes, no_partner}

-- At least one of a rule, from any number of it.

pub some_of_many : {s : Source} {p : Rule} {a b : ℕ} → Spans s (many p) a b → a < b → Spans s (some p) a b
some_of_many {s = s} {p = p} {a = a} {b = b} x h = record { marked = x.marked; got = x.got; long = record { derives = filled x.long.derives; longest = only } }
  where
    filled : {k : Option ℕ} {r : Read} → Derives (lookahead_types s) kept_apart s (many p) no_read a b k r
        → Derives (lookahead_types s) kept_apart s (some p) no_read a b k r
    filled (is_last e f g) = absurd (omega (arith, e, h))
    filled (is_more u v e) = is_both u v e

    only : (c : ℕ) (l : Option ℕ) (o : Read) → Derives (lookahead_types s) kept_apart s (some p) no_read a c l o
        → IsNoLonger (lookahead_types s) s (some p) b x.marked x.got c l o
    only c l o (is_both u v e) = elim (x.long.longest c l o (is_more u v e)) [
      | inl i ↦ inl (
        i.0,
        λ seen w. or_left (rule_continuation_set (many p) seen (terminal_at s c))
            (true && rule_continuation_set p seen (terminal_at s c)) (i.1 seen w),
      )
      | inr i ↦ inr i
    ]

pub some_of_none : {s : Source} {p : Rule} {a b : ℕ} → Spans s (many p) a b → b ≡ a → rule_nullable p ≡ false → NoSpan s (some p) a
some_of_none {b = b} x e f c l o (is_both u v g) = let h = not_empty u f in let i = ends_behind v in elim (x.long.longest c l o (is_more u v g)) [
  | inl j ↦ let k : c < b = j.0 in absurd (omega (arith, h, i, k, e))
  | inr j ↦ let k : c ≡ b = j.0 in absurd (omega (arith, h, i, k, e))
]

-- Brackets with what they hold.

data Brackets : Terminal → Terminal → Type 0 where
  parens : {x y : Terminal} → open_paren x ≡ true → close_paren y ≡ true → Brackets x y
  squares : {x y : Terminal} → open_bracket x ≡ true → close_bracket y ≡ true → Brackets x y
  braces : {x y : Terminal} → open_brace x ≡ true → close_brace y ≡ true → Brackets x y

brackets : (x y : Terminal) → closes x y ≡ true → Brackets x y
brackets terminal.OpenParen terminal.CloseParen e = parens refl refl
brackets terminal.OpenBracket terminal.CloseBracket e = squares refl refl
brackets terminal.OpenBrace terminal.CloseBrace e = braces refl refl
brackets _ _ e = cc

parens_close : (x y : Terminal) → open_paren x ≡ true → close_paren y ≡ true → closes x y ≡ true
parens_close terminal.OpenParen terminal.CloseParen e f = refl
parens_close terminal.OpenParen _ e f = cc
parens_close _ y e f = cc

squares_close : (x y : Terminal) → open_bracket x ≡ true → close_bracket y ≡ true → closes x y ≡ true
squares_close terminal.OpenBracket terminal.CloseBracket e f = refl
squares_close terminal.OpenBracket _ e f = cc
squares_close _ y e f = cc

braces_close : (x y : Terminal) → open_brace x ≡ true → close_brace y ≡ true → closes x y ≡ true
braces_close terminal.OpenBrace terminal.CloseBrace e f = refl
braces_close terminal.OpenBrace _ e f = cc
braces_close _ y e f = cc

closed_by : (x y : Terminal) → open_paren x ≡ true → closes x y ≡ true → close_paren y ≡ true
closed_by terminal.OpenParen terminal.CloseParen e f = refl
closed_by terminal.OpenParen _ e f = cc
closed_by _ y e f = cc

held : {s : Source} {a m : ℕ} → Partners s.terminals a m → Spans s (form balanced) (a + 1) m
held p = record { marked = None; got = no_read; long = balanced_long p no_read }

bracketed_by : {s : Source} {a m : ℕ} → Brackets (terminal_at s a) (terminal_at s m) → Spans s (form balanced) (a + 1) m → Spans s bracketed a (m + 1)
bracketed_by {s = s} {a = a} (parens t u) x =
    spans_left (spans_seq (spans_word t) (spans_seq x (spans_word u) refl refl) refl refl)
    (neither (seq_none (word_none (refused_by open_paren open_bracket refl (terminal_at s a) t)))
    (seq_none (word_none (refused_by open_paren open_brace refl (terminal_at s a) t))))
bracketed_by {s = s} {a = a} (squares t u) x =
    spans_right (seq_none (word_none (refused_by open_bracket open_paren refl (terminal_at s a) t)))
    (spans_left (spans_seq (spans_word t) (spans_seq x (spans_word u) refl refl) refl refl)
    (seq_none (word_none (refused_by open_bracket open_brace refl (terminal_at s a) t))))
bracketed_by {s = s} {a = a} (braces t u) x =
    spans_right (seq_none (word_none (refused_by open_brace open_paren refl (terminal_at s a) t)))
    (spans_right (seq_none (word_none (refused_by open_brace open_bracket refl (terminal_at s a) t)))
    (spans_seq (spans_word t) (spans_seq x (spans_word u) refl refl) refl refl))

between : (s : Source) (a : ℕ) {r t : Read} {b c : ℕ} {k : Option ℕ} → b ≡ a + 1 → Derives (lookahead_types s) kept_apart s (form balanced) r b c k t
    → Balanced s.terminals (a + 1) c
between s a {c = c} e (is_form x f g) = subst (λ (z : ℕ). Balanced s.terminals z c) e (text_run x).tokens

bracketed_none : {s : Source} {a : ℕ} → IsPartner s.terminals a None → NoSpan s bracketed a
bracketed_none {s = s} {a = a} p b k t (is_left (is_both (is_word t0 e0 f0 g0) (is_both {m = n} x (is_word t1 e1 f1 g1) h1) h0)) =
    no_partner s.terminals a n p (record { closes = parens_close (terminal_at s a) (terminal_at s n) t0 t1; between = between s a e0 x })
bracketed_none {s = s} {a = a} p b k t (is_right (is_left (is_both (is_word t0 e0 f0 g0) (is_both {m = n} x (is_word t1 e1 f1 g1) h1) h0))) =
    no_partner s.terminals a n p (record { closes = squares_close (terminal_at s a) (terminal_at s n) t0 t1; between = between s a e0 x })
bracketed_none {s = s} {a = a} p b k t (is_right (is_right (is_both (is_word t0 e0 f0 g0) (is_both {m = n} x (is_word t1 e1 f1 g1) h1) h0))) =
    no_partner s.terminals a n p (record { closes = braces_close (terminal_at s a) (terminal_at s n) t0 t1; between = between s a e0 x })

-- One token, ? and : with what stands between them, or brackets.

no_choice : {s : Source} {a : ℕ} → question (terminal_at s a) ≡ false → NoSpan s (form shaped_choice) a
no_choice t = form_none (seq_none (word_none t))

bracketed_apart : {s : Source} {a : ℕ} (test : Terminal → Bool) → passes (λ z. not (test z && open_paren z)) ≡ true
    → passes (λ z. not (test z && open_bracket z)) ≡ true → passes (λ z. not (test z && open_brace z)) ≡ true → test (terminal_at s a) ≡ true
    → NoSpan s bracketed a
bracketed_apart {s = s} {a = a} test e f g t =
    neither (seq_none (word_none (refused_by test open_paren e (terminal_at s a) t)))
    (neither (seq_none (word_none (refused_by test open_bracket f (terminal_at s a) t)))
    (seq_none (word_none (refused_by test open_brace g (terminal_at s a) t))))

pub unseparated_token : {s : Source} {a : ℕ} → is_unseparated (terminal_at s a) ≡ true → Spans s (shaped_token is_unseparated) a (a + 1)
unseparated_token {s = s} {a = a} t =
    spans_left (spans_word t) (neither (no_choice (refused_by is_unseparated question refl (terminal_at s a) t))
    (bracketed_apart is_unseparated refl refl refl t))

pub chosen_token : {s : Source} {a : ℕ} → is_chosen (terminal_at s a) ≡ true → Spans s (shaped_token is_chosen) a (a + 1)
chosen_token {s = s} {a = a} t =
    spans_left (spans_word t) (neither (no_choice (refused_by is_chosen question refl (terminal_at s a) t))
    (bracketed_apart is_chosen refl refl refl t))

pub token_brackets : {s : Source} {test : Terminal → Bool} {a m : ℕ} → test (terminal_at s a) ≡ false → question (terminal_at s a) ≡ false
    → IsPartner s.terminals a (Some m) → Spans s (shaped_token test) a (m + 1)
token_brackets {s = s} {a = a} {m = m} t u p =
    let q = partner_closes s.terminals a m p in spans_right (word_none t) (spans_right (no_choice u)
    (bracketed_by (brackets (terminal_at s a) (terminal_at s m) q.closes) (held q)))

pub token_none : {s : Source} {test : Terminal → Bool} {a : ℕ} → test (terminal_at s a) ≡ false → question (terminal_at s a) ≡ false
    → IsPartner s.terminals a None → NoSpan s (shaped_token test) a
token_none t u p = neither (word_none t) (neither (no_choice u) (bracketed_none p))

pub token_choice : (s : Source) (test : Terminal → Bool) (a : ℕ) → test (terminal_at s a) ≡ false → question (terminal_at s a) ≡ true
    → (r : Result (Option ℕ) AllocError) → Recognised s (form shaped_choice) a r → Recognised s (shaped_token test) a r
token_choice s test a t u (Ok (Some b)) x = spans_right (word_none t) (spans_left x (bracketed_apart question refl refl refl u))
token_choice s test a t u (Ok None) x = neither (word_none t) (neither x (bracketed_apart question refl refl refl u))
token_choice s test a t u (Err e) x = x

pub token_starts : {s : Source} {a b : ℕ} → Spans s (shaped_token is_unseparated) a b → (a < b) × (a < length s.terminals)
token_starts x = (not_empty x.long.derives refl, begins_inside x.long.derives refl refl refl)

pub chosen_starts : {s : Source} {a b : ℕ} → Spans s (shaped_token is_chosen) a b → (a < b) × (a < length s.terminals)
chosen_starts x = (not_empty x.long.derives refl, begins_inside x.long.derives refl refl refl)

pub choice_missing : {s : Source} {a : ℕ} → question (terminal_at s a) ≡ false → NoSpan s (form shaped_choice) a
choice_missing t = no_choice t

pub choice_found : {s : Source} {a m : ℕ} → question (terminal_at s a) ≡ true → Spans s (many (shaped_token is_chosen)) (a + 1) m
    → colon (terminal_at s m) ≡ true → Spans s (form shaped_choice) a (m + 1)
choice_found t x u = spans_form (spans_seq (spans_word t) (spans_seq x (spans_word u) refl refl) refl refl)

pub choice_open : {s : Source} {a m : ℕ} → question (terminal_at s a) ≡ true → Spans s (many (shaped_token is_chosen)) (a + 1) m
    → colon (terminal_at s m) ≡ false → NoSpan s (form shaped_choice) a
choice_open t x u = form_none (none_after (spans_word t) (none_after x (word_none u) refl refl refl) refl refl refl)

-- What initialises.

no_parentheses_there : {s : Source} {a : ℕ} → open_paren (terminal_at s a) ≡ false
    → NoSpan s (unless parameters (word open_paren · some (word is_unbracketed ∣ bracketed) · word close_paren)) a
no_parentheses_there t = unless_none (seq_none (word_none t))

no_equal : {s : Source} {a : ℕ} → equal (terminal_at s a) ≡ false → NoSpan s (word equal · some (shaped_token is_unseparated)) a
no_equal t = seq_none (word_none t)

pub equal_found : {s : Source} {a b : ℕ} → equal (terminal_at s a) ≡ true → Spans s (many (shaped_token is_unseparated)) (a + 1) b → (b ≡ a + 1 → ⊥)
    → Spans s (optional shaped_initializers) a b
equal_found {s = s} {a = a} {b = b} t x f =
    spans_taken (spans_left (spans_seq (spans_word t) (some_of_many x (further (ends_behind x.long.derives) f)) refl refl)
    (no_parentheses_there (refused_by equal open_paren refl (terminal_at s a) t))) refl
  where
    further : a + 1 ≤ b → (b ≡ a + 1 → ⊥) → a + 1 < b
    further h g = elim (cases_lt (a + 1) b) [ inl i ↦ i | inr i ↦ absurd (g (omega (arith, h, i))) ]

pub equal_empty : {s : Source} {a b : ℕ} → equal (terminal_at s a) ≡ true → Spans s (many (shaped_token is_unseparated)) (a + 1) b → b ≡ a + 1
    → Spans s (optional shaped_initializers) a a
equal_empty {s = s} {a = a} t x e =
    spans_left_out (neither (none_after (spans_word t) (some_of_none x e refl) refl refl refl)
    (no_parentheses_there (refused_by equal open_paren refl (terminal_at s a) t)))

pub nothing_seen : {s : Source} {a : ℕ} → equal (terminal_at s a) ≡ false → lookahead_types s parameters a → Spans s (optional shaped_initializers) a a
nothing_seen t x = spans_left_out (neither (no_equal t) (unless_seen x))

pub nothing_there : {s : Source} {a : ℕ} → equal (terminal_at s a) ≡ false → open_paren (terminal_at s a) ≡ false → Spans s (optional shaped_initializers) a a
nothing_there t u = spans_left_out (neither (no_equal t) (no_parentheses_there u))

some_run : (s : Source) (a : ℕ) {r t : Read} {b c : ℕ} {k : Option ℕ} → b ≡ a + 1
    → Derives (lookahead_types s) kept_apart s (some (word is_unbracketed ∣ bracketed)) r b c k t → (a + 1 < c) × Balanced s.terminals (a + 1) c
some_run s a {c = c} e (is_both u v f) =
    let h = not_empty u refl in let i = ends_behind v in (
      omega (arith, e, h, i),
      subst (λ (z : ℕ). Balanced s.terminals z c) e
          (text_run (is_more u v f)).tokens,
    )

partner_one : (xs : List Terminal) (a m n : ℕ) → IsPartner xs a (Some m) → Partners xs a n → n ≡ m
partner_one xs a m n p q = by ((p n).1 q)
  where
    by : {n : ℕ} → Some m ≡ Some n → n ≡ m
    by e = cc

pub parentheses_empty : {s : Source} {a m : ℕ} → equal (terminal_at s a) ≡ false → IsPartner s.terminals a (Some m) → m ≡ a + 1
    → Spans s (optional shaped_initializers) a a
parentheses_empty {s = s} {a = a} {m = m} t p e = spans_left_out (neither (no_equal t) none)
  where
    none : NoSpan s (unless parameters (word open_paren · some (word is_unbracketed ∣ bracketed) · word close_paren)) a
    none b k r (is_unless l (is_both (is_word t0 e0 f0 g0) (is_both {m = n} x (is_word t1 e1 f1 g1) h1) h0)) =
        let h = some_run s a e0 x in
        let lt : a + 1 < n = h.0 in
        let i : n ≡ m = partner_one s.terminals a m n p (record { closes = parens_close (terminal_at s a) (terminal_at s n) t0 t1; between = h.1 }) in
        omega (arith, lt, i, e)

pub parentheses_open : {s : Source} {a : ℕ} → equal (terminal_at s a) ≡ false → IsPartner s.terminals a None → Spans s (optional shaped_initializers) a a
parentheses_open {s = s} {a = a} t p = spans_left_out (neither (no_equal t) none)
  where
    none : NoSpan s (unless parameters (word open_paren · some (word is_unbracketed ∣ bracketed) · word close_paren)) a
    none b k r (is_unless l (is_both (is_word t0 e0 f0 g0) (is_both {m = n} x (is_word t1 e1 f1 g1) h1) h0)) =
        no_partner s.terminals a n p (record { closes = parens_close (terminal_at s a) (terminal_at s n) t0 t1; between = (some_run s a e0 x).1 })

run_long : {s : Source} {a b : ℕ} → Partners s.terminals a b → Spans s run (a + 1) b
run_long {s = s} {a = a} {b = b} p = record { marked = None; got = no_read; long = record { derives = run_text p.between no_read; longest = only } }
  where
    only : (c : ℕ) (l : Option ℕ) (o : Read) → Derives (lookahead_types s) kept_apart s run no_read (a + 1) c l o
        → IsNoLonger (lookahead_types s) s run b None no_read c l o
    only c l o x = let y = text_run x in elim ((held p).long.longest c None o (is_form x refl refl)) [
      | inl h ↦ inl (h.0, goes_wider (lookahead_types s) s (form balanced) run c refl h.1)
      | inr h ↦ inr (h.0, y.unmarked, y.same)
    ]

pub parentheses_found : {s : Source} {a m : ℕ} → ReadsAs (terminal_at s a) terminal.OpenParen → (lookahead_types s parameters a → ⊥)
    → IsPartner s.terminals a (Some m) → (m ≡ a + 1 → ⊥) → Spans s (optional shaped_initializers) a (m + 1)
parentheses_found {s = s} {a = a} {m = m} e f p g =
    let q = partner_closes s.terminals a m p in
    let x = run_long q in
    let y : Spans s (word open_paren · some (word is_unbracketed ∣ bracketed) · word close_paren) a (m + 1) = spans_seq
    (spans_word (passed open_paren terminal.OpenParen refl _ e)) (spans_seq (some_of_many x (further (ends_behind x.long.derives) g))
    (spans_word (closed_by (terminal_at s a) (terminal_at s m) (passed open_paren terminal.OpenParen refl _ e) q.closes)) refl refl) refl refl in
    spans_taken (spans_right (no_equal (passed_not equal terminal.OpenParen refl _ e))
    (record { marked = y.marked; got = y.got; long = unless_long f y.long })) refl
  where
    further : a + 1 ≤ m → (m ≡ a + 1 → ⊥) → a + 1 < m
    further h i = elim (cases_lt (a + 1) m) [ inl j ↦ j | inr j ↦ absurd (i (omega (arith, h, j))) ]

-- Declarators with what initialises, and declarations.

pub initialized : {s : Source} {a m b : ℕ} → Spans s (form (declarator by_shape named)) a m → Spans s (optional shaped_initializers) m b
    → Spans s (form shaped_init_declarator) a b
initialized x y = spans_form (spans_seq x y refl refl)

pub not_declared : {s : Source} {a : ℕ} → NoSpan s (form (declarator by_shape named)) a → NoSpan s (form shaped_init_declarator) a
not_declared x = form_none (none_seq x)

pub declaration_seen : {s : Source} {a m n : ℕ} → Spans s (form (type_specifier_seq by_shape)) a m → Spans s (list (form shaped_init_declarator)) m n
    → semicolon (terminal_at s n) ≡ true → lookahead s a_declaration a
declaration_seen {n = n} x y t = let z = spans_form (spans_seq x (spans_seq y (spans_word t) refl refl) refl refl) in (n + 1, (z.marked, z.got, z.long.derives))

unseen : {s : Source} {a : ℕ} → NoSpan s (form shaped_declaration) a → lookahead s a_declaration a → ⊥
unseen x y = x y.0 y.1.0 y.1.1 y.1.2

pub no_types_seen : {s : Source} {a : ℕ} → NoSpan s (form (type_specifier_seq by_shape)) a → lookahead s a_declaration a → ⊥
no_types_seen x = unseen (form_none (none_seq x))

pub no_declarators_seen : {s : Source} {a m : ℕ} → Spans s (form (type_specifier_seq by_shape)) a m → NoSpan s (list (form shaped_init_declarator)) m
    → lookahead s a_declaration a → ⊥
no_declarators_seen x y = unseen (form_none (none_after x (none_seq y) refl refl refl))

pub no_semicolon_seen : {s : Source} {a m n : ℕ} → Spans s (form (type_specifier_seq by_shape)) a m → Spans s (list (form shaped_init_declarator)) m n
    → semicolon (terminal_at s n) ≡ false → lookahead s a_declaration a → ⊥
no_semicolon_seen x y t = unseen (form_none (none_after x (none_after y (word_none t) refl refl refl) refl refl refl))
