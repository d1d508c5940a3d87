-- The shapes of types, from those of their parts.
--
-- thrown_none, after_thrown, after_thrown_none  : std::tx_exception< and what follows it, for any rule that begins so
-- words_span                                    : the words that spell a type
use Rattle.std.proofs.Common.{◌≡◌, ℕ, zero, suc, ◌+◌, ◌-◌, ◌<◌, ◌≤◌, ◌⊎◌, inl, inr, Bool, true, false, not, ◌&&◌, refl, sym as back, ◌∙◌, ap, arith, subst}
use Rattle.std.proofs.Common.{length, Option, Some, None, Result, Ok, Err, true≢false}
use Rattle.std.specs.declared.alloc.AllocError.{AllocError}
use Rattle.std.proofs.lemmas.Bool.{cases_lt, and_from, and_parts, not-true}
use Rattle.cpp_ast.specs.declared.kinds.NodeKind.{NodeKind}
use Rattle.cpp_ast.specs.declared.kinds.NodeKind.TheVariants.{SimpleTypeSpecifier}
use Rattle.cpp_syntax.specs.declared.terminal.Terminal.{Terminal}
use Rattle.cpp_syntax.specs.declared.terminal.Terminal.TheVariants as terminal
use Rattle.cpp_syntax.specs.Source.{Source, terminal_at}
use Rattle.cpp_syntax.specs.Terminals.{is_type_word, is_type_name, std, colon_colon, tx_exception_word, less, greater, open_paren, close_paren}
use Rattle.cpp_syntax.specs.Types.{spells_a_type}
use Rattle.cpp_syntax.specs.Rules.{by_shape, either, unnamed, type_specifier, type_specifier_seq, type_id, declarator, parameter_declaration, Lookahead, Rule}
use Rattle.cpp_syntax.specs.Rules.{nothing, word, mark, ◌·◌, ◌∣◌, many, form, node_at, where_, some}
use Rattle.cpp_syntax.specs.Grammar.{leaf, cv_qualifiers, type_name, tx_exception}
use Rattle.cpp_syntax.specs.Derivations.{Read, no_read, kept_apart, Bodies, Derives, is_nothing, is_word, is_mark, is_both, is_left, is_right, is_last, is_more}
use Rattle.cpp_syntax.specs.Derivations.{is_form, is_node}
use Rattle.cpp_syntax.specs.FirstSets.{rule_nullable}
use Rattle.cpp_syntax.specs.Longest.{LongestMatch, NoDerivation, is_free}
use Rattle.cpp_syntax.specs.Lookahead.{lookahead_types, InParentheses}
use Rattle.cpp_syntax.specs.Shapes.{Spans, NoSpan, Recognised, BehindWords, AreTypeWords, BehindThrown, begins_thrown_at, BehindType}
use Rattle.cpp_syntax.proofs.TerminalTables.{passes, at_each}
use Rattle.cpp_syntax.proofs.FirstTerminals.{ends_behind, not_empty}
use Rattle.cpp_syntax.proofs.DisjointFirstSets.{apart}
use Rattle.cpp_syntax.proofs.LongestMatches.{mark_none, word_none, neither, seq_none, node_none, where_none, form_none}
use Rattle.cpp_syntax.proofs.Alternatives.{where_chain}
use Rattle.cpp_syntax.proofs.Recognisers.{SpansChain, spans_word, spans_mark, spans_leaf, spans_node, spans_form, spans_seq, spans_left, spans_right}
use Rattle.cpp_syntax.proofs.Recognisers.{none_after, none_seq, chain_starts, chain_goes, chain_ahead}
use Rattle.cpp_syntax.proofs.ShapeDerivations.{one_end, in_parentheses}

-- a terminal that passes one test does not pass another
pub refused_by : (test other : Terminal → Bool) → passes (λ s. not (test s && other s)) ≡ true → (s : Terminal) → test s ≡ true → other s ≡ false
refused_by test other e s t = by (other s) refl
  where
    by : (o : Bool) → other s ≡ o → other s ≡ false
    by false h = h
    by true h = absurd (true≢false (back (and_from (test s) (other s) t h) ∙ not-true (test s && other s) (at_each (λ z. not (test z && other z)) e s)))

-- Words.

words_chain : (s : Source) (a n : ℕ) → AreTypeWords s a (a + n + 1)
    → SpansChain s (leaf SimpleTypeSpecifier is_type_word) (leaf SimpleTypeSpecifier is_type_word) a (a + n + 1)
words_chain s a zero w =
    let e : a + 1 ≡ a + 0 + 1 = omega arith in subst (λ (z : ℕ). SpansChain s (leaf SimpleTypeSpecifier is_type_word)
    (leaf SimpleTypeSpecifier is_type_word) a z) e (chain_starts (spans_leaf (w a (omega arith) (omega arith))) refl)
words_chain s a (suc n) w =
    let e : a + n + 1 + 1 ≡ a + suc n + 1 = omega arith in subst (λ (z : ℕ). SpansChain s (leaf SimpleTypeSpecifier is_type_word)
    (leaf SimpleTypeSpecifier is_type_word) a z) e
    (chain_goes (words_chain s a n (λ c h i. w c h (omega (arith, i)))) (spans_leaf (w (a + n + 1) (omega arith) (omega arith))) refl refl refl)

pub are_words : {lookahead : Lookahead → ℕ → Type 0} {bodies : Bodies} {source : Source} {r t : Read} {a b : ℕ} {k : Option ℕ}
    → Derives lookahead bodies source (many (leaf SimpleTypeSpecifier is_type_word)) r a b k t → AreTypeWords source a b
are_words (is_last e f g) c h i = absurd (omega (arith, e, h, i))
are_words {source = source} {a = a} (is_more (is_node (is_mark t e f g) j k) y l) c h i = elim (cases_lt a c) [
  | inl m ↦ are_words y c (omega (arith, e, m)) i
  | inr m ↦ let same : a ≡ c = omega (arith, h, m) in subst (λ (n : ℕ). is_type_word (terminal_at source n) ≡ true) same t
]

-- words behind words
pub words_both : (s : Source) {a b c : ℕ} → AreTypeWords s a b → AreTypeWords s b c → AreTypeWords s a c
words_both s {b = b} v w d h i = elim (cases_lt d b) [ inl j ↦ v d h j | inr j ↦ w d j i ]

pub words_span : {s : Source} {a b : ℕ} → BehindWords s a b → is_type_word (terminal_at s a) ≡ true
    → Spans s (where_ spells_a_type (some (leaf SimpleTypeSpecifier is_type_word))) a b
words_span {s = s} {a = a} {b = b} x t =
    let lt = x.begins t in
    let e : a + (b - a - 1) + 1 ≡ b = omega (arith, lt) in
    by (subst (λ (z : ℕ). SpansChain s (leaf SimpleTypeSpecifier is_type_word) (leaf SimpleTypeSpecifier is_type_word) a z) e
    (words_chain s a (b - a - 1) (subst (λ (z : ℕ). AreTypeWords s a z) (back e) x.words)))
  where
    by : SpansChain s (leaf SimpleTypeSpecifier is_type_word) (leaf SimpleTypeSpecifier is_type_word) a b
        → Spans s (where_ spells_a_type (some (leaf SimpleTypeSpecifier is_type_word))) a b
    by y =
        record {
          marked = y.marked;
          got = y.got;
          long = where_chain y.chain (x.spells (x.begins t)) refl
              (λ c l o u h. x.no_more c h (words_both s x.words (are_words u)));
        }

pub specifier_words : {s : Source} {a b : ℕ} → BehindWords s a b → is_type_word (terminal_at s a) ≡ true → Spans s (form (type_specifier by_shape)) a b
specifier_words {s = s} {a = a} x t =
    spans_form (spans_left (words_span x t) (neither (node_none (mark_none (refused_by is_type_word is_type_name refl (terminal_at s a) t)))
    (node_none (seq_none (word_none (refused_by is_type_word std refl (terminal_at s a) t))))))

no_words : {s : Source} {a : ℕ} → is_type_word (terminal_at s a) ≡ false → NoSpan s (where_ spells_a_type (some (leaf SimpleTypeSpecifier is_type_word))) a
no_words t = where_none (seq_none (node_none (mark_none t)))

pub specifier_name : {s : Source} {a : ℕ} → is_type_name (terminal_at s a) ≡ true → Spans s (form (type_specifier by_shape)) a (a + 1)
specifier_name {s = s} {a = a} t =
    spans_form (spans_right (no_words (refused_by is_type_name is_type_word refl (terminal_at s a) t))
    (spans_left (spans_leaf t) (node_none (seq_none (word_none (refused_by is_type_name std refl (terminal_at s a) t))))))

pub specifier_found : (s : Source) (a : ℕ) → is_type_word (terminal_at s a) ≡ false → is_type_name (terminal_at s a) ≡ false
    → (r : Result (Option ℕ) AllocError) → Recognised s (tx_exception by_shape) a r → Recognised s (form (type_specifier by_shape)) a r
specifier_found s a t u (Ok (Some b)) x = spans_form (spans_right (no_words t) (spans_right (node_none (mark_none u)) x))
specifier_found s a t u (Ok None) x = form_none (neither (no_words t) (neither (node_none (mark_none u)) x))
specifier_found s a t u (Err e) x = tt

-- std::tx_exception<

abbrev pub thrown_by : Rule → Rule
thrown_by q = word std · word colon_colon · mark tx_exception_word · word less · q

thrown_there : (s : Source) (a b c d : ℕ) → b ≡ a + 1 → c ≡ b + 1 → d ≡ c + 1 → std (terminal_at s a) ≡ true → colon_colon (terminal_at s b) ≡ true
    → tx_exception_word (terminal_at s c) ≡ true → less (terminal_at s d) ≡ true → begins_thrown_at s a ≡ true
thrown_there s a b c d e f g t u v w =
    let h : c ≡ a + 2 = omega (arith, e, f) in
    let i : d ≡ a + 3 = omega (arith, e, f, g) in
    and_from _ _ (and_from _ _ (and_from _ _ t (subst (λ (n : ℕ). colon_colon (terminal_at s n) ≡ true) e u))
    (subst (λ (n : ℕ). tx_exception_word (terminal_at s n) ≡ true) h v)) (subst (λ (n : ℕ). less (terminal_at s n) ≡ true) i w)

pub thrown_none : {lookahead : Lookahead → ℕ → Type 0} {bodies : Bodies} {source : Source} {q : Rule} {r : Read} {a : ℕ}
    → begins_thrown_at source a ≡ false → NoDerivation lookahead bodies source (thrown_by q) r a
thrown_none {source = source} {a = a} t b k s (is_both (is_word {b = m} t0 e0 f0 g0)
    (is_both (is_word {b = n} t1 e1 f1 g1) (is_both (is_mark {b = o} t2 e2 f2 g2) (is_both (is_word t3 e3 f3 g3) x h3) h2) h1) h0) = true≢false
    (back (thrown_there source a m n o e0 e1 e2 t0 t1 t2 t3) ∙ t)

record Begins (s : Source) (a : ℕ) : Type 0 where
  first : std (terminal_at s a) ≡ true
  second : colon_colon (terminal_at s (a + 1)) ≡ true
  third : tx_exception_word (terminal_at s (a + 1 + 1)) ≡ true
  fourth : less (terminal_at s (a + 1 + 1 + 1)) ≡ true

begins : (s : Source) (a : ℕ) → begins_thrown_at s a ≡ true → Begins s a
begins s a t =
    let p = and_parts (std (terminal_at s a) && colon_colon (terminal_at s (a + 1)) && tx_exception_word (terminal_at s (a + 2)))
    (less (terminal_at s (a + 3))) t in
    let q = and_parts (std (terminal_at s a) && colon_colon (terminal_at s (a + 1))) (tx_exception_word (terminal_at s (a + 2))) p.0 in
    let r = and_parts (std (terminal_at s a)) (colon_colon (terminal_at s (a + 1))) q.0 in
    let e : a + 2 ≡ a + 1 + 1 = omega arith in
    let f : a + 3 ≡ a + 1 + 1 + 1 = omega arith in
    record {
      first = r.0;
      second = r.1;
      third = subst (λ (n : ℕ). tx_exception_word (terminal_at s n) ≡ true) e q.1;
      fourth = subst
          (λ (n : ℕ). less (terminal_at s n) ≡ true) f p.1;
    }

four_on : (a m : ℕ) → m ≡ a + 4 → m ≡ a + 1 + 1 + 1 + 1
four_on a m e = omega (arith, e)

pub after_thrown : {s : Source} {q : Rule} {a m b : ℕ} → BehindThrown s a m → Spans s q m b → is_free q ≡ true → Spans s (thrown_by q) a b
after_thrown {s = s} {q = q} {a = a} {m = m} {b = b} x y f =
    let t = begins s a x.begins in
    let z = subst (λ (n : ℕ). Spans s q n b) (four_on a m x.behind) y in
    spans_seq (spans_word t.first) (spans_seq (spans_word t.second) (spans_seq (spans_mark t.third) (spans_seq (spans_word t.fourth) z f refl) f
    refl) f refl) f refl

pub after_thrown_none : {s : Source} {q : Rule} {a m : ℕ} → BehindThrown s a m → NoSpan s q m → is_free q ≡ true → rule_nullable q ≡ false
    → NoSpan s (thrown_by q) a
after_thrown_none {s = s} {q = q} {a = a} {m = m} x y f e =
    let t = begins s a x.begins in
    let z = subst (λ (n : ℕ). NoSpan s q n) (four_on a m x.behind) y in
    none_after (spans_word t.first) (none_after (spans_word t.second) (none_after (spans_mark t.third) (none_after (spans_word t.fourth) z f e refl)
    f refl refl) f refl refl) f refl refl

pub thrown_found : {s : Source} {a m b : ℕ} → BehindThrown s a m → Spans s (form (type_id by_shape)) m b → greater (terminal_at s b) ≡ true
    → Spans s (tx_exception by_shape) a (b + 1)
thrown_found x y t = spans_node (after_thrown x (spans_seq y (spans_word t) refl refl) refl)

pub thrown_unclosed : {s : Source} {a m b : ℕ} → BehindThrown s a m → Spans s (form (type_id by_shape)) m b → greater (terminal_at s b) ≡ false
    → NoSpan s (tx_exception by_shape) a
thrown_unclosed x y t = node_none (after_thrown_none x (none_after y (word_none t) refl refl refl) refl refl)

pub thrown_no_type : {s : Source} {a m : ℕ} → BehindThrown s a m → NoSpan s (form (type_id by_shape)) m → NoSpan s (tx_exception by_shape) a
thrown_no_type x y = node_none (after_thrown_none x (none_seq y) refl refl)

-- Types with what stands round them.

pub seq_found : {s : Source} {a m n b : ℕ} → Spans s cv_qualifiers a m → Spans s (form (type_specifier by_shape)) m n → Spans s cv_qualifiers n b
    → Spans s (form (type_specifier_seq by_shape)) a b
seq_found x y z = spans_form (spans_node (spans_seq x (spans_seq y z refl refl) refl refl))

pub seq_missing : {s : Source} {a m : ℕ} → Spans s cv_qualifiers a m → NoSpan s (form (type_specifier by_shape)) m
    → NoSpan s (form (type_specifier_seq by_shape)) a
seq_missing x y = form_none (node_none (none_after x (none_seq y) refl refl refl))

-- a declarator that need not name anything may be empty
pub never_missing_unnamed : {s : Source} {a : ℕ} → NoSpan s (form (declarator by_shape unnamed)) a → ⊥
never_missing_unnamed {a = a} x =
    x a None _ (is_form (is_right (is_right (is_form (is_right (is_both (is_node (is_nothing refl refl refl) refl refl) (is_last refl refl refl)
    refl)) refl refl))) refl refl)

pub never_missing_either : {s : Source} {a : ℕ} → NoSpan s (form (declarator by_shape either)) a → ⊥
never_missing_either {a = a} x =
    x a None _ (is_form (is_right (is_right (is_form (is_right (is_both (is_node (is_nothing refl refl refl) refl refl) (is_last refl refl refl)
    refl)) refl refl))) refl refl)

pub type_found : (s : Source) (a m : ℕ) → Spans s (form (type_specifier_seq by_shape)) a m → (r : Result (Option ℕ) AllocError)
    → Recognised s (form (declarator by_shape unnamed)) m r → Recognised s (form (type_id by_shape)) a r
type_found s a m x (Ok (Some b)) y = spans_form (spans_node (spans_seq x y refl refl))
type_found s a m x (Ok None) y = absurd (never_missing_unnamed y)
type_found s a m x (Err e) y = tt

pub type_missing : {s : Source} {a : ℕ} → NoSpan s (form (type_specifier_seq by_shape)) a → NoSpan s (form (type_id by_shape)) a
type_missing x = form_none (node_none (none_seq x))

pub parameter_found : (s : Source) (a m : ℕ) → Spans s (form (type_specifier_seq by_shape)) a m → (r : Result (Option ℕ) AllocError)
    → Recognised s (form (declarator by_shape either)) m r → Recognised s (form (parameter_declaration by_shape)) a r
parameter_found s a m x (Ok (Some b)) y = spans_form (spans_node (spans_seq x y refl refl))
parameter_found s a m x (Ok None) y = absurd (never_missing_either y)
parameter_found s a m x (Err e) y = tt

pub parameter_missing : {s : Source} {a : ℕ} → NoSpan s (form (type_specifier_seq by_shape)) a → NoSpan s (form (parameter_declaration by_shape)) a
parameter_missing x = form_none (node_none (none_seq x))

-- a type in parentheses
pub type_held : {s : Source} {a m : ℕ} → open_paren (terminal_at s a) ≡ true → Spans s (form (type_id by_shape)) (a + 1) m
    → close_paren (terminal_at s m) ≡ true → BehindType s a (m + 1)
type_held {m = m} t x u =
    record { close = m; behind = refl; held = in_parentheses (type_id by_shape) refl t x u; only = one_end (type_id by_shape) refl refl x }
