-- What readers of lambdas answer.
use Rattle.std.proofs.Common.{◌≡◌, ℕ, ◌+◌, ◌<◌, ◌≤◌, true, false, inl, inr, refl, sym as back, ◌∙◌, subst, ap, length, Option, Some, None, Result, Ok, Err}
use Rattle.std.proofs.Common.{true≢false}
use Rattle.std.specs.declared.alloc.AllocError.{AllocError}
use Rattle.cpp_ast.specs.declared.arena.At.{At}
use Rattle.cpp_ast.specs.declared.kinds.NodeKind.TheVariants.{Lambda, LambdaDeclarator}
use Rattle.cpp_syntax.specs.declared.terminal.Terminal.{Terminal}
use Rattle.cpp_syntax.specs.declared.terminal.Terminal.TheVariants as terminal
use Rattle.cpp_syntax.specs.Source.{Source, terminal_at, position_at}
use Rattle.cpp_syntax.specs.Terminals.{open_brace, close_brace, is_safety}
use Rattle.cpp_syntax.specs.Balance.{closes, Partners}
use Rattle.cpp_syntax.specs.Rules.{lambda_expression, lambda_introducer, lambda_declarator, Rule, word, mark_next, ◌·◌, form, node, optional}
use Rattle.cpp_syntax.specs.Grammar.{tx_qualifier}
use Rattle.cpp_syntax.specs.Derivations.{no_read, with_body_apart, is_mark_next, is_both, is_form, is_kept_apart, is_in_tree, kept_apart, in_trees}
use Rattle.cpp_syntax.specs.Lookahead.{lookahead}
use Rattle.cpp_syntax.specs.View.{BuilderState, appended}
use Rattle.cpp_syntax.specs.Parsed.{ReadsLongest, NoneOf, ParsesAlways}
use Rattle.cpp_syntax.proofs.DisjointFirstSets.{never_both}
use Rattle.cpp_syntax.proofs.LongestMatches.{carry, seq_none}
use Rattle.cpp_syntax.proofs.Balances.{text_run, balanced_long}
use Rattle.cpp_syntax.proofs.Readers.{reads_seq, reads_form, reads_right, reads_taken}
use Rattle.cpp_syntax.proofs.ReaderLoops.{reads_mark_next, reads_body, within}
use Rattle.cpp_parse_expr.proofs.ReaderAnswers.{none_unlike}

-- what stands before the body
abbrev pub before_body : Rule
before_body = mark_next · form lambda_introducer · optional (form lambda_declarator)

-- Braces.

brace_shut : (x y : Terminal) → open_brace x ≡ true → closes x y ≡ true → close_brace y ≡ true
brace_shut terminal.OpenBrace terminal.CloseBrace e f = refl
brace_shut _ _ e f = cc

braces_close : (x y : Terminal) → open_brace x ≡ true → close_brace y ≡ true → closes x y ≡ true
braces_close terminal.OpenBrace terminal.CloseBrace e f = refl
braces_close _ _ e f = cc

pub partner_shut : (s : Source) (m n : ℕ) → open_brace (terminal_at s m) ≡ true → Partners s.terminals m n → close_brace (terminal_at s n) ≡ true
partner_shut s m n t p = brace_shut (terminal_at s m) (terminal_at s n) t p.closes

pub partner_inside : (s : Source) (m n : ℕ) → open_brace (terminal_at s m) ≡ true → Partners s.terminals m n → n < length s.terminals
partner_inside s m n t p = within s n close_brace refl (partner_shut s m n t p)

-- a lambda with its body
pub body_there : (s : Source) (position : At) {a m n : ℕ} {old now new : BuilderState} (x : ReadsLongest s before_body a m (Some a) old now)
    → open_brace (terminal_at s m) ≡ true → Partners s.terminals m n → position ≡ position_at s a
    → new ≡ appended old (with_body_apart Lambda position a (m + 1) n x.got) → ReadsLongest s (form lambda_expression) a (n + 1) None old new
body_there s position {a = a} {m = m} {n = n} {old = old} x t p e f =
    reads_form (reads_body x refl t (balanced_long p no_read) (partner_shut s m n t p)
    (f ∙ ap (λ (z : At). appended old (with_body_apart Lambda z a (m + 1) n x.got)) e))

no_tree_here : kept_apart ≡ in_trees → ⊥
no_tree_here e = cc

-- no body begins behind the captures and parameters
pub no_body : (s : Source) {a m : ℕ} {k : Option ℕ} {old now : BuilderState} → ReadsLongest s before_body a m k old now
    → open_brace (terminal_at s m) ≡ false → NoneOf s (form lambda_expression) a
no_body s x t b j o (is_form (is_kept_apart {t = t'} {m = m'} {l = l'} e x' el f y g eb ek es) h i) = elim ((x.long).longest m' l' t' x') [
  | inl z ↦ never_both (lookahead s) s before_body (word open_brace) m' refl z.1 (λ seen w. f)
  | inr z ↦ true≢false (back f ∙ ap (λ (n : ℕ). open_brace (terminal_at s n)) z.0 ∙ t)
]
no_body s x t b j o (is_form (is_in_tree e x' y' f g) h i) = no_tree_here e

-- none ends
pub no_partner : (s : Source) {a m : ℕ} {k : Option ℕ} {old now : BuilderState} → ReadsLongest s before_body a m k old now
    → ((n : ℕ) → Partners s.terminals m n → ⊥) → NoneOf s (form lambda_expression) a
no_partner s {m = m} x p b j o (is_form (is_kept_apart {t = t'} {m = m'} {n = n'} {l = l'} e x' el f (is_form y c d) g eb ek es) h i) =
    elim ((x.long).longest m' l' t' x') [
      | inl z ↦ never_both (lookahead s) s before_body (word open_brace) m' refl z.1 (λ seen w. f)
      | inr z ↦ p n' (subst (λ (v : ℕ). Partners s.terminals v n') z.0 (record {
        closes = braces_close (terminal_at s m') (terminal_at s n') f g;
        between
            = (text_run y).tokens;
      }))
    ]
no_partner s x p b j o (is_form (is_in_tree e x' y' f g) h i) = no_tree_here e

-- Declarators of lambdas.

pub safety_taken : (s : Source) (a : ℕ) (v w : BuilderState) (r : Result ℕ AllocError) → is_safety (terminal_at s a) ≡ true
    → ParsesAlways s (node LambdaDeclarator tx_qualifier) a None v w r → ParsesAlways s (optional (form lambda_declarator)) a None v w r
safety_taken s a v w (Ok next) t h = reads_taken (reads_form (reads_right (none_unlike is_safety t refl refl) h)) refl
safety_taken s a v w (Err e) t h = h

-- captures, and a declarator or none
pub captured : {s : Source} {a m n : ℕ} {u v w : BuilderState} → a ≤ length s.terminals → ReadsLongest s (form lambda_introducer) a m None u v
    → ReadsLongest s (optional (form lambda_declarator)) m n None v w → ReadsLongest s before_body a n (Some a) u w
captured h x y = reads_seq (reads_mark_next h) (reads_seq x y refl refl) refl refl

pub no_introducer : {s : Source} {a : ℕ} → NoneOf s (form lambda_introducer) a → NoneOf s (form lambda_expression) a
no_introducer x b j o (is_form (is_kept_apart e (is_both (is_mark_next f g h) y i) el f' y' g' eb ek es) h' i') = seq_none x _ _ _ (carry f h y)
no_introducer x b j o (is_form (is_in_tree e x' y' f g) h i) = no_tree_here e
