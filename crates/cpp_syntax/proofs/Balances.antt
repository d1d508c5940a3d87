-- Balanced tokens as texts.
--
-- run_text b r, text_run x   : Balanced source.terminals a b, as a text of the production of balanced, and back
-- balanced_long p r          : the tokens between partners are the longest balanced ones from their index
use Rattle.std.proofs.Common.{◌≡◌, ℕ, ◌+◌, ◌<◌, ◌≤◌, ◌⊎◌, inl, inr, Bool, true, false, ◌||◌, refl, sym as back, ◌∙◌, subst, ap, arith, List, Option, None}
use Rattle.std.proofs.Common.{true≢false}
use Rattle.std.proofs.lemmas.Bool.{or_left}
use Rattle.cpp_syntax.specs.declared.terminal.Terminal.{Terminal}
use Rattle.cpp_syntax.specs.declared.terminal.Terminal.TheVariants as terminal
use Rattle.cpp_syntax.specs.Source.{Source, terminal_at}
use Rattle.cpp_syntax.specs.Terminals.{is_unbracketed, open_paren, close_paren, open_bracket, close_bracket, open_brace, close_brace}
use Rattle.cpp_syntax.specs.Balance.{terminal_in, closes, Balanced, is_empty, is_token, is_bracket, Partners}
use Rattle.cpp_syntax.specs.Rules.{balanced, Lookahead, Rule, word, ◌∣◌, many, form}
use Rattle.cpp_syntax.specs.Grammar.{bracketed}
use Rattle.cpp_syntax.specs.Derivations.{Read, no_read, and_then, first_or, Bodies, Derives, is_word, is_both, is_left, is_right, is_last, is_more, is_form}
use Rattle.cpp_syntax.specs.FirstSets.{opens}
use Rattle.cpp_syntax.specs.Longest.{IsNoLonger, LongestMatch}
use Rattle.cpp_syntax.proofs.IndependentDerivations.{and_then_none}

-- An opening bracket and its own closing one.

abbrev pub goes_inside : Terminal → Bool
goes_inside s = is_unbracketed s || opens s

pub data Pair : Terminal → Terminal → Type 0 where
  parens : {x y : Terminal} → x ≡ terminal.OpenParen → y ≡ terminal.CloseParen → Pair x y
  brackets : {x y : Terminal} → x ≡ terminal.OpenBracket → y ≡ terminal.CloseBracket → Pair x y
  braces : {x y : Terminal} → x ≡ terminal.OpenBrace → y ≡ terminal.CloseBrace → Pair x y

pub pair : (x y : Terminal) → closes x y ≡ true → Pair x y
pair terminal.OpenParen terminal.CloseParen e = parens refl refl
pair terminal.OpenBracket terminal.CloseBracket e = brackets refl refl
pair terminal.OpenBrace terminal.CloseBrace e = braces refl refl
pair _ _ e = cc

pub opening : (x y : Terminal) → closes x y ≡ true → is_unbracketed x ≡ false
opening x y e = elim (pair x y e) [
  | parens f g ↦ ap is_unbracketed f
  | brackets f g ↦ ap is_unbracketed f
  | braces f g ↦ ap is_unbracketed f
]

pub opening_goes : (x y : Terminal) → closes x y ≡ true → goes_inside x ≡ true
opening_goes x y e = elim (pair x y e) [
  | parens f g ↦ ap goes_inside f
  | brackets f g ↦ ap goes_inside f
  | braces f g ↦ ap goes_inside f
]

pub closing_stops : (x y : Terminal) → closes x y ≡ true → goes_inside y ≡ false
closing_stops x y e = elim (pair x y e) [
  | parens f g ↦ ap goes_inside g
  | brackets f g ↦ ap goes_inside g
  | braces f g ↦ ap goes_inside g
]

pub unbracketed_goes : (x : Terminal) → is_unbracketed x ≡ true → goes_inside x ≡ true
unbracketed_goes x e = or_left (is_unbracketed x) (opens x) e

pub behind_start : {xs : List Terminal} {a b : ℕ} → Balanced xs a b → a ≤ b
behind_start (is_empty e) = omega (arith, e)
behind_start (is_token t y) = let l = behind_start y in omega (arith, l)
behind_start (is_bracket y e z) = let l = behind_start y in let m = behind_start z in omega (arith, l, m)

at_same : (xs : List Terminal) {a b : ℕ} → b ≡ a → goes_inside (terminal_in xs b) ≡ false → goes_inside (terminal_in xs a) ≡ true → ⊥
at_same xs e f g = true≢false (back g ∙ back (ap (λ (z : ℕ). goes_inside (terminal_in xs z)) e) ∙ f)

-- Balanced tokens before a closing bracket are the longest from their index.
pub shorter : (xs : List Terminal) {a b c : ℕ} → Balanced xs a b → goes_inside (terminal_in xs b) ≡ false → Balanced xs a c
    → ((c < b) × (goes_inside (terminal_in xs c) ≡ true)) ⊎ (c ≡ b)
shorter xs (is_empty e) f (is_empty g) = inr (g ∙ back e)
shorter xs {a = a} (is_empty e) f (is_token t z) = absurd (at_same xs e f (unbracketed_goes (terminal_in xs a) t))
shorter xs {a = a} (is_empty e) f (is_bracket {m = m} z t w) = absurd (at_same xs e f (opening_goes (terminal_in xs a) (terminal_in xs m) t))
shorter xs {a = a} (is_token t y) f (is_empty g) =
    inl (let l = behind_start y in omega (arith, g, l), ap (λ (z : ℕ). goes_inside (terminal_in xs z)) g ∙ unbracketed_goes (terminal_in xs a) t)
shorter xs (is_token t y) f (is_token u z) = shorter xs y f z
shorter xs {a = a} (is_token t y) f (is_bracket {m = m} z u w) = absurd (true≢false (back t ∙ opening (terminal_in xs a) (terminal_in xs m) u))
shorter xs {a = a} (is_bracket {m = m} y t z) f (is_empty g) =
    inl (
      let l = behind_start y in let n = behind_start z in omega (arith, g, l, n),
      ap (λ (v : ℕ). goes_inside (terminal_in xs v)) g ∙ opening_goes
          (terminal_in xs a) (terminal_in xs m) t,
    )
shorter xs {a = a} (is_bracket {m = m} y t z) f (is_token u w) = absurd (true≢false (back u ∙ opening (terminal_in xs a) (terminal_in xs m) t))
shorter xs {a = a} {c = c} (is_bracket {m = m} y t z) f (is_bracket {m = n} v u w) =
    elim (shorter xs y (closing_stops (terminal_in xs a) (terminal_in xs m) t) v) [
      | inl h ↦ absurd (true≢false (back h.1 ∙ closing_stops (terminal_in xs a) (terminal_in xs n) u))
      | inr h ↦ shorter xs z f (subst (λ (q : ℕ). Balanced xs (q + 1) c) h w)
    ]

-- As texts.

abbrev pub run : Rule
run = many (word is_unbracketed ∣ bracketed)

unread : (r : Read) → r ≡ and_then r no_read
unread r = back (and_then_none r)

bracket_text : {lookahead : Lookahead → ℕ → Type 0} {bodies : Bodies} {source : Source} {r : Read} {a m : ℕ}
    → Pair (terminal_at source a) (terminal_at source m) → Derives lookahead bodies source run no_read (a + 1) m None no_read
    → Derives lookahead bodies source bracketed r a (m + 1) None r
bracket_text {r = r} (parens e f) x =
    is_left (is_both (is_word (ap open_paren e) refl refl refl) (is_both (is_form x refl (unread r)) (is_word (ap close_paren f) refl refl refl)
    refl) refl)
bracket_text {r = r} (brackets e f) x =
    is_right (is_left (is_both (is_word (ap open_bracket e) refl refl refl) (is_both (is_form x refl (unread r))
    (is_word (ap close_bracket f) refl refl refl) refl) refl))
bracket_text {r = r} (braces e f) x =
    is_right (is_right (is_both (is_word (ap open_brace e) refl refl refl) (is_both (is_form x refl (unread r))
    (is_word (ap close_brace f) refl refl refl) refl) refl))

pub run_text : {lookahead : Lookahead → ℕ → Type 0} {bodies : Bodies} {source : Source} {a b : ℕ} → Balanced source.terminals a b → (r : Read)
    → Derives lookahead bodies source run r a b None r
run_text (is_empty e) r = is_last e refl refl
run_text (is_token t y) r = is_more (is_left (is_word t refl refl refl)) (run_text y r) refl
run_text {source = source} {a = a} (is_bracket {m = m} y e z) r =
    is_more (is_right (bracket_text (pair (terminal_at source a) (terminal_at source m) e) (run_text y no_read))) (run_text z r) refl

pub record IsRun (source : Source) (r : Read) (a b : ℕ) (k : Option ℕ) (s : Read) : Type 0 where
  pub tokens : Balanced source.terminals a b
  pub unmarked : k ≡ None
  pub same : s ≡ r

moved_to : (xs : List Terminal) {a a' b b' : ℕ} → a ≡ a' → b ≡ b' → Balanced xs a b → Balanced xs a' b'
moved_to xs {a' = a'} {b = b} e f x = subst (λ (z : ℕ). Balanced xs a' z) f (subst (λ (z : ℕ). Balanced xs z b) e x)

closes_by : (x y : Terminal) → Pair x y → closes x y ≡ true
closes_by x y (parens e f) = cc
closes_by x y (brackets e f) = cc
closes_by x y (braces e f) = cc

-- back: a text of such tokens is balanced

open_is : (s : Terminal) → open_paren s ≡ true → s ≡ terminal.OpenParen
open_is terminal.OpenParen e = refl
open_is _ e = cc

close_is : (s : Terminal) → close_paren s ≡ true → s ≡ terminal.CloseParen
close_is terminal.CloseParen e = refl
close_is _ e = cc

open_bracket_is : (s : Terminal) → open_bracket s ≡ true → s ≡ terminal.OpenBracket
open_bracket_is terminal.OpenBracket e = refl
open_bracket_is _ e = cc

close_bracket_is : (s : Terminal) → close_bracket s ≡ true → s ≡ terminal.CloseBracket
close_bracket_is terminal.CloseBracket e = refl
close_bracket_is _ e = cc

open_brace_is : (s : Terminal) → open_brace s ≡ true → s ≡ terminal.OpenBrace
open_brace_is terminal.OpenBrace e = refl
open_brace_is _ e = cc

close_brace_is : (s : Terminal) → close_brace s ≡ true → s ≡ terminal.CloseBrace
close_brace_is terminal.CloseBrace e = refl
close_brace_is _ e = cc

-- what follows a bracket that is closed
record Closed (source : Source) (r : Read) (a b : ℕ) (k : Option ℕ) (s : Read) : Type 0 where
  end : ℕ
  pair_of : Pair (terminal_at source a) (terminal_at source end)
  tokens : Balanced source.terminals (a + 1) end
  ends : b ≡ end + 1
  unmarked : k ≡ None
  same : s ≡ r

bracket_closed : {source : Source} {r s t u : Read} {a m n b : ℕ} {k l : Option ℕ} → m ≡ a + 1 → Pair (terminal_at source a) (terminal_at source n)
    → IsRun source no_read m n l t → u ≡ and_then s t → s ≡ r → k ≡ None → b ≡ n + 1 → Closed source r a b k u
bracket_closed {source = source} {r = r} {s = s} {n = n} e p x f g h i = record {
  end = n;
  pair_of = p;
  tokens = moved_to source.terminals e refl x.tokens;
  ends = i;
  unmarked = h;
  same = f ∙ ap (λ (z : Read). and_then s z) x.same ∙ and_then_none s ∙ g;
}

run_more : {source : Source} {r s t : Read} {a m b : ℕ} {k l : Option ℕ} → Closed source r a m k s → IsRun source s m b l t → IsRun source r a b l t
run_more {source = source} {a = a} x y = record {
  tokens = is_bracket x.tokens (closes_by (terminal_at source a) (terminal_at source x.end) x.pair_of) (moved_to source.terminals x.ends refl y.tokens);
  unmarked = y.unmarked;
  same = y.same ∙ x.same;
}

remarked : {source : Source} {r t : Read} {a b : ℕ} {j k l : Option ℕ} → k ≡ None → IsRun source r a b l t → j ≡ first_or k l → IsRun source r a b j t
remarked {l = l} e x f = record { tokens = x.tokens; unmarked = f ∙ ap (λ (z : Option ℕ). first_or z l) e ∙ x.unmarked; same = x.same }

unmarked_both : {j k l : Option ℕ} → k ≡ None → l ≡ None → j ≡ first_or k l → j ≡ None
unmarked_both {l = l} e f g = g ∙ ap (λ (z : Option ℕ). first_or z l) e ∙ f

pub text_run : {lookahead : Lookahead → ℕ → Type 0} {bodies : Bodies} {source : Source} {r s : Read} {a b : ℕ} {k : Option ℕ}
    → Derives lookahead bodies source run r a b k s → IsRun source r a b k s
text_run (is_last e f g) = record { tokens = is_empty e; unmarked = f; same = g }
text_run {source = source} (is_more (is_left (is_word t e f g)) y h) =
    let x = text_run y in remarked f (record {
      tokens = is_token t (moved_to source.terminals e refl x.tokens);
      unmarked = x.unmarked;
      same = x.same
          ∙ g;
    }) h
text_run {source = source} (is_more (is_right (is_left (is_both {a = a} (is_word t0 e0 f0 g0)
    (is_both (is_form x f1 g1) (is_word {a = n} t2 e2 f2 g2) h1) h0))) y h) =
    let k0 = unmarked_both f0 (unmarked_both f1 f2 h1) h0 in
    remarked k0 (run_more (bracket_closed e0 (parens (open_is (terminal_at source a) t0) (close_is (terminal_at source n) t2)) (text_run x) (g2 ∙ g1)
    g0 k0 e2) (text_run y)) h
text_run {source = source} (is_more (is_right (is_right (is_left (is_both {a = a} (is_word t0 e0 f0 g0)
    (is_both (is_form x f1 g1) (is_word {a = n} t2 e2 f2 g2) h1) h0)))) y h) =
    let k0 = unmarked_both f0 (unmarked_both f1 f2 h1) h0 in
    remarked k0 (run_more (bracket_closed e0 (brackets (open_bracket_is (terminal_at source a) t0) (close_bracket_is (terminal_at source n) t2))
    (text_run x) (g2 ∙ g1) g0 k0 e2) (text_run y)) h
text_run {source = source} (is_more (is_right (is_right (is_right (is_both {a = a} (is_word t0 e0 f0 g0)
    (is_both (is_form x f1 g1) (is_word {a = n} t2 e2 f2 g2) h1) h0)))) y h) =
    let k0 = unmarked_both f0 (unmarked_both f1 f2 h1) h0 in
    remarked k0 (run_more (bracket_closed e0 (braces (open_brace_is (terminal_at source a) t0) (close_brace_is (terminal_at source n) t2))
    (text_run x) (g2 ∙ g1) g0 k0 e2) (text_run y)) h

-- The tokens between a bracket and the one that closes it are the longest balanced ones.
pub balanced_long : {lookahead : Lookahead → ℕ → Type 0} {bodies : Bodies} {source : Source} {a b : ℕ} → Partners source.terminals a b → (r : Read)
    → LongestMatch lookahead bodies source (form balanced) r (a + 1) b None r
balanced_long {lookahead = lookahead} {bodies = bodies} {source = source} {a = a} {b = b} p r =
    record { derives = is_form (run_text p.between no_read) refl (unread r); longest = only }
  where
    only : (c : ℕ) (l : Option ℕ) (o : Read) → Derives lookahead bodies source (form balanced) r (a + 1) c l o
        → IsNoLonger lookahead source (form balanced) b None r c l o
    only c l o (is_form x e f) =
        let y = text_run x in elim (shorter source.terminals p.between (closing_stops (terminal_at source a) (terminal_at source b) p.closes)
        y.tokens) [
          | inl h ↦ inl (h.0, λ seen w. h.1)
          | inr h ↦ inr (h, e, f ∙ ap (λ (z : Read). and_then r z) y.same ∙ and_then_none r)
        ]
