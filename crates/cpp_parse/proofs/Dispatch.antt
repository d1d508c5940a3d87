-- A form with a line for each token that its texts begin with.
--
-- pruned test p   : the alternatives of p, but those of which no text begins with a terminal that passes the test
-- statement_line  : what is answered of these, where such a terminal stands, is answered of a statement
use Rattle.std.proofs.Common.{◌≡◌, ℕ, ◌⊎◌, inl, inr, Bool, true, false, not, ◌&&◌, refl, ap, Option, None, Result}
use Rattle.std.proofs.lemmas.Bool.{and_parts, not-true}
use Rattle.std.specs.declared.alloc.AllocError.{AllocError}
use Rattle.cpp_syntax.specs.declared.terminal.Terminal.{Terminal}
use Rattle.cpp_syntax.specs.declared.terminal.Terminal.TheVariants as terminal
use Rattle.cpp_syntax.specs.Source.{Source, terminal_at}
use Rattle.cpp_syntax.specs.Terminals.{is_atomic}
use Rattle.cpp_syntax.specs.Rules.{statement, Rule, ◌∣◌, form}
use Rattle.cpp_syntax.specs.Grammar.{production}
use Rattle.cpp_syntax.specs.FirstSets.{rule_nullable}
use Rattle.cpp_syntax.specs.View.{BuilderState}
use Rattle.cpp_syntax.specs.Parsed.{NoneOf, ParsesLongest}
use Rattle.cpp_syntax.proofs.DisjointFirstSets.{goes_within}
use Rattle.cpp_syntax.proofs.DeclaratorForms.{unlike}
use Rattle.cpp_parse_expr.proofs.ReaderAnswers.{none_unlike, parsed_form}
use Rattle.cpp_parse_expr.proofs.PostfixReaders.{Instead, with_none_before, with_none_behind, with_same_before, parsed_instead}

-- no text of the rule begins with a terminal that passes the test, and none is empty
abbrev absent : (Terminal → Bool) → Rule → Bool
absent test p = unlike test p && not (rule_nullable p)

abbrev chosen : Bool → Bool → Rule → Rule → Rule → Rule
chosen true c p q r = r
chosen false true p q r = p
chosen false false p q r = p ∣ r

abbrev pub pruned : (Terminal → Bool) → Rule → Rule
pruned test (p ∣ q) = chosen (absent test p) (absent test q) p q (pruned test q)
pruned test p = p

none_absent : (s : Source) (test : Terminal → Bool) (p : Rule) (a : ℕ) → test (terminal_at s a) ≡ true → absent test p ≡ true → NoneOf s p a
none_absent s test p a t e = let h = and_parts (unlike test p) (not (rule_nullable p)) e in none_unlike test t h.0 (not-true (rule_nullable p) h.1)

instead_chosen : {s : Source} {p q r : Rule} {a : ℕ} (b c : Bool) → (b ≡ true → NoneOf s p a) → (c ≡ true → NoneOf s q a) → Instead s r q a
    → Instead s (chosen b c p q r) (p ∣ q) a
instead_chosen true c n m x = with_none_before (n refl) x
instead_chosen false true n m x = with_none_behind (m refl)
instead_chosen false false n m x = with_same_before x

instead_pruned : (s : Source) (test : Terminal → Bool) (p : Rule) (a : ℕ) → test (terminal_at s a) ≡ true → Instead s (pruned test p) p a
instead_pruned s test (p ∣ q) a t =
    instead_chosen (absent test p) (absent test q) (none_absent s test p a t) (none_absent s test q a t) (instead_pruned s test q a t)
instead_pruned s test _ a t = record { to = λ b k r x. x; fro = λ b k r x. x }

pub parsed_line : (s : Source) (test : Terminal → Bool) (q : Rule) (a : ℕ) (k : Option ℕ) (v w : BuilderState) (r : Result (Option ℕ) AllocError)
    → test (terminal_at s a) ≡ true → goes_within (pruned test q) q ≡ true → ParsesLongest s (pruned test q) a k v w r → ParsesLongest s q a k v w r
parsed_line s test q a k v w r t e h = parsed_instead s (pruned test q) q a k v w r (instead_pruned s test q a t) e h

pub statement_line : (s : Source) (test : Terminal → Bool) (a : ℕ) (v w : BuilderState) (r : Result (Option ℕ) AllocError)
    → test (terminal_at s a) ≡ true → goes_within (pruned test (production statement)) (production statement) ≡ true
    → ParsesLongest s (pruned test (production statement)) a None v w r → ParsesLongest s (form statement) a None v w r
statement_line s test a v w r t e h = parsed_form s statement a None v w r (parsed_line s test (production statement) a None v w r t e h)

-- the terminals with which neither a declaration nor an expression begins, but another statement does
abbrev line_word : Terminal → Bool
line_word terminal.OpenBrace = true
line_word terminal.Semicolon = true
line_word terminal.If = true
line_word terminal.While = true
line_word terminal.Do = true
line_word terminal.For = true
line_word terminal.Switch = true
line_word terminal.Case = true
line_word terminal.Default = true
line_word terminal.Break = true
line_word terminal.Continue = true
line_word terminal.Return = true
line_word terminal.Try = true
line_word terminal.Synchronized = true
line_word terminal.AtomicNoexcept = true
line_word terminal.AtomicCancel = true
line_word terminal.AtomicCommit = true
line_word _ = false

abbrev pub is_ordinary : Terminal → Bool
is_ordinary s = not (line_word s)

-- a terminal that is none of these
pub ordinary_there : (s : Terminal) → (s ≡ terminal.OpenBrace → ⊥) → (s ≡ terminal.Semicolon → ⊥) → (s ≡ terminal.If → ⊥) → (s ≡ terminal.While → ⊥)
    → (s ≡ terminal.Do → ⊥) → (s ≡ terminal.For → ⊥) → (s ≡ terminal.Switch → ⊥) → (s ≡ terminal.Case → ⊥) → (s ≡ terminal.Default → ⊥)
    → (s ≡ terminal.Break → ⊥) → (s ≡ terminal.Continue → ⊥) → (s ≡ terminal.Return → ⊥) → (s ≡ terminal.Try → ⊥) → (s ≡ terminal.Synchronized → ⊥)
    → (s ≡ terminal.AtomicNoexcept → ⊥) → (s ≡ terminal.AtomicCancel → ⊥) → (s ≡ terminal.AtomicCommit → ⊥) → is_ordinary s ≡ true
ordinary_there terminal.OpenBrace a b c d e f g h i j k l m n o p q = absurd (a refl)
ordinary_there terminal.Semicolon a b c d e f g h i j k l m n o p q = absurd (b refl)
ordinary_there terminal.If a b c d e f g h i j k l m n o p q = absurd (c refl)
ordinary_there terminal.While a b c d e f g h i j k l m n o p q = absurd (d refl)
ordinary_there terminal.Do a b c d e f g h i j k l m n o p q = absurd (e refl)
ordinary_there terminal.For a b c d e f g h i j k l m n o p q = absurd (f refl)
ordinary_there terminal.Switch a b c d e f g h i j k l m n o p q = absurd (g refl)
ordinary_there terminal.Case a b c d e f g h i j k l m n o p q = absurd (h refl)
ordinary_there terminal.Default a b c d e f g h i j k l m n o p q = absurd (i refl)
ordinary_there terminal.Break a b c d e f g h i j k l m n o p q = absurd (j refl)
ordinary_there terminal.Continue a b c d e f g h i j k l m n o p q = absurd (k refl)
ordinary_there terminal.Return a b c d e f g h i j k l m n o p q = absurd (l refl)
ordinary_there terminal.Try a b c d e f g h i j k l m n o p q = absurd (m refl)
ordinary_there terminal.Synchronized a b c d e f g h i j k l m n o p q = absurd (n refl)
ordinary_there terminal.AtomicNoexcept a b c d e f g h i j k l m n o p q = absurd (o refl)
ordinary_there terminal.AtomicCancel a b c d e f g h i j k l m n o p q = absurd (p refl)
ordinary_there terminal.AtomicCommit a b c d e f g h i j k l m n o p q = absurd (q refl)
ordinary_there _ a b c d e f g h i j k l m n o p q = refl

-- one of the words of atomic blocks
pub atomic_there : {s : Terminal} → (s ≡ terminal.AtomicNoexcept) ⊎ ((s ≡ terminal.AtomicCancel) ⊎ (s ≡ terminal.AtomicCommit)) → is_atomic s ≡ true
atomic_there (inl e) = ap is_atomic e
atomic_there (inr (inl e)) = ap is_atomic e
atomic_there (inr (inr e)) = ap is_atomic e
