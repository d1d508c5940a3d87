-- Operators between two operands, by their levels.
--
-- levels_apart n, levels_apart_more n : form (binary_expression n) and operated n, and operated n with itself, are apart
-- operated_none f                     : NoDerivation (operated n)      where the terminal has not the level n + 1
-- level_read x                        : of the production's chain, binary_expression (n + 1)
-- level_over x f, levels_over d x f   : binary_expression (n + 1), and (n + d), where no operator of these levels follows
use Rattle.std.proofs.Common.{◌≡◌, ℕ, zero, suc, ◌+◌, ◌≤◌, inl, inr, nat_le, nat_eq, Bool, true, false, not, ◌&&◌, ◌||◌, refl, subst, arith, List, [], ◌∷◌}
use Rattle.std.proofs.Common.{Option, None}
use Rattle.std.specs.List.{list_all}
use Rattle.std.proofs.lemmas.Bool.{and_from, cases_Bool}
use Rattle.cpp_ast.specs.declared.kinds.NodeKind.TheVariants.{BinaryExpression}
use Rattle.cpp_syntax.specs.declared.terminal.Terminal.{Terminal}
use Rattle.cpp_syntax.specs.declared.terminal.Terminal.TheVariants as terminal
use Rattle.cpp_syntax.specs.Source.{Source, terminal_at}
use Rattle.cpp_syntax.specs.Terminals.{level_of}
use Rattle.cpp_syntax.specs.Rules.{binary_expression, Lookahead, Rule, mark, ◌·◌, many, form, wrap}
use Rattle.cpp_syntax.specs.Derivations.{Read, kept_apart}
use Rattle.cpp_syntax.specs.FirstSets.{continuation_of_primary}
use Rattle.cpp_syntax.specs.Longest.{NoDerivation}
use Rattle.cpp_syntax.specs.View.{BuilderState}
use Rattle.cpp_syntax.specs.Parsed.{ReadsLongest}
use Rattle.cpp_syntax.proofs.TerminalTables.{passes, at_each, every_terminal, implies, implied}
use Rattle.cpp_syntax.proofs.DisjointFirstSets.{apart, apart_by}
use Rattle.cpp_syntax.proofs.LongestMatches.{mark_none, seq_none, wrap_none}
use Rattle.cpp_syntax.proofs.Readers.{reads_form}
use Rattle.cpp_syntax.proofs.ReaderLoops.{loop_begins, loop_ends}

-- an operator of the level behind the one of the operands, and an operand
abbrev pub operated : ℕ → Rule
operated n = wrap BinaryExpression (mark (λ s. nat_eq (level_of s) (suc n)) · form (binary_expression n))

all_pass : (test : Terminal → Bool) → ((s : Terminal) → test s ≡ true) → (xs : List Terminal) → list_all test xs ≡ true
all_pass test f [] = refl
all_pass test f (x ∷ xs) = and_from (test x) (list_all test xs) (f x) (all_pass test f xs)

-- a test that each terminal passes
pub passes_by : (test : Terminal → Bool) → ((s : Terminal) → test s ≡ true) → passes test ≡ true
passes_by test f = and_from (test terminal.End) (list_all test every_terminal) (f terminal.End) (all_pass test f every_terminal)

no_level : (s : Terminal) → continuation_of_primary s ≡ true → level_of s ≡ 0
no_level s e =
    eq_of (level_of s) (implied (continuation_of_primary s) (nat_eq (level_of s) 0) (at_each
    (λ z. implies (continuation_of_primary z) (nat_eq (level_of z) 0)) refl s) e)
  where
    eq_of : (n : ℕ) → nat_eq n 0 ≡ true → n ≡ 0
    eq_of n h = grind arith

-- no operand of a level goes on at an operator of the next
not_both : (g : Bool) (l n : ℕ) → (g ≡ true → l ≡ 0) → not ((g || nat_le 1 l && nat_le l n) && (nat_eq l (suc n) || false)) ≡ true
not_both true l n f = let e = f refl in grind (arith, e)
not_both false l n f = grind arith

not_both_more : (g : Bool) (l n : ℕ) → (g ≡ true → l ≡ 0) → not ((g || nat_le 1 l && nat_le l n || false) && (nat_eq l (suc n) || false)) ≡ true
not_both_more true l n f = let e = f refl in grind (arith, e)
not_both_more false l n f = grind arith

pub levels_apart : (n : ℕ) → apart (form (binary_expression n)) (operated n) ≡ true
levels_apart n = and_from (passes (apart_by (form (binary_expression n)) (operated n) true)) (passes (apart_by (form (binary_expression n)) (operated n) false))
    (passes_by (apart_by (form (binary_expression n)) (operated n) true) (λ s. not_both (continuation_of_primary s) (level_of s) n (no_level s)))
    (passes_by (apart_by (form (binary_expression n)) (operated n) false) (λ s. not_both (continuation_of_primary s) (level_of s) n (no_level s)))

pub levels_apart_more : (n : ℕ) → apart (operated n) (operated n) ≡ true
levels_apart_more n = and_from (passes (apart_by (operated n) (operated n) true)) (passes (apart_by (operated n) (operated n) false))
    (passes_by (apart_by (operated n) (operated n) true) (λ s. not_both_more (continuation_of_primary s) (level_of s) n (no_level s)))
    (passes_by (apart_by (operated n) (operated n) false) (λ s. not_both_more (continuation_of_primary s) (level_of s) n (no_level s)))

pub operated_none : {lookahead : Lookahead → ℕ → Type 0} {source : Source} {r : Read} {a n : ℕ} → (level_of (terminal_at source a) ≡ n + 1 → ⊥)
    → NoDerivation lookahead kept_apart source (operated n) r a
operated_none {source = source} {a = a} {n = n} f = wrap_none (seq_none (mark_none (other (level_of (terminal_at source a)) n f)))
  where
    other : (l m : ℕ) → (l ≡ m + 1 → ⊥) → nat_eq l (suc m) ≡ false
    other l m g = elim (cases_Bool (nat_eq l (suc m))) [ inl h ↦ absurd (g (grind (arith, h))) | inr h ↦ h ]

-- the operators of a level are read
pub level_read : {source : Source} {n a b : ℕ} {k : Option ℕ} {old new : BuilderState}
    → ReadsLongest source (form (binary_expression n) · many (operated n)) a b k old new
    → ReadsLongest source (form (binary_expression (n + 1))) a b None old new
level_read {source = source} {n = n} {a = a} {b = b} {old = old} {new = new} x =
    let e : suc n ≡ n + 1 = omega arith in subst (λ (m : ℕ). ReadsLongest source (form (binary_expression m)) a b None old new) e (reads_form x)

-- no operator of a level follows
pub level_over : {source : Source} {n a b : ℕ} {old new : BuilderState} → ReadsLongest source (form (binary_expression n)) a b None old new
    → (level_of (terminal_at source b) ≡ n + 1 → ⊥) → ReadsLongest source (form (binary_expression (n + 1))) a b None old new
level_over {n = n} x f = level_read (loop_ends (loop_begins x (levels_apart n)) (λ r. operated_none f))

-- nor one of the levels behind it
pub levels_over : {source : Source} {n a b : ℕ} {old new : BuilderState} (d : ℕ) → ReadsLongest source (form (binary_expression n)) a b None old new
    → ((m : ℕ) → n ≤ m → level_of (terminal_at source b) ≡ m + 1 → ⊥) → ReadsLongest source (form (binary_expression (n + d))) a b None old new
levels_over {source = source} {n = n} {a = a} {b = b} {old = old} {new = new} zero x f =
    let e : n ≡ n + 0 = omega arith in subst (λ (m : ℕ). ReadsLongest source (form (binary_expression m)) a b None old new) e x
levels_over {source = source} {n = n} {a = a} {b = b} {old = old} {new = new} (suc d) x f =
    let e : n + d + 1 ≡ n + suc d = omega arith in subst (λ (m : ℕ). ReadsLongest source (form (binary_expression m)) a b None old new) e
    (level_over (levels_over d x f) (f (n + d) (omega arith)))
