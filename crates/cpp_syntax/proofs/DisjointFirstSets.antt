-- Rules of which the second begins nowhere where the first goes on.
--
-- apart p q ≡ true is refl wherever p and q are closed, and where p is one token.
-- never_both lookahead source p q c refl : ContinuesRule p c → StartsRule q c → ⊥
-- either_way lookahead a            : what is refused whether parameters are seen from a on or not is refused
-- goes_wider lookahead source p q c refl : ContinuesRule p c → ContinuesRule q c   where goes_within p q computes to true
use Rattle.std.proofs.Common.{◌≡◌, ℕ, Bool, true, false, not, ◌&&◌, sym as back, ◌∙◌, true≢false}
use Rattle.std.proofs.lemmas.Bool.{and_parts, and_from, not-true}
use Rattle.cpp_syntax.specs.declared.terminal.Terminal.{Terminal}
use Rattle.cpp_syntax.specs.Source.{Source, terminal_at}
use Rattle.cpp_syntax.specs.Rules.{Lookahead, Rule}
use Rattle.cpp_syntax.specs.FirstSets.{AreParametersAhead, rule_first_set, rule_continuation_set, StartsRule, ContinuesRule}
use Rattle.cpp_syntax.proofs.TerminalTables.{passes, at_each, implies, implied}

abbrev pub apart_by : Rule → Rule → Bool → Terminal → Bool
apart_by p q seen s = not (rule_continuation_set p seen s && rule_first_set q seen s)

abbrev pub apart : Rule → Rule → Bool
apart p q = passes (apart_by p q true) && passes (apart_by p q false)

apart_at : (p q : Rule) (seen : Bool) (s : Terminal) → apart p q ≡ true → apart_by p q seen s ≡ true
apart_at p q true s e = at_each (apart_by p q true) (and_parts (passes (apart_by p q true)) (passes (apart_by p q false)) e).0 s
apart_at p q false s e = at_each (apart_by p q false) (and_parts (passes (apart_by p q true)) (passes (apart_by p q false)) e).1 s

-- what is refused whether parameters are seen or not is refused
pub either_way : (lookahead : Lookahead → ℕ → Type 0) (a : ℕ) → ((seen : Bool) → AreParametersAhead lookahead a seen → ⊥) → ⊥
either_way lookahead a f = f false (λ h. f true h)

pub never_both : (lookahead : Lookahead → ℕ → Type 0) (source : Source) (p q : Rule) (c : ℕ) → apart p q ≡ true → ContinuesRule lookahead source p c
    → StartsRule lookahead source q c → ⊥
never_both lookahead source p q c e g b = either_way lookahead c (λ seen h.
    true≢false (back (and_from (rule_continuation_set p seen (terminal_at source c)) (rule_first_set q seen (terminal_at source c)) (g seen h) (b seen h))
    ∙ not-true (rule_continuation_set p seen (terminal_at source c) && rule_first_set q seen (terminal_at source c))
    (apart_at p q seen (terminal_at source c) e)))

-- where one rule goes on, another does
abbrev pub goes_within : Rule → Rule → Bool
goes_within p q =
    passes (λ s. implies (rule_continuation_set p true s) (rule_continuation_set q true s)) && passes
    (λ s. implies (rule_continuation_set p false s) (rule_continuation_set q false s))

wider_at : (p q : Rule) (seen : Bool) (s : Terminal) → goes_within p q ≡ true → rule_continuation_set p seen s ≡ true → rule_continuation_set q seen s ≡ true
wider_at p q true s e f =
    implied (rule_continuation_set p true s) (rule_continuation_set q true s) (at_each
    (λ z. implies (rule_continuation_set p true z) (rule_continuation_set q true z)) (and_parts
    (passes (λ z. implies (rule_continuation_set p true z) (rule_continuation_set q true z)))
    (passes (λ z. implies (rule_continuation_set p false z) (rule_continuation_set q false z))) e).0 s) f
wider_at p q false s e f =
    implied (rule_continuation_set p false s) (rule_continuation_set q false s) (at_each
    (λ z. implies (rule_continuation_set p false z) (rule_continuation_set q false z))
    (and_parts (passes (λ z. implies (rule_continuation_set p true z) (rule_continuation_set q true z)))
    (passes (λ z. implies (rule_continuation_set p false z) (rule_continuation_set q false z))) e).1 s) f

pub goes_wider : (lookahead : Lookahead → ℕ → Type 0) (source : Source) (p q : Rule) (c : ℕ) → goes_within p q ≡ true
    → ContinuesRule lookahead source p c → ContinuesRule lookahead source q c
goes_wider lookahead source p q c e g seen w = wider_at p q seen (terminal_at source c) e (g seen w)
