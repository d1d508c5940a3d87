-- The longest text of a rule from an index, behind what was read before.
use Rattle.std.specs.Prelude.{◌≡◌, ℕ, ◌<◌, ◌⊎◌, Bool, true, false, ◌&&◌, Option, None}
use Rattle.cpp_syntax.specs.Source.{Source}
use Rattle.cpp_syntax.specs.Rules.{Nonterminal, Lookahead, Rule, nothing, word, mark, mark_next, mark_name, ◌·◌, ◌∣◌, many, form, node_at, wrap, with_body}
use Rattle.cpp_syntax.specs.Rules.{where_, before_no, if_, unless}
use Rattle.cpp_syntax.specs.Derivations.{Read, no_read, and_then, Bodies, Derives}
use Rattle.cpp_syntax.specs.FirstSets.{Continues, ContinuesRule}

-- Beside the text that ends at one index, another ends before it, where texts of the rule may go on, or is the same.
abbrev pub IsNoLonger : (Lookahead → ℕ → Type 0) → Source → Rule → ℕ → Option ℕ → Read → ℕ → Option ℕ → Read → Type 0
IsNoLonger lookahead source p b k after c l other = ((c < b) × ContinuesRule lookahead source p c) ⊎ ((c ≡ b) × (l ≡ k) × (other ≡ after))

-- the text is one, and no other of the rule is longer
pub record LongestMatch (lookahead : Lookahead → ℕ → Type 0) (bodies : Bodies) (source : Source) (p : Rule) (before : Read) (a b : ℕ) (k : Option ℕ)
    (after : Read) : Type 0 where
  pub derives : Derives lookahead bodies source p before a b k after
  pub longest : (c : ℕ) (l : Option ℕ) (other : Read) → Derives lookahead bodies source p before a c l other → IsNoLonger lookahead source p b k after c l other

-- no text of the rule begins at the index, behind what was read before
abbrev pub NoDerivation : (Lookahead → ℕ → Type 0) → Bodies → Source → Rule → Read → ℕ → Type 0
NoDerivation lookahead bodies source p before a = (b : ℕ) (k : Option ℕ) (after : Read) → Derives lookahead bodies source p before a b k after → ⊥

-- Derivations of the rule do not look at what was read before: it stays before their trees.
abbrev pub is_free : Rule → Bool
is_free mark_name = false
is_free (wrap kind p) = false
is_free (p · q) = is_free p && is_free q
is_free (p ∣ q) = is_free p && is_free q
is_free (many p) = is_free p
is_free (where_ test p) = is_free p
is_free (before_no test p) = is_free p
is_free (if_ look p) = is_free p
is_free (unless look p) = is_free p
is_free nothing = true
is_free (word test) = true
is_free (mark test) = true
is_free mark_next = true
is_free (form f) = true
is_free (node_at positioning kind p) = true
is_free (with_body kind p) = true
