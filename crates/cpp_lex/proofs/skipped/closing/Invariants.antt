use Rattle.std.proofs.Common.{ℕ, length, ◌-◌, ◌≤◌, ◌<◌}
use Rattle.cpp_lex.specs.Bytes.{Are}
use Rattle.cpp_lex.proofs.skipped.closing.Given as goal

abbrev pub invariant-inside : goal.invariant-inside
invariant-inside l = record { behind : l.from ≤ l.at; inside : l.at ≤ length l.text; none : (k : ℕ) → l.from ≤ k → k < l.at → Are l.text k 42 47 → ⊥ }

abbrev pub decreases-inside : goal.decreases-inside
decreases-inside l = length l.text - l.at
