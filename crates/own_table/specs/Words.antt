-- Heaps of words.
use Rattle.std.specs.Prelude.{ℕ, ◌==◌, List}
use Rattle.std.specs.List.{count_by}
use Rattle.std.specs.Ordering.{nat_cmp}
use Rattle.std.specs.declared.cmp.Ordering.{Ordering}
use Rattle.std.specs.declared.cmp.Reverse.{Reverse}

-- the greatest by this order is the least word
abbrev pub by_least : Reverse ℕ → Reverse ℕ → Ordering
by_least x y = nat_cmp y.0 x.0

-- how often the word is there
abbrev pub times_in : List (Reverse ℕ) → ℕ → ℕ
times_in words word = count_by (λ x. x.0 == word) words
