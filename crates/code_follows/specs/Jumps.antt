-- A jump at which the source decides nothing.
use Rattle.std.specs.Prelude.{ℕ, ◌+◌, ◌%◌, ◌^◌, ◌==◌, cond}
use Rattle.symbolic_source.specs.Terms.{Term, number}
use Rattle.symbolic_source.specs.Outcomes.{Outcome}
use Rattle.symbolic_code.specs.Places.{Place}
use Rattle.symbolic_code.specs.Following.{Next, quietly, either_way}

-- it is known where the word is a number
abbrev pub decided : (index target : ℕ) → Place → Term → Outcome → Next
decided i n q (number m) o = cond (m % 2 ^ 64 == 0) (quietly n q o) (quietly (i + 1) q o)
decided i n q w o = either_way w (quietly n q o) (quietly (i + 1) q o)
