-- When answers on unknown exceptions are kept as exceptions are put in the place of unknown ones.
use Rattle.std.specs.Prelude.{ℕ, ◌≡◌, Bool, Some, None}
use Rattle.cpp_tree.specs.Trees.{Tree}
use Rattle.src_mean.specs.Linked.{Func, Program}
use Rattle.symbolic_source.specs.Steps.{Answers, caught}
use Rattle.symbolic_source.specs.Replacing.{Replacing}

-- nothing is known of unknown exceptions
abbrev pub no_answers : Answers
no_answers e handler = None

-- what is answered on an unknown exception is known of the one that comes in its place
abbrev pub IsKept : Program → Func → Replacing → (answers others : Answers) → Type 0
IsKept p f r answers others = (n : ℕ) (handler : Tree) (answer : Bool) → others n handler ≡ Some answer
    → caught p f answers (r.exception n) handler ≡ Some answer
