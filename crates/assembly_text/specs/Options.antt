-- Values that may be missing.
use Rattle.std.specs.Prelude.{Bool, Option, Some, None, if◌then◌else◌}

abbrev pub and_then : {A B : Type 0} → Option A → (A → Option B) → Option B
and_then (Some x) next = next x
and_then None next = None

abbrev pub given : {A : Type 0} → Bool → A → Option A
given b x = if b then Some x else None
