-- Parts of an image by tables of numbers.
use Rattle.std.specs.Prelude.{ℕ, ◌+◌, List, Option, unwrap_or, slice_get}
use Rattle.std.specs.Option.{option_and_then}
use Rattle.tx_code.specs.Renaming.{Numbering}
use Rattle.tx_code.specs.Linked.{absent}
use Rattle.link_tables.specs.declared.renamed.Numbers.{Numbers}

-- what a table says of a place
abbrev pub told : List (Option ℕ) → ℕ → Option ℕ
told table place = option_and_then (λ o. o) (slice_get table place)

-- what the names of an object stand for
abbrev pub numbering_in : Numbers → (start : ℕ) → Numbering
numbering_in x start = record {
  global = λ n. unwrap_or (told x.globals.items (start + n)) absent;
  func = λ n. unwrap_or (told x.funcs.items (start + n)) absent;
  class = λ n. unwrap_or (told x.classes.items (start + n)) absent;
  ty = λ n. unwrap_or (told x.types.items (start + n)) absent;
}
