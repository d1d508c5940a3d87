-- A row of the table of words, as the code holds it.
use Rattle.std.specs.Prelude.{ℕ, List}
use Rattle.std.specs.Borrow.{Bor}
use Rattle.assembly_text.specs.declared.key.Key.{Key}
use Rattle.assembly_text.specs.Words.{Keyed}

abbrev pub keyed : Bor (List ℕ) × Key → Keyed
keyed row = record { word = row.0.now; key = row.1 }
