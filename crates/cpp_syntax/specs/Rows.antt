-- What the rows of a table show.
use Rattle.std.specs.Prelude.{ℕ, List}
use denote.Ref.{Bor}
use Rattle.cpp_syntax.specs.declared.terminal.Terminal.{Terminal}
use Rattle.cpp_syntax.specs.Classes.{Spelled}

abbrev pub spelled_of : Bor (List ℕ) × Terminal → Spelled
spelled_of row = record { word = row.0.now; terminal = row.1 }
