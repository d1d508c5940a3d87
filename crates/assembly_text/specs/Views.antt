-- What the code holds, as a line.
use Rattle.assembly_text.specs.declared.line.Line.{Line as Lines}
use Rattle.assembly_text.specs.declared.line.Line.TheVariants as read
use Rattle.assembly_text.specs.Lines.{Line, Name, Of}

abbrev pub line_view : Lines → Line
line_view (read.Name name) = Name name.items
line_view (read.Of r) = Of r
