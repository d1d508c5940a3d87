use Rattle.std.proofs.Common.{drop}
use Rattle.tx_code.specs.Views.{image_view}
use Rattle.symbolic_leaving.specs.Answers.{texts_of}
use Rattle.note_landing.specs.Cases.{SpelledBy}
use Rattle.note_landing.proofs.cases.are_spelled.Given as goal

abbrev pub invariant-loop-row : goal.invariant-loop-row
invariant-loop-row l = SpelledBy (image_view l.image) (texts_of l.known) (drop l.row-index l.rows) → SpelledBy (image_view l.image) (texts_of l.known) l.rows
