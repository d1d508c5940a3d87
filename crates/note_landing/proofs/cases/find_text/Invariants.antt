use Rattle.std.proofs.Common.{◌≡◌, drop}
use Rattle.tx_code.specs.Views.{image_view}
use Rattle.note_landing.specs.Cases.{row_in}
use Rattle.note_landing.proofs.cases.find_text.Given as goal

abbrev pub invariant-loop-row : goal.invariant-loop-row
invariant-loop-row l = row_in (image_view l.image) l.text l.rows l.index ≡ row_in (image_view l.image) l.text (drop l.row-index l.rows) l.index
