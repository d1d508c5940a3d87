use Rattle.std.proofs.Common.{◌-◌, length}
use Rattle.undo_log.specs.Index.{BeginsWith}
use Rattle.undo_log.specs.IndexView.{words_listed}
use Rattle.undo_log.specs.Notes.{noted_words}
use Rattle.undo_log.proofs.index.Index.catch_up.Given as goal

abbrev pub invariant-loop-self : goal.invariant-loop-self
invariant-loop-self l = BeginsWith (noted_words l.notes) (words_listed l.self)

abbrev pub decreases-loop-self : goal.decreases-loop-self
decreases-loop-self l = length l.notes - length (words_listed l.self)
