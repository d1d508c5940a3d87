use Rattle.std.proofs.Common.{◌≡◌, length, take}
use Rattle.undo_log.specs.IndexView.{words_listed}
use Rattle.undo_log.proofs.index.Index.truncate.Given as goal

abbrev pub invariant-loop-self : goal.invariant-loop-self
invariant-loop-self l = take l.count (words_listed l.self) ≡ take l.count (words_listed l.initial.self)

abbrev pub decreases-loop-self : goal.decreases-loop-self
decreases-loop-self l = length (words_listed l.self)
