use Rattle.std.proofs.Common.{take}
use Rattle.unit_syntax.specs.Copies.{AreCopied}
use Rattle.unit_syntax.proofs.whole.+copies.Given as goal

abbrev pub decreases-all_copied : goal.decreases-all_copied
decreases-all_copied l = l.most

abbrev pub decreases-copied : goal.decreases-copied
decreases-copied l = l.most

abbrev pub invariant-all_copied-ids : goal.invariant-all_copied-ids
invariant-all_copied-ids l = AreCopied l.unit l.initial.to l.to (take l.id-index l.ids) l.copies.items
