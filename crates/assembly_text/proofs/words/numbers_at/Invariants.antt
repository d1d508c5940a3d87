use Rattle.std.proofs.Common.{length}
use Rattle.assembly_text.specs.Front.{Fields}
use Rattle.assembly_text.proofs.words.numbers_at.Given as goal

abbrev pub invariant-fields : goal.invariant-fields
invariant-fields l = Fields l.numbers.items l.text l.rest

abbrev pub decreases-fields : goal.decreases-fields
decreases-fields l = length l.rest
