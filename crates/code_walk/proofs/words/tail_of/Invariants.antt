use Rattle.std.proofs.Common.{◌≡◌, ◌<◌, ◌+◌, drop, length}
use Rattle.tx_code.specs.Signatures as spelling
use Rattle.tx_code.specs.Signatures.{ending}
use Rattle.code_walk.specs.Spellings.{inside_from}
use Rattle.code_walk.proofs.words.tail_of.Given as goal

abbrev pub invariant-bytes : goal.invariant-bytes
invariant-bytes l = record { within : l.at + l.depth < length l.name; ends : ending (drop l.at l.name) ≡ spelling.Open l.depth (inside_from l.name l.at) }

abbrev pub decreases-bytes : goal.decreases-bytes
decreases-bytes l = l.at
