use Rattle.std.proofs.Common.{length}
use Rattle.assembly_text.specs.Front.{Bytes}
use Rattle.assembly_text.proofs.names.bytes_at.Given as goal

abbrev pub invariant-bytes : goal.invariant-bytes
invariant-bytes l = Bytes l.name.items l.text l.rest

abbrev pub decreases-bytes : goal.decreases-bytes
decreases-bytes l = length l.rest
