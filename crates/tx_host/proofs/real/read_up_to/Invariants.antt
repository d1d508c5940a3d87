use Rattle.std.proofs.Common.{◌≤◌, length}
use Rattle.tx_host.proofs.real.read_up_to.Given as goal

-- what was read so far is within the limit
abbrev pub invariant-pieces : goal.invariant-pieces
invariant-pieces g l = length l.bytes.items ≤ l.limit
