use Rattle.std.proofs.Common.{◌≡◌, map, take}
use Rattle.command_io.specs.Writes.{written_of, after_writes}
use Rattle.command_io.proofs.writes.write_all.Given as goal

-- the writes so far were made
abbrev pub invariant-writes : goal.invariant-writes
invariant-writes g l = g.H.Host.state l.host ≡ after_writes (g.H.Host.state l.fn.host) (map written_of (take l.write-index l.writes))
