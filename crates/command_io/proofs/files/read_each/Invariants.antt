use Rattle.std.proofs.Common.{map, take, string_bytes}
use Rattle.command_io.specs.Reads.{wanted_each, ReadsWithin}
use Rattle.command_io.proofs.files.read_each.Given as goal

-- the files so far were read
abbrev pub invariant-files : goal.invariant-files
invariant-files g l = ReadsWithin (g.H.Host.state l.fn.host) (wanted_each l.kind (map string_bytes (take l.index l.names)))
    (map (λ text. text.items) l.texts.items) (g.H.Host.state l.host)
