use Rattle.std.proofs.Common.{◌≡◌, ◌-◌, None}
use Rattle.object_bytes.specs.Decoder.{items}
use Rattle.object_bytes.specs.Fields.{cell}
use Rattle.object_file.proofs.Loop.{with_front}
use Rattle.object_file.proofs.globals.cells_at.Given as goal

abbrev pub invariant-loop : goal.invariant-loop
invariant-loop l = with_front l.cells.items (items (λ x. x) (cell l.names l.global_size) l.before (l.count - l.counter) l.rest)
    ≡ items (λ x. x) (cell l.names l.global_size) None l.count l.bytes
