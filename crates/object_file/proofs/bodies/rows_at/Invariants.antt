use Rattle.std.proofs.Common.{◌≡◌, ◌-◌, None}
use Rattle.object_bytes.specs.Decoder.{items, each}
use Rattle.object_bytes.specs.Fields.{row}
use Rattle.object_file.proofs.Loop.{with_front}
use Rattle.object_file.proofs.bodies.rows_at.Given as goal

abbrev pub invariant-loop : goal.invariant-loop
invariant-loop l = with_front l.rows.items (items (λ x. x) (λ _. row l.names) None (l.count - l.counter) l.rest) ≡ each (row l.names) l.bytes
