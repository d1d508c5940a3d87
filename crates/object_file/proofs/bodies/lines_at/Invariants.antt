use Rattle.std.proofs.Common.{◌≡◌, ◌-◌}
use Rattle.object_bytes.specs.Decoder.{items, list}
use Rattle.object_bytes.specs.Fields.{line_row}
use Rattle.object_file.proofs.Loop.{with_front}
use Rattle.object_file.proofs.bodies.lines_at.Given as goal

abbrev pub invariant-loop : goal.invariant-loop
invariant-loop l = with_front l.lines.items (items (λ x. x) (line_row l.instrs) l.before (l.count - l.counter) l.rest)
    ≡ list (λ x. x) (line_row l.instrs) l.bytes
