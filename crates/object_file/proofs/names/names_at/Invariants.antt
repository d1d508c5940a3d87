use Rattle.std.proofs.Common.{◌≡◌, ◌-◌, map}
use Rattle.tx_code.specs.Objects.{bytes_of}
use Rattle.object_bytes.specs.Decoder.{items, list}
use Rattle.object_bytes.specs.Fields.{lent, name_item}
use Rattle.object_file.proofs.Loop.{with_front}
use Rattle.object_file.proofs.names.names_at.Given as goal

abbrev pub invariant-loop : goal.invariant-loop
invariant-loop l = with_front (map bytes_of l.names.items) (items (λ x. x) (name_item) (lent l.before) (l.count - l.counter) l.rest)
    ≡ list (λ x. x) (name_item) l.bytes
