use Rattle.std.proofs.Common.{◌≡◌, ◌-◌, map}
use Rattle.tx_code.specs.Objects.{class_view}
use Rattle.tx_code.specs.Objects.{ClassView}
use Rattle.object_bytes.specs.Decoder.{items, list}
use Rattle.object_bytes.specs.Fields.{class}
use Rattle.object_file.proofs.Loop.{with_front}
use Rattle.object_file.proofs.classes.classes_at.Given as goal

abbrev pub invariant-loop : goal.invariant-loop
invariant-loop l = with_front (map class_view l.classes.items) (items (λ (x : ClassView). x.name) (class l.names) l.before (l.count - l.counter) l.rest)
    ≡ list (λ (x : ClassView). x.name) (class l.names) l.bytes
