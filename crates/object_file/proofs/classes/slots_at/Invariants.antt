use Rattle.std.proofs.Common.{◌≡◌, ◌-◌, None}
use Rattle.object_bytes.specs.Decoder.{items, each}
use Rattle.object_bytes.specs.Fields.{name_or_none}
use Rattle.object_file.proofs.Loop.{with_front}
use Rattle.object_file.proofs.classes.slots_at.Given as goal

abbrev pub invariant-loop : goal.invariant-loop
invariant-loop l = with_front l.slots.items (items (λ x. x) (λ _. name_or_none l.names) None (l.count - l.counter) l.rest) ≡ each (name_or_none l.names) l.bytes
