use Rattle.std.proofs.Common.{◌≡◌, ◌-◌, None}
use Rattle.object_bytes.specs.Decoder.{items, each}
use Rattle.object_bytes.specs.Fields.{member}
use Rattle.object_file.proofs.Loop.{with_front}
use Rattle.object_file.proofs.classes.members_at.Given as goal

abbrev pub invariant-loop : goal.invariant-loop
invariant-loop l = with_front l.members.items (items (λ x. x) (λ _. member l.names) None (l.count - l.counter) l.rest) ≡ each (member l.names) l.bytes
