use Rattle.std.proofs.Common.{◌≡◌, ◌-◌, None}
use Rattle.object_bytes.specs.Decoder.{items, each}
use Rattle.object_bytes.specs.Instructions.{instr}
use Rattle.object_file.proofs.Loop.{with_front}
use Rattle.object_file.proofs.bodies.code_at.Given as goal

abbrev pub invariant-loop : goal.invariant-loop
invariant-loop l = with_front l.code.items (items (λ x. x) (λ _. instr l.names) None (l.count - l.counter) l.rest) ≡ each (instr l.names) l.bytes
