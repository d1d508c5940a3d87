use Rattle.std.proofs.Common.{◌≡◌, ◌<◌, ◌+◌, ◌-◌, ◌^◌}
use Rattle.tx_code.specs.Meaning.{get_bytes}
use Rattle.vm_frames.proofs.values.get_bytes.Given as goal

abbrev pub invariant-loop-i : goal.invariant-loop-i
invariant-loop-i l = (l.value ≡ get_bytes l.bytes (l.at + (l.count - l.i)) l.i) × (l.value < 256 ^ l.i)
