use Rattle.std.proofs.Common.{◌≡◌, ◌+◌, ◌-◌}
use Rattle.tx_code.specs.Meaning.{put_bytes}
use Rattle.vm_frames.proofs.values.put_bytes.Given as goal

abbrev pub invariant-loop-i : goal.invariant-loop-i
invariant-loop-i l = put_bytes l.initial.bytes l.at l.count l.fn.value ≡ put_bytes l.bytes (l.at + l.i) (l.count - l.i) l.rest
