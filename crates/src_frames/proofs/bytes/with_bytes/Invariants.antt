use Rattle.std.proofs.Common.{◌≡◌, ◌+◌, ◌-◌}
use Rattle.src_mean.specs.Exceptions.{bytes_of, with_bytes}
use Rattle.src_frames.proofs.bytes.with_bytes.Given as goal

abbrev pub invariant-loop-i : goal.invariant-loop-i
invariant-loop-i l = with_bytes (l.offset + l.i) (bytes_of (l.size - l.i) l.left) l.out ≡ with_bytes l.offset (bytes_of l.size l.fn.word) l.fn.bytes
