use Rattle.std.proofs.Common.{◌≡◌, ◌+◌, ◌-◌, take, drop}
use Rattle.src_mean.specs.Exceptions.{number_of}
use Rattle.src_frames.proofs.bytes.read_bytes.Given as goal

abbrev pub invariant-loop-i : goal.invariant-loop-i
invariant-loop-i l = l.word ≡ number_of (take l.i (drop (l.offset + (l.size - l.i)) l.bytes))
