use Rattle.std.proofs.Common.{refl}
use Rattle.tx_code.specs.Meaning.{no_bytes}
use Rattle.vm_frames.proofs.values.zeros.Goals as goal

pub returns : goal.returns
unfolding no_bytes
returns c = refl
