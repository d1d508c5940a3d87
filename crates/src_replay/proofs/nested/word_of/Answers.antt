use Rattle.std.proofs.Common.{refl}
use Rattle.tx_events.specs.Memory.{word_of}
use Rattle.src_replay.proofs.nested.word_of.Goals as goal

pub returns : goal.returns
unfolding word_of
returns c = refl
