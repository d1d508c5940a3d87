use Rattle.tx_memory.proofs.BitParts.{low}
use Rattle.tx_memory.proofs.parts.low_bits.Goals as goal

pub returns : goal.returns
returns c = low c.args.word c.args.count c.requires
