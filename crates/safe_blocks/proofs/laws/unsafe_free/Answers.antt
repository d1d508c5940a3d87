use Rattle.safe_blocks.proofs.Theorem.{unsafe_free}
use Rattle.safe_blocks.proofs.laws.unsafe_free.Goals as goal

pub returns : goal.returns
returns c = unsafe_free
