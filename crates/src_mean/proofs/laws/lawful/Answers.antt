use Rattle.src_mean.proofs.Blocks.{lawful_source}
use Rattle.src_mean.proofs.laws.lawful.Goals as goal

pub returns : goal.returns
returns c = lawful_source
