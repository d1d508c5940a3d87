use Rattle.src_bind.proofs.Looked.{linked_same}
use Rattle.src_bind.proofs.laws.links.Goals as goal

pub returns : goal.returns
returns c g symbol e = linked_same g symbol e
