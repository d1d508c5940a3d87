use Rattle.link_faults.proofs.OneImage.{one}
use Rattle.link_faults.proofs.laws.one_image.Goals as goal

pub returns : goal.returns
returns c = λ os i j p q. one os i j p q
