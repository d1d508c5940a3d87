use Rattle.object_bytes.proofs.WholeLaws.{one_object}
use Rattle.object_bytes.proofs.laws.one_object.Goals as goal

pub returns : goal.returns
returns c = λ bytes o p s t. one_object bytes o p s t
