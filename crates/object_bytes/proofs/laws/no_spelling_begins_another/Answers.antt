use Rattle.object_bytes.proofs.WholeLaws.{none_begins}
use Rattle.object_bytes.proofs.laws.no_spelling_begins_another.Goals as goal

pub returns : goal.returns
returns c = λ a more o p s t. none_begins a more o p s t
