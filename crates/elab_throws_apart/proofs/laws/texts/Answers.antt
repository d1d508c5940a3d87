use Rattle.elab_throws_apart.proofs.Expressions.{texts_law}
use Rattle.elab_throws_apart.proofs.laws.texts.Goals as goal

pub returns : goal.returns
returns c = record { texts = texts_law }
