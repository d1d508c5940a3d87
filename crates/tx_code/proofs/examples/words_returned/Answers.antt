use Rattle.std.proofs.Common.{refl}
use Rattle.tx_code.specs.Signatures.{gives_of}
use Rattle.tx_code.proofs.examples.words_returned.Goals as goal

pub returns-clause-none : goal.returns-clause-none
unfolding gives_of
returns-clause-none c = refl

pub returns-clause-one : goal.returns-clause-one
unfolding gives_of
returns-clause-one c = refl
