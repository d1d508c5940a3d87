use Rattle.std.proofs.Common.{refl}
use Rattle.tx_code.specs.Signatures.{takes_of}
use Rattle.tx_code.proofs.examples.words_taken.Goals as goal

pub returns-clause-none : goal.returns-clause-none
unfolding takes_of
returns-clause-none c = refl

pub returns-clause-some : goal.returns-clause-some
unfolding takes_of
returns-clause-some c = refl

pub returns-clause-class : goal.returns-clause-class
unfolding takes_of
returns-clause-class c = refl

pub returns-clause-function : goal.returns-clause-function
unfolding takes_of
returns-clause-function c = refl
