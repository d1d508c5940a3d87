use Rattle.std.specs.Prelude.{refl}
use Rattle.body_check.proofs.laws.worked_sum.Goals as goal

pub returns-clause-goes_along : goal.returns-clause-goes_along
returns-clause-goes_along c = λ p. refl

pub returns-clause-returned : goal.returns-clause-returned
returns-clause-returned c = λ p. refl

pub returns-clause-other_operator : goal.returns-clause-other_operator
returns-clause-other_operator c = λ p. refl

pub returns-clause-other_number : goal.returns-clause-other_number
returns-clause-other_number c = λ p. refl

pub returns-clause-other_address : goal.returns-clause-other_address
returns-clause-other_address c = λ p. refl

pub returns-clause-other_kind : goal.returns-clause-other_kind
returns-clause-other_kind c = λ p. refl

pub returns-clause-other_order : goal.returns-clause-other_order
returns-clause-other_order c = λ p. refl

pub returns-clause-not_stored : goal.returns-clause-not_stored
returns-clause-not_stored c = λ p. refl
