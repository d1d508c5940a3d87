use Rattle.lowered_apart.proofs.Running.{body_apart, ways_out_apart}
use Rattle.lowered_apart.proofs.laws.bodies_are_apart.Goals as goal

pub returns-clause-body : goal.returns-clause-body
returns-clause-body c = λ g root names at t. body_apart g root names at t

pub returns-clause-ways_out : goal.returns-clause-ways_out
returns-clause-ways_out c = λ g root names at to w t. ways_out_apart g root names at to w t
