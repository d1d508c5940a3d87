use Rattle.lowered_states.specs.Sound.{scope_from}
use Rattle.lowered_states.proofs.Running.{same_scopes, more_scopes}
use Rattle.lowered_states.proofs.Aiming.{same_kind}
use Rattle.lowered_states.proofs.laws.scopes_stay.Goals as goal

pub returns-clause-whole : goal.returns-clause-whole
returns-clause-whole c = λ from to k number l. same_scopes from to k number l

pub returns-clause-kind : goal.returns-clause-kind
returns-clause-kind c = λ from to k number l n.
    same_kind (scope_from from.body.scopes number) (scope_from to.body.scopes number) (same_scopes from to k number l) n

pub returns-clause-count : goal.returns-clause-count
returns-clause-count c = λ from to k. more_scopes from to k
