use Rattle.elab_scopes.specs.States.{full_in}
use Rattle.elab_scopes.specs.Wholes.{switched_on}
use Rattle.elab_scopes.proofs.Standing.{switches_after}
use Rattle.elab_scopes.proofs.simple.switched.Goals as goal

pub returns : goal.returns
returns g c = switches_after c.args.st.now c.full_operand.new.st _ _
    (full_in c.full_operand.new.st c.in_ok-o.o) switched_on c.switched_on.result c.in_ok-o.ensures.grown c.in_ok-o.ensures.is c.switched_on.ensures
