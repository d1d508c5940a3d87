use Rattle.elab_scopes.specs.States.{full_in}
use Rattle.elab_scopes.specs.Wholes.{truth_whole}
use Rattle.elab_scopes.proofs.Standing.{does_after}
use Rattle.elab_scopes.proofs.simple.condition.Goals as goal

pub returns : goal.returns
returns g c = does_after c.args.st.now c.full_operand.new.st _ _
    (full_in c.full_operand.new.st c.in_ok-o.o) truth_whole c.truth_whole.result c.in_ok-o.ensures.grown c.in_ok-o.ensures.is c.truth_whole.ensures
