use Rattle.elab_scopes.specs.States.{full_in}
use Rattle.elab_scopes.specs.Wholes.{dropped_whole}
use Rattle.elab_scopes.proofs.Standing.{one_after}
use Rattle.elab_scopes.proofs.simple.expression_statement.Goals as goal

pub returns : goal.returns
returns g c = one_after c.args.st.now c.full_operand.new.st _ _
    (full_in c.full_operand.new.st c.in_ok-o.o) dropped_whole c.in_ok-made.made c.in_ok-o.ensures.grown c.in_ok-o.ensures.is c.in_ok-made.ensures
