use Rattle.elab_scopes.proofs.Choices.{temporary_is}
use Rattle.elab_scopes.proofs.full.is_temporary.Goals as goal

pub returns-else-argument : goal.returns-else-argument
returns-else-argument c =
    λ trees. temporary_is trees c.in-Materialize.place c.in-Materialize.argument c.args.kind c.args.kids.now c.in-Materialize.is c.if-argument.false
