use Rattle.std.proofs.Common.{refl}
use Rattle.elab_scopes.proofs.Choices.{switched_made}
use Rattle.elab_scopes.proofs.simple.switched_on.Goals as goal

pub returns : goal.returns
returns c =
    switched_made c.args.st.now _ _ c.args.o c.in_ok-id.id _ _ _ c.in_ok-id.ensures c.node_at.ensures.typ c.in_ok-ty.ensures c.in_ok-value.ensures refl refl
