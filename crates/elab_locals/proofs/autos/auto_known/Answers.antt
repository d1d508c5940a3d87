use Rattle.std.proofs.Common.{◌≡◌, ◌∙◌}
use Rattle.elab_locals.proofs.Placed.{known_made}
use Rattle.elab_locals.proofs.autos.auto_known.Goals as goal

pub returns : goal.returns
returns c = known_made c.args.st.now _ c.args.o c.args.index _ _ c.args.at _ c.in_ok-ty.ensures c.auto_of_type.ensures
