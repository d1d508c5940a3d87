use Rattle.elab_init.specs.cpp_types.Typ.{typ_of}
use Rattle.elab_init.specs.elab_rules.Initialising.{seen_as}
use Rattle.elab_make.proofs.Putting.{puts_then}
use Rattle.elab_make.proofs.binding.bound_object.Goals as goal

pub returns : goal.returns
returns c = puts_then _ _ _ _ _ _ (seen_as c.args.at (typ_of c.args.ty.now)) _ c.in_ok-object.ensures c.seen_as.ensures
