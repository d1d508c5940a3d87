use Rattle.elab_rules.proofs.cpp_types.EqualTests.{typ_eq_is}
use Rattle.elab_conv.proofs.conversions.is_same_type.Goals as goal

pub returns : goal.returns
returns c = typ_eq_is c.same.result _ _ c.same.ensures
