use Rattle.cpp_types.proofs.EqualTests.{typ_eq_is}
use Rattle.cpp_types.proofs.equality.equal_types.Goals as goal

pub returns : goal.returns
returns c = typ_eq_is c.same.result _ _ c.same.ensures
