use Rattle.cpp_types.proofs.EqualTests.{typs_eq_is}
use Rattle.cpp_types.proofs.equality.equal_lists.Goals as goal

pub returns : goal.returns
returns c = typs_eq_is c.same_all.result _ _ c.same_all.ensures
