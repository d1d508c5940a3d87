use Rattle.std.proofs.Common.{refl}
use Rattle.elab_implicit.proofs.PartLists.{given_is_done}
use Rattle.elab_implicit.proofs.building.member_given.Goals as goal

pub returns-clause-is : goal.returns-clause-is
returns-clause-is c = given_is_done c.args.st.now _ _ _ _ c.member_init.ensures refl refl
