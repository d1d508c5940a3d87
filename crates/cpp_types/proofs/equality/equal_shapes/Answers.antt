use Rattle.cpp_types.proofs.EqualTests.{form_eq_is}
use Rattle.cpp_types.proofs.equality.equal_shapes.Goals as goal

pub returns : goal.returns
returns c = form_eq_is c.same_shape.result _ _ c.same_shape.ensures
