use Rattle.cpp_types.specs.Class.{classes_of}
use Rattle.cpp_types.proofs.OrderTests.{order_is}
use Rattle.cpp_types.proofs.order.is_in_order.Goals as goal

pub returns : goal.returns
returns c = order_is c.are_consistent.result (classes_of c.args.classes.now) c.are_consistent.ensures
