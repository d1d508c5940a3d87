use Rattle.cpp_tree.proofs.BodyTests.{test_is_body, body_is_test}
use Rattle.cpp_tree.proofs.laws.bodies.Goals as goal

pub returns : goal.returns
returns c = record { said = test_is_body; tested = body_is_test }
