use Rattle.cpp_syntax.proofs.WithBodies.{filled_same}
use Rattle.cpp_syntax.proofs.LambdaBodies.{bodies_in, bodies_apart}
use Rattle.cpp_syntax.proofs.laws.bodies.Goals as goal

pub returns : goal.returns
returns c = record {
  put_in = λ source f a b r trees x h. let y = bodies_in x h in (y.trees, y.text, y.filled);
  taken_out = λ source f a b whole x. let y = bodies_apart x in (y.after, y.trees, y.text, y.have, y.filled);
  one = λ trees apart whole other x y. filled_same y x;
}
