use Rattle.cpp_overload.proofs.Choosing.{chosen_is_meant}
use Rattle.cpp_overload.proofs.laws.choosing.Goals as goal

pub returns : goal.returns
returns c = chosen_is_meant
