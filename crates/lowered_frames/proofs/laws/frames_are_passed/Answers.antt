use Rattle.lowered_frames.proofs.Passing.{passes}
use Rattle.lowered_frames.proofs.laws.frames_are_passed.Goals as goal

pub returns : goal.returns
returns c = λ g number ws k m n items rest h outer chain es ts exit e. passes g number ws k h outer chain es ts exit e
