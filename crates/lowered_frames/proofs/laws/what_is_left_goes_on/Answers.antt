use Rattle.lowered_frames.proofs.Foreseen.{goes_on}
use Rattle.lowered_frames.proofs.laws.what_is_left_goes_on.Goals as goal

pub returns : goal.returns
returns c = λ p f answers g number m items d s chain es ts ws v. goes_on p f answers g number d s chain es ts ws v
