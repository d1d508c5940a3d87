use Rattle.symbolic_code.proofs.Followed.{followed_follows}
use Rattle.symbolic_code.proofs.laws.instructions_are_followed.Goals as goal

pub returns : goal.returns
returns c = λ p f numbers x home rest below_frames small bounded based names numbering t right ks i a q o s known h. followed_follows p f numbers x home rest
    below_frames small bounded based names numbering t right ks i a q o s known h
