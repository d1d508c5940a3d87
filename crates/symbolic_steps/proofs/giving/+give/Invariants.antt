use Rattle.symbolic_steps.specs.Depth.{depth}
use Rattle.symbolic_steps.proofs.giving.+give.Given as goal

abbrev pub decreases-give : goal.decreases-give
decreases-give l = depth l.frames
