use Rattle.symbolic_terms.specs.Replaced.{replacing_of}
use Rattle.symbolic_terms.specs.Shown.{doing_of}
use Rattle.symbolic_frames.proofs.InPlace.{does_replaced}
use Rattle.symbolic_frames.proofs.outcomes.replaced_leading.Goals as goal

pub returns-in_ok-replaced_doing-in-Does-clause-is : goal.returns-in_ok-replaced_doing-in-Does-clause-is
returns-in_ok-replaced_doing-in-Does-clause-is c types m p f ws k agrees =
    does_replaced types m p f (replacing_of types c.args.with) c.args.leading c.in-Does.doing (doing_of types m p f c.in_ok-replaced_doing-in-Does.field-0) ws k c.in-Does.is (c.in_ok-replaced_doing-in-Does.ensures.is types m p f agrees)
