use Rattle.std.proofs.Common.{ap, ◌∙◌}
use Rattle.symbolic_terms.specs.declared.outcomes.Outcome.TheVariants.{GoesOut}
use Rattle.note_landing.proofs.Flown.{out_as}
use Rattle.note_landing.proofs.flights.is_out.Goals as goal

pub returns-in-GoesOut-Throws-default : goal.returns-in-GoesOut-Throws-default
returns-in-GoesOut-Throws-default c told b m a = out_as b m _ _ _ _ (c.in-GoesOut-Throws-default.is ∙ ap (λ z. GoesOut z c.in-GoesOut-Throws-default.field-1) (rw c.in-GoesOut-Throws-default.is at c.in-GoesOut-Throws-default.field-0-is)) (c.equal_thrown.ensures.shows told _ m a)
