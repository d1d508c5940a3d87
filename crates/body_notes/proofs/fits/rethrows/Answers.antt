use Rattle.std.proofs.Common.{ap, ◌∙◌}
use Rattle.symbolic_terms.specs.declared.outcomes.Outcome.TheVariants.{Goes}
use Rattle.note_landing.specs.Shown.{outcome_by}
use Rattle.body_notes.proofs.Fitting.{rethrowing_as}
use Rattle.body_notes.proofs.fits.rethrows.Goals as goal

pub returns-in_ok-rethrowing-in-Goes-Rethrows-default-clause-is : goal.returns-in_ok-rethrowing-in-Goes-Rethrows-default-clause-is
returns-in_ok-rethrowing-in-Goes-Rethrows-default-clause-is c m a = rethrowing_as c.args.body.now m c.args.notes.now _ _ _ _ _ _ (ap (λ z. outcome_by c.args.body.now m z) (c.in-Goes-Rethrows-default.is ∙ ap (λ z. Goes z c.in-Goes-Rethrows-default.rest) (rw c.in-Goes-Rethrows-default.is at c.in-Goes-Rethrows-default.field-0-is))) (c.in_ok-rethrowing-in-Goes-Rethrows-default.ensures.is m a)
