use Rattle.std.proofs.Common.{ap, ◌∙◌}
use Rattle.symbolic_terms.specs.declared.outcomes.Outcome.TheVariants.{Goes}
use Rattle.note_landing.specs.Shown.{outcome_by}
use Rattle.body_notes.proofs.Fitting.{starting_as}
use Rattle.body_notes.proofs.fits.starts.Goals as goal

pub returns-in_ok-starting-in-Goes-Spawns-default-clause-is : goal.returns-in_ok-starting-in-Goes-Spawns-default-clause-is
returns-in_ok-starting-in-Goes-Spawns-default-clause-is c m a = starting_as c.args.body.now m c.args.notes.now _ _ _ _ _ _ _ _ (ap (λ z. outcome_by c.args.body.now m z) (c.in-Goes-Spawns-default.is ∙ ap (λ z. Goes z c.in-Goes-Spawns-default.rest) (rw c.in-Goes-Spawns-default.is at c.in-Goes-Spawns-default.field-0-is))) (c.in_ok-starting-in-Goes-Spawns-default.ensures.is m a)
