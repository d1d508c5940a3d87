use Rattle.std.proofs.Common.{ap, ◌∙◌}
use Rattle.symbolic_terms.specs.declared.outcomes.Outcome.TheVariants.{Goes}
use Rattle.symbolic_leaving.specs.Source.{units_of}
use Rattle.note_landing.specs.Shown.{func_by, outcome_by}
use Rattle.body_notes.proofs.Fitting.{loudly_as}
use Rattle.body_notes.proofs.fits.does.Goals as goal

pub returns-in_ok-loudly-in-Goes-Does-default-clause-is : goal.returns-in_ok-loudly-in-Goes-Does-default-clause-is
returns-in_ok-loudly-in-Goes-Does-default-clause-is c m a = loudly_as c.args.body.now m c.args.notes.now _ _ _ _ _ _ _ (ap (λ z. outcome_by c.args.body.now m z) (c.in-Goes-Does-default.is ∙ ap (λ z. Goes z c.in-Goes-Does-default.rest) (rw c.in-Goes-Does-default.is at c.in-Goes-Does-default.field-0-is))) (c.in_ok-loudly-in-Goes-Does-default.ensures.is m a (units_of c.args.body.now.source) (func_by c.args.body.now))
