use Rattle.std.proofs.Common.{◌∙◌, ap, sym}
use Rattle.symbolic_source.specs.Outcomes as outcomes
use Rattle.symbolic_terms.specs.Shown.{leading_of}
use Rattle.symbolic_equality.proofs.outcomes.equal_leadings.Goals as goal

pub returns-in-Does-Does : goal.returns-in-Does-Does
returns-in-Does-Does c = record {
  shows = λ h types m p f ws k agrees.
      ap (λ z. leading_of types m p f z ws k) c.in-Does-Does.is-0
      ∙ ap (λ z. outcomes.goes z ws k) (c.equal_doings.ensures.shows h types m p f agrees)
      ∙ ap (λ z. leading_of types m p f z ws k) (sym c.in-Does-Does.is-1);
}
