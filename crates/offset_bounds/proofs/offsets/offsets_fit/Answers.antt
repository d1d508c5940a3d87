use Rattle.std.proofs.Common.{◌∙◌, ap}
use Rattle.tx_safety.specs.Answers.{checked_in}
use Rattle.offset_bounds.proofs.Each.{all_fit}
use Rattle.offset_bounds.proofs.offsets.offsets_fit.Goals as goal

pub returns : goal.returns
returns c = all_fit (checked_in c.args.safe.now) c.deref.result.now (c.deref.ensures.value ∙ ap (λ z. z.units.items) c.program.ensures.program)
    c.units_fit.ensures
