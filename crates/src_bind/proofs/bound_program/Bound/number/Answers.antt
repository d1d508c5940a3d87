use Rattle.std.proofs.Common.{◌∙◌, ap, unwrap_or}
use Rattle.src_bind.specs.Bounds.{given}
use Rattle.src_bind.proofs.Looked.{number_is}
use Rattle.src_bind.proofs.bound_program.Bound.number.Goals as goal

pub returns : goal.returns
returns c = c.unwrap_or.ensures ∙ ap (λ z. unwrap_or z 0) c.number_at.ensures
    ∙ number_is (given c.args.self.now) _ c.args.self.now.tables c.deref.result.now c.args.unit c.args.func c.deref.ensures.value
