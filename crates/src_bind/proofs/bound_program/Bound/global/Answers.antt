use Rattle.std.proofs.Common.{◌∙◌, ap, unwrap_or}
use Rattle.src_bind.specs.Bounds.{given}
use Rattle.src_bind.proofs.Looked.{global_is}
use Rattle.src_bind.proofs.bound_program.Bound.global.Goals as goal

pub returns : goal.returns
returns c = c.unwrap_or.ensures ∙ ap (λ z. unwrap_or z 65536) c.address_at.ensures
    ∙ global_is (given c.args.self.now) _ c.args.self.now.tables c.deref.result.now c.args.unit c.args.global c.deref.ensures.value
