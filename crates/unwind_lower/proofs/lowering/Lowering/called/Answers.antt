use Rattle.std.proofs.Common.{◌∙◌, ap}
use Rattle.low_code.specs.Types.{called_type}
use Rattle.unwind_lower.specs.Settings.{setting_of, node_in}
use Rattle.unwind_lower.specs.Calls.{called_by}
use Rattle.unwind_lower.proofs.lowering.Lowering.called.Goals as goal

pub returns : goal.returns
unfolding called_by
returns c = c.in_ok-function.ensures
    ∙ (ap called_type c.in_ok-pointer.ensures.typ ∙ ap (λ id. called_type (node_in (setting_of c.args.self.now) id).typ) c.in_ok-kid.ensures.shown)
