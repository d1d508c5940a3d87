use Rattle.std.proofs.Common.{ap, ◌∙◌}
use Rattle.tx_code.specs.Images.{image_func_view}
use Rattle.src_bind.specs.Bounds.{given}
use Rattle.image_links.specs.Agreeing.{same_func}
use Rattle.image_links.proofs.agreeing.is_numbered.Goals as goal

pub returns-in-Some : goal.returns-in-Some
returns-in-Some c = c.same_func.ensures (given c.args.bound.now).program ∙ ap (same_func (image_func_view c.args.func.now)) c.in-Some.ensures
