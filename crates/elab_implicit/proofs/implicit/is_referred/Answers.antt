use Rattle.std.proofs.Common.{◌∙◌}
use Rattle.elab_implicit.proofs.implicit.is_referred.Goals as goal

pub returns : goal.returns
returns c = c.is_marked.ensures ∙ c.requires.table.says c.args.func c.requires.below
