use Rattle.std.proofs.Common.{◌∙◌}
use Rattle.elab_decls.proofs.Lists.{takes_none}
use Rattle.elab_decls.proofs.functions.takes_none.Goals as goal

pub returns : goal.returns
returns c = c.is_empty.ensures ∙ takes_none c.args.ty.now
