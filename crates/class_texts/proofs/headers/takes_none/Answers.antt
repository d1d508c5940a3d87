use Rattle.std.proofs.Common.{◌∙◌}
use Rattle.class_texts.proofs.Names.{none_typs}
use Rattle.class_texts.proofs.headers.takes_none.Goals as goal

pub returns : goal.returns
returns c = c.is_empty.ensures ∙ none_typs c.args.params.now
