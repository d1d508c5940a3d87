use Rattle.std.proofs.Common.{sym, ◌∙◌}
use Rattle.object_bytes.proofs.Sources.{source_there}
use Rattle.object_bytes.proofs.source.source_name.Goals as goal

pub returns-in-None : goal.returns-in-None
returns-in-None c = sym (source_there _ _ c.if-number-eq0.false ∙ c.in-None.ensures)
