use Rattle.source_verdict.proofs.OneVerdict.{only_nested}
use Rattle.source_verdict.proofs.laws.one_verdict.Goals as goal

pub returns : goal.returns
returns c = only_nested
