use Rattle.std.proofs.Common.{sym, ◌∙◌}
use Rattle.object_bytes.proofs.laws.one_spelling.Goals as goal

pub returns : goal.returns
returns c = λ o a b s t. s.bytes_are ∙ sym t.bytes_are
