use Rattle.lowered_rows.proofs.Outward.{passed_taken}
use Rattle.lowered_rows.proofs.laws.passed_scopes_take_nothing.Goals as goal

pub returns : goal.returns
returns c = λ b within scope ty l. passed_taken b within scope ty l
