use Rattle.lowered_rows.proofs.Outward.{outward}
use Rattle.lowered_rows.proofs.laws.scopes_take.Goals as goal

pub returns : goal.returns
returns c = λ b nested ty outside scope. outward b ty outside nested scope
