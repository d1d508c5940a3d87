use Rattle.assembly_text.proofs.NameLaws.{name_there, no_close, no_quote}
use Rattle.assembly_text.proofs.names.name_at.Goals as goal

pub returns-in-Some-behind : goal.returns-in-Some-behind
returns-in-Some-behind c = name_there _ _ _ _ c.in-Some.ensures (rw c.in-Some-behind.ensures at c.in_ok-name.ensures.0)

pub returns-in_default : goal.returns-in_default
returns-in_default c = no_quote _ c.in_default.ensures

pub returns-in-None : goal.returns-in-None
returns-in-None c = no_close _ _ _ _ c.in-Some.ensures c.in_ok-name.ensures.0 c.in_ok-name.ensures.1 c.in-None.ensures
