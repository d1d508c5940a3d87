use Rattle.std.proofs.Common.{sym}
use Rattle.assembly_text.proofs.FieldLaws.{found, no_end, none_made}
use Rattle.assembly_text.proofs.words.record_at.Goals as goal

pub returns-in_default : goal.returns-in_default
returns-in_default c = no_end _ _ _ _ c.in_ok-rest.ensures.0 c.in_ok-rest.ensures.1 c.in_default.ensures

pub returns-in-Some-record_by : goal.returns-in-Some-record_by
returns-in-Some-record_by c = found _ _ _ _ _ (rw c.in-Some.ensures at c.in_ok-rest.ensures.0) (sym (rw c.deref.ensures.value at c.in-Some-record_by.ensures))

pub returns-in-None : goal.returns-in-None
returns-in-None c = none_made _ _ _ _ c.in_ok-rest.ensures.0 c.in_ok-rest.ensures.1 (sym (rw c.deref.ensures.value at c.in-None.ensures))
