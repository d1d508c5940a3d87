use Rattle.assembly_text.specs.Front.{none}
use Rattle.assembly_text.proofs.FieldLaws.{fields_append, field_shorter}
use Rattle.assembly_text.proofs.words.numbers_at.Goals as goal

pub fields-init : goal.fields-init
fields-init c = rw c.clear.ensures.items none

pub fields-preserved : goal.fields-preserved
fields-preserved c = rw c.in_ok-push.ensures.items (fields_append c.fields.invariant c.in-Some.ensures)

pub fields-smaller : goal.fields-smaller
fields-smaller c = field_shorter c.in-Some.ensures
