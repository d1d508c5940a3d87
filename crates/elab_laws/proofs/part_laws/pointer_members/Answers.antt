use Rattle.elab_laws.proofs.Parts.{pointer_members_law}
use Rattle.elab_laws.proofs.part_laws.pointer_members.Goals as goal

pub returns : goal.returns
returns c = pointer_members_law
