use Rattle.elab_laws.proofs.Parts.{members_law}
use Rattle.elab_laws.proofs.part_laws.members.Goals as goal

pub returns : goal.returns
returns c = members_law
