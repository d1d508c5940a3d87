use Rattle.elab_fits_bodies.proofs.Parts.{part_stands, base_stands, part_serves, pointer_serves}
use Rattle.elab_fits_bodies.proofs.laws.parts.Goals as goal

pub returns-clause-members : goal.returns-clause-members
returns-clause-members c = part_stands

pub returns-clause-bases : goal.returns-clause-bases
returns-clause-bases c = base_stands

pub returns-clause-initialised : goal.returns-clause-initialised
returns-clause-initialised c = part_serves

pub returns-clause-pointers : goal.returns-clause-pointers
returns-clause-pointers c = pointer_serves
