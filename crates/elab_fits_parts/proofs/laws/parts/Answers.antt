use Rattle.elab_holds.proofs.Sound.{typ_sound}
use Rattle.elab_fits_parts.proofs.Objects.{objects_law}
use Rattle.elab_fits_parts.proofs.Parts.{pointers_law, parts_law}
use Rattle.elab_fits_parts.proofs.laws.parts.Goals as goal

pub returns-clause-pointers : goal.returns-clause-pointers
returns-clause-pointers c = pointers_law

pub returns-clause-parts : goal.returns-clause-parts
returns-clause-parts c = parts_law

pub returns-clause-objects : goal.returns-clause-objects
returns-clause-objects c = objects_law

pub returns-clause-sound : goal.returns-clause-sound
returns-clause-sound c = typ_sound
