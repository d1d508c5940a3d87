use Rattle.elab_fits_bodies.proofs.Copied.{source_stands, copies_of_parts}
use Rattle.elab_fits_bodies.proofs.Implied.{parts_copied_fit}
use Rattle.elab_fits_bodies.proofs.laws.copied.Goals as goal

pub returns-clause-sources : goal.returns-clause-sources
returns-clause-sources c = source_stands

pub returns-clause-parts : goal.returns-clause-parts
returns-clause-parts c = copies_of_parts

pub returns-clause-objects : goal.returns-clause-objects
returns-clause-objects c = parts_copied_fit
