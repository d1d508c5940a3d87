use Rattle.elab_fits_items.proofs.Braced.{braces_build}
use Rattle.elab_fits_items.proofs.Items.{parts_build}
use Rattle.elab_fits_items.proofs.laws.items.Goals as goal

pub returns-clause-braces : goal.returns-clause-braces
returns-clause-braces c = braces_build

pub returns-clause-parts : goal.returns-clause-parts
returns-clause-parts c = parts_build
