use Rattle.elab_fits_objects.proofs.Classes.{class_builds}
use Rattle.elab_fits_objects.proofs.Exact.{exact_builds}
use Rattle.elab_fits_objects.proofs.Placing.{object_placed}
use Rattle.elab_fits_objects.proofs.laws.objects.Goals as goal

pub returns-clause-placed : goal.returns-clause-placed
returns-clause-placed c = object_placed

pub returns-clause-classes : goal.returns-clause-classes
returns-clause-classes c = class_builds

pub returns-clause-exacts : goal.returns-clause-exacts
returns-clause-exacts c = exact_builds
