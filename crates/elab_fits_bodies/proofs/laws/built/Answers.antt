use Rattle.elab_fits_bodies.proofs.Built.{default_builds, parts_build}
use Rattle.elab_fits_bodies.proofs.laws.built.Goals as goal

pub returns-clause-nothing : goal.returns-clause-nothing
returns-clause-nothing c = default_builds

pub returns-clause-parts : goal.returns-clause-parts
returns-clause-parts c = parts_build
