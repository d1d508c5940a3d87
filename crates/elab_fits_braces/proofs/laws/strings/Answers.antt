use Rattle.elab_fits_braces.proofs.Strings.{strings_build}
use Rattle.elab_fits_braces.proofs.laws.strings.Goals as goal

pub returns : goal.returns
returns c = record { strings = strings_build }
