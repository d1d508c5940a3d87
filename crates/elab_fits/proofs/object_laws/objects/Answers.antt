use Rattle.elab_fits.proofs.AreZeros.{are_zero_law}
use Rattle.elab_fits.proofs.Copies.{copies_law}
use Rattle.elab_fits.proofs.Destructions.{destructions_law}
use Rattle.elab_fits.proofs.ElementTypes.{elements_law}
use Rattle.elab_fits.proofs.Ready.{ready_law}
use Rattle.elab_fits.proofs.ResultZeros.{results_law}
use Rattle.elab_fits.proofs.Zeros.{zeros_law}
use Rattle.elab_fits.proofs.object_laws.objects.Goals as goal

pub returns-clause-ready : goal.returns-clause-ready
returns-clause-ready c = ready_law

pub returns-clause-zeros : goal.returns-clause-zeros
returns-clause-zeros c = zeros_law

pub returns-clause-copies : goal.returns-clause-copies
returns-clause-copies c = copies_law

pub returns-clause-results : goal.returns-clause-results
returns-clause-results c = results_law

pub returns-clause-are_zero : goal.returns-clause-are_zero
returns-clause-are_zero c = are_zero_law

pub returns-clause-destructions : goal.returns-clause-destructions
returns-clause-destructions c = destructions_law

pub returns-clause-elements : goal.returns-clause-elements
returns-clause-elements c = elements_law
