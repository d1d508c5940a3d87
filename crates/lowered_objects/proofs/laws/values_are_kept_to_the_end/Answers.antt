use Rattle.lowered_objects.proofs.Closed.{cleaned_reads}
use Rattle.lowered_objects.proofs.laws.values_are_kept_to_the_end.Goals as goal

pub returns : goal.returns
returns c = λ p b book h g m items d chain owner at kept. cleaned_reads p b book h g m d chain owner at kept
