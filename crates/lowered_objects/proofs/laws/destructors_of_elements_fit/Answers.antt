use Rattle.lowered_objects.proofs.Destroyed.{destructor_fits}
use Rattle.lowered_objects.proofs.laws.destructors_of_elements_fit.Goals as goal

pub returns : goal.returns
returns c = λ p b book h g items d chain id first row func offset size stride ids rows kind shown es known w ts entered types l small v name index f after a half named
    takes void out lead rank. destructor_fits p b book h g d chain id first row func offset size stride ids rows kind shown es known w ts entered types l small v name index
    f after a half named takes void out lead rank
