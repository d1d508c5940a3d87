use Rattle.tx_ints.proofs.ConversionLaws.{promote_twice, usual_promoted, usual_turned}
use Rattle.tx_ints.proofs.laws.promotion_laws.Goals as goal

pub returns : goal.returns
returns c = record { twice = promote_twice; promoted = usual_promoted; turned = usual_turned }
