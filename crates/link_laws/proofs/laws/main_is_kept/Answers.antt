use Rattle.link_laws.proofs.MainThere.{main_there}
use Rattle.link_laws.proofs.laws.main_is_kept.Goals as goal

pub returns : goal.returns
returns c = λ os n h. main_there os n h
