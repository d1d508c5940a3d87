use Rattle.fold_events.proofs.Safety.{is_safe_kept, findings_kept}
use Rattle.fold_events.proofs.laws.same_safety.Goals as goal

pub returns-clause-program : goal.returns-clause-program
returns-clause-program c = λ p well e. findings_kept p well e

pub returns-clause-functions : goal.returns-clause-functions
returns-clause-functions c = λ p unit n well. is_safe_kept p well unit n
