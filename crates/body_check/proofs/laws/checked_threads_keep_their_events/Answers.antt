use Rattle.body_check.proofs.Program.{child_same, child_within}
use Rattle.body_check.proofs.laws.checked_threads_keep_their_events.Goals as goal

pub returns-clause-same : goal.returns-clause-same
returns-clause-same c = λ p names b book links small id n arg other begins. child_same p names b book links small id n arg other begins

pub returns-clause-within : goal.returns-clause-within
returns-clause-within c = λ p names b book links small id n arg other begins. child_within p names b book links small id n arg other begins
