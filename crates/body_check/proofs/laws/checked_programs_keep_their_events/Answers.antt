use Rattle.body_check.proofs.Program.{main_same, main_within}
use Rattle.body_check.proofs.laws.checked_programs_keep_their_events.Goals as goal

pub returns-clause-same : goal.returns-clause-same
returns-clause-same c = λ p names b book links small begins. main_same p names b book links small begins

pub returns-clause-within : goal.returns-clause-within
returns-clause-within c = λ p names b book links small begins. main_within p names b book links small begins
