use Rattle.checked_runs.proofs.Beginning.{all_begin}
use Rattle.checked_runs.proofs.laws.threads_begin.Goals as goal

pub returns : goal.returns
returns c = λ p names b book links can. all_begin p names b book links can
