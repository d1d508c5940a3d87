use Rattle.lowered_apart.proofs.Running.{step, run_on, apart}
use Rattle.lowered_apart.proofs.laws.runs_wait.Goals as goal

pub returns-clause-written : goal.returns-clause-written
returns-clause-written c = λ z item s m. step {z = z} item s m

pub returns-clause-reached : goal.returns-clause-reached
returns-clause-reached c = λ z from to m r. run_on {z = z} from m r

pub returns-clause-apart : goal.returns-clause-apart
returns-clause-apart c = λ z item s m. apart {z = z} item s m
