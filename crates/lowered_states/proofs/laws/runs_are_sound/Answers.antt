use Rattle.lowered_states.proofs.Running.{begun_sound, started_sound, pads_sound, step_of, run_step, whole_sound}
use Rattle.lowered_states.proofs.laws.runs_are_sound.Goals as goal

pub returns-clause-begun : goal.returns-clause-begun
returns-clause-begun c = λ g names at n. begun_sound g names at n

pub returns-clause-started : goal.returns-clause-started
returns-clause-started c = λ g root at s h. started_sound g root at s h

pub returns-clause-ways_out : goal.returns-clause-ways_out
returns-clause-ways_out c = λ s h. pads_sound s h

pub returns-clause-written : goal.returns-clause-written
returns-clause-written c = λ g item s h a. (step_of g item s h a).sound

pub returns-clause-reached : goal.returns-clause-reached
returns-clause-reached c = λ g from to h a r. (run_step g from h a r).sound

pub returns-clause-whole : goal.returns-clause-whole
returns-clause-whole c = λ g root names at to w n a b. whole_sound g root names at to w n a b
