use Rattle.vm_thread.specs.ThreadLaws.{running_laws, at_main_stands}
use Rattle.vm_thread.proofs.laws.threads_keep_the_laws.Goals as goal

pub returns-clause-laws : goal.returns-clause-laws
returns-clause-laws c = running_laws

pub returns-clause-starts : goal.returns-clause-starts
returns-clause-starts c = at_main_stands
