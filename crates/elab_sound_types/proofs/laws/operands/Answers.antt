use Rattle.elab_sound_types.proofs.Leading.{indirections_law, subscripts_law}
use Rattle.elab_sound_types.proofs.laws.operands.Goals as goal

pub returns-clause-indirections : goal.returns-clause-indirections
returns-clause-indirections c = indirections_law

pub returns-clause-subscripts : goal.returns-clause-subscripts
returns-clause-subscripts c = subscripts_law
