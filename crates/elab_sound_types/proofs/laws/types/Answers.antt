use Rattle.elab_sound_types.proofs.Heads.{targets_law, heads_law, arrays_law, voids_law}
use Rattle.elab_sound_types.proofs.Leading.{references_law}
use Rattle.elab_sound_types.proofs.Pointers.{pointers_law}
use Rattle.elab_sound_types.proofs.laws.types.Goals as goal

pub returns-clause-targets : goal.returns-clause-targets
returns-clause-targets c = targets_law

pub returns-clause-heads : goal.returns-clause-heads
returns-clause-heads c = heads_law

pub returns-clause-pointers : goal.returns-clause-pointers
returns-clause-pointers c = pointers_law

pub returns-clause-arrays : goal.returns-clause-arrays
returns-clause-arrays c = arrays_law

pub returns-clause-voids : goal.returns-clause-voids
returns-clause-voids c = voids_law

pub returns-clause-references : goal.returns-clause-references
returns-clause-references c = references_law
