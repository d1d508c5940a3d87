use Rattle.elab_sound_types.proofs.Growth.{sound_more, signature_more, kept_joined}
use Rattle.elab_sound_types.proofs.laws.growth.Goals as goal

pub returns-clause-types : goal.returns-clause-types
returns-clause-types c before now way t h = sound_more before now h way t

pub returns-clause-signatures : goal.returns-clause-signatures
returns-clause-signatures c before now s h = signature_more before now h s

pub returns-clause-stepwise : goal.returns-clause-stepwise
returns-clause-stepwise c = kept_joined
