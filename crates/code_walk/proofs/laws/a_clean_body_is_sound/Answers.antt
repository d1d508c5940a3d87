use Rattle.code_walk.proofs.Exact.{clean_is_sound, sound_is_clean}
use Rattle.code_walk.proofs.laws.a_clean_body_is_sound.Goals as goal

pub returns-clause-sound : goal.returns-clause-sound
returns-clause-sound c = clean_is_sound

pub returns-clause-clean : goal.returns-clause-clean
returns-clause-clean c = sound_is_clean
