use Rattle.link_laws.proofs.WholeImages.{all_objects}
use Rattle.link_laws.proofs.SoundImages.{sound_image}
use Rattle.link_laws.proofs.laws.linked_soundness.Goals as goal

pub returns : goal.returns
returns c = λ os i h l s o. sound_image os i (all_objects os h) l s o
