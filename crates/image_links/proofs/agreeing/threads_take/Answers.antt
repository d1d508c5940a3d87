use Rattle.std.proofs.Common.{refl}
use Rattle.src_mean.specs.Source.{thread_signature}
use Rattle.image_links.proofs.agreeing.threads_take.Goals as goal

pub returns : goal.returns
returns c = c.pointed_pass.ensures thread_signature refl
