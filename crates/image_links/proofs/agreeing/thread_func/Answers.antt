use Rattle.std.proofs.Common.{refl}
use Rattle.src_mean.specs.Source.{thread_signature}
use Rattle.image_links.proofs.agreeing.thread_func.Goals as goal

pub returns : goal.returns
returns c = c.pointed.ensures thread_signature refl
