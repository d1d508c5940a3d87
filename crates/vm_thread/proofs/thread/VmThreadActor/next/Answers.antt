use Rattle.tx_code.specs.Views.{image_view}
use Rattle.vm_frames.specs.FrameStacks.{shown}
use Rattle.vm_thread.specs.ThreadLaws.{modes}
use Rattle.vm_thread.proofs.thread.VmThreadActor.next.Goals as goal

pub next_step-requires : goal.next_step-requires
next_step-requires c = modes (record { image = image_view c.args.self.now.image.now; state = shown c.args.self.now.frames }) c.args.self.now.reached
