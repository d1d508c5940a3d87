use Rattle.std.specs.Prelude.{false}
use Rattle.std.proofs.Common.{◌≡◌, [], sym, ap, ◌∙◌, subst}
use Rattle.tx_code.specs.Views.{image_view}
use Rattle.tx_code.specs.Meaning.{Runs, first_frame}
use Rattle.tx_code.specs.Program.{first_state}
use Rattle.vm_frames.specs.FrameStacks.{shown}
use Rattle.vm_thread.specs.Threads.{IsReached}
use Rattle.vm_thread.specs.ThreadLaws.{at_main_stands}
use Rattle.vm_thread.proofs.thread.VmThread.new.Goals as goal

pub invariant_of-result : goal.invariant_of-result
invariant_of-result c =
    let e : shown c.in_ok-frames.frames ≡ first_state (image_view c.args.image.now) = c.in_ok-frames.ensures
    ∙ ap (λ z. Runs (first_frame (record { thread = 0; func = c.args.image.now.main; safe = false; base = z }) []) []) c.stack_start.ensures in
    record {
      reached = subst (λ z. IsReached (record { image = image_view c.args.image.now; state = z })) (sym e)
          (at_main_stands (image_view c.args.image.now) c.an_image_is_whole.ensures c.requires);
    }
