use Rattle.std.proofs.Common.{◌≡◌, sym, ap, ◌∙◌, subst}
use Rattle.tx_code.specs.Views.{image_view}
use Rattle.tx_code.specs.Meaning.{state_after, step_act}
use Rattle.tx_code.specs.Program.{names_of}
use Rattle.vm_frames.specs.FrameStacks.{shown}
use Rattle.vm_thread.specs.Threads.{IsReached}
use Rattle.vm_thread.specs.ThreadLaws.{running_laws, modes}
use Rattle.vm_thread.proofs.thread.VmThreadActor.take.Goals as goal

pub next_step-requires : goal.next_step-requires
next_step-requires c = modes (record { image = image_view c.args.self.now.image.now; state = shown c.args.self.now.frames }) c.args.self.now.reached

pub invariant_of-self : goal.invariant_of-self
invariant_of-self c =
    let e : shown c.go_on.new.frames ≡ state_after (shown c.args.self.now.frames)
    (step_act (names_of (image_view c.args.self.now.image.now)) (shown c.args.self.now.frames)) c.args.reply = c.go_on.ensures
    ∙ ap (λ a. state_after (shown c.args.self.now.frames) a c.args.reply) c.in-Some.ensures.is in
    record {
      reached = subst (λ z. IsReached (record { image = image_view c.args.self.now.image.now; state = z })) (sym e)
          (running_laws.goes_on (record {
            image = image_view c.args.self.now.image.now;
            state =
                shown c.args.self.now.frames;
          }) c.args.reply c.args.self.now.reached c.requires.answers);
    }

pub invariant_of-self-in-Does : goal.invariant_of-self-in-Does
invariant_of-self-in-Does c =
    let e : shown c.apply.new.frames ≡ state_after (shown c.args.self.now.frames)
    (step_act (names_of (image_view c.args.self.now.image.now)) (shown c.args.self.now.frames)) c.args.reply = c.apply.ensures
    ∙ ap (λ a. state_after (shown c.args.self.now.frames) a c.args.reply) c.in-Does.ensures.is in
    record {
      reached = subst (λ z. IsReached (record { image = image_view c.args.self.now.image.now; state = z })) (sym e)
          (running_laws.goes_on (record {
            image = image_view c.args.self.now.image.now;
            state =
                shown c.args.self.now.frames;
          }) c.args.reply c.args.self.now.reached c.requires.answers);
    }
