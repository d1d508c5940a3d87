use Rattle.std.proofs.Common.{◌≡◌, ◌<◌, ◌∷◌, [], sym, ap, ◌∙◌, subst, arith, w64, length, map}
use Rattle.tx_code.specs.Views.{image_view}
use Rattle.tx_code.specs.Images.{image_func_view}
use Rattle.tx_code.specs.Meaning.{Runs, first_frame}
use Rattle.tx_code.specs.Program.{stack_start}
use Rattle.tx_ints.specs.Words.{word_of}
use Rattle.std.specs.Prelude.{false}
use Rattle.std.proofs.lemmas.Int.{to_z-of_z}
use Rattle.vm_frames.specs.FrameStacks.{shown}
use Rattle.vm_thread.specs.Threads.{IsReached}
use Rattle.vm_thread.specs.ThreadLaws.{running_laws, spawned_within}
use Rattle.std.proofs.lemmas.List.{length-map}
use Rattle.vm_thread.proofs.thread.VmThreadActor.start.Goals as goal

pub overflow_cast-func : goal.overflow_cast-func
overflow_cast-func c =
    let l : c.args.func < length (map image_func_view c.args.self.now.image.now.funcs.items) =
    spawned_within (record {
      image = image_view c.args.self.now.image.now;
      state =
          shown c.args.self.now.frames;
    }) c.args.number c.args.func c.args.arg c.args.self.now.reached c.requires in
    omega (arith, c.args.self.now.image.now.few, length-map c.args.self.now.image.now.funcs.items image_func_view)

pub invariant_of-result : goal.invariant_of-result
invariant_of-result c =
    let e : shown c.in_ok-frames.frames ≡ Runs (first_frame
    (record { thread = c.args.number; func = c.args.func; safe = false; base = stack_start c.args.number }) (word_of c.args.arg ∷ [])) [] =
    c.in_ok-frames.ensures ∙ ap (λ z. Runs (first_frame (record { thread = c.args.number; func = c.args.func; safe = false; base = z })
    (c.argument.result ∷ [])) []) c.stack_start.ensures
    ∙ ap (λ z. Runs (first_frame (record { thread = c.args.number; func = c.args.func; safe = false; base = stack_start c.args.number })
    (z ∷ [])) []) c.argument.ensures
    ∙ ap (λ z. Runs (first_frame (record { thread = c.args.number; func = c.args.func; safe = false; base = stack_start c.args.number }) (word_of z ∷ [])) [])
    (to_z-of_z w64 c.args.arg c.ranges.arg) in
    record {
      reached = subst (λ z. IsReached (record { image = image_view c.args.self.now.image.now; state = z })) (sym e)
          (running_laws.starts (record {
            image = image_view c.args.self.now.image.now;
            state =
                shown c.args.self.now.frames;
          }) c.args.number c.args.func c.args.arg c.args.self.now.reached c.requires);
    }
