use Rattle.src_frames.proofs.state.State.give_call.Goals as goal

pub returns-in-Passes : goal.returns-in-Passes
returns-in-Passes c = rw c.in-Passes.is (c.pass_word.ensures c.args.value)
