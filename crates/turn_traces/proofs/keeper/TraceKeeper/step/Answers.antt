use Rattle.std.proofs.Common.{◌<◌, ◌++◌, ◌∙◌, ap, sym, length, None, arith}
use Rattle.tx_events.specs.declared.TurnKind.TheVariants.{Ran}
use Rattle.tx_events.specs.Memory.{update}
use Rattle.turn_traces.specs.Keeper.{kept_at}
use Rattle.turn_traces.specs.Keeping.{gained, kept_after}
use Rattle.turn_traces.proofs.Keepers.{on_ok, read_thread, set_threads, told_is}
use Rattle.turn_traces.proofs.keeper.TraceKeeper.step.Goals as goal

pub returns : goal.returns
returns c =
    let self = c.args.self.now in
    let xs = self.threads.items in
    let here : self.thread < length xs = omega (arith, c.if-at-len.false, c.len.ensures) in
    on_ok c.go_on.result (λ gone. told_is self c.args.event Ran None c.put_step.new.items.items _ _
    (c.in_ok-put_step.ensures ∙ ap (λ x. self.items.items ++ gained self.thread self.started c.args.event x)
    (sym (read_thread xs self.thread c.index-thread.result.now here c.index-thread.ensures)))
    (set_threads xs self.thread c.go_on.new.self here ∙ ap (λ x. update (kept_at xs) self.thread x)
    (gone ∙ ap (kept_after c.args.event) (sym (read_thread xs self.thread c.index_mut-changed.result.now here c.index_mut-changed.ensures.value))))
    c.in_ok-self.ensures) c.go_on.ensures
