use Rattle.std.proofs.Common.{◌<◌, ◌∙◌, ap, sym, refl, length, append-nil, arith}
use Rattle.tx_events.specs.declared.TurnKind.TheVariants.{Rolled}
use Rattle.tx_events.specs.Memory.{update}
use Rattle.turn_traces.specs.Keeper.{kept_at}
use Rattle.turn_traces.specs.Keeping.{given_up}
use Rattle.turn_traces.proofs.Keepers.{read_thread, set_threads, told_is}
use Rattle.turn_traces.proofs.keeper.TraceKeeper.roll.Goals as goal

pub returns : goal.returns
returns c =
    let self = c.args.self.now in
    let xs = self.threads.items in
    let here : self.thread < length xs = omega (arith, c.if-at-len.false, c.len.ensures) in
    told_is self c.args.event (Rolled c.args.word c.args.holder) c.args.end self.items.items _ self.started (sym (append-nil self.items.items))
    (set_threads xs self.thread c.give_up.new.self here ∙ ap (λ x. update (kept_at xs) self.thread x)
    (c.give_up.ensures ∙ ap given_up (sym (read_thread xs self.thread c.index_mut-thread.result.now here c.index_mut-thread.ensures.value)))) refl
