use Rattle.std.proofs.Common.{◌<◌, ◌++◌, ◌∙◌, ap, sym, refl, length, Some, arith}
use Rattle.tx_events.specs.declared.TurnKind.TheVariants.{Ran}
use Rattle.turn_traces.specs.Keeper.{kept_at}
use Rattle.turn_traces.specs.Keeping.{items_told}
use Rattle.turn_traces.proofs.Keepers.{on_ok, read_thread, same_threads, told_is}
use Rattle.turn_traces.proofs.keeper.TraceKeeper.halt.Goals as goal

pub returns : goal.returns
returns c =
    let self = c.args.self.now in
    let xs = self.threads.items in
    let here : self.thread < length xs = omega (arith, c.if-at-len.false, c.len.ensures) in
    on_ok c.put_halted.result (λ put. told_is self c.args.event Ran (Some c.args.end) c.put_halted.new.items.items (kept_at xs) self.started
    (put ∙ ap (λ x. self.items.items ++ items_told self.thread self.started c.args.event Ran (Some c.args.end) x)
    (sym (read_thread xs self.thread c.index-thread.result.now here c.index-thread.ensures)))
    (same_threads (kept_at xs) self.thread) refl) c.put_halted.ensures
