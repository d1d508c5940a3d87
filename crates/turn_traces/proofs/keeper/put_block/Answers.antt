use Rattle.std.proofs.Common.{◌++◌, ◌==◌, ◌∙◌, ap, append_assoc}
use Rattle.tx_events.specs.declared.What.TheVariants.{Enter}
use Rattle.tx_serial.specs.Trace.{item_if}
use Rattle.turn_traces.specs.Keeping.{named}
use Rattle.turn_traces.proofs.Keepers.{on_ok}
use Rattle.turn_traces.proofs.keeper.put_block.Goals as goal

pub returns : goal.returns
returns c =
    let thread = c.args.thread.now in
    let rest = named c.args.t thread.accesses.items in
    on_ok c.put_all.result (λ h. h ∙ (ap (λ zs. zs ++ rest) c.in_ok-put_if.ensures
    ∙ append_assoc c.args.items.now.items (item_if (thread.at_entry == 1) c.args.t Enter) rest)) c.put_all.ensures
