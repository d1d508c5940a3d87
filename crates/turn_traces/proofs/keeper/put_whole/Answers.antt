use Rattle.std.proofs.Common.{◌++◌, ◌==◌, ◌∙◌, ap, append_assoc}
use Rattle.tx_events.specs.declared.What.TheVariants.{Leave}
use Rattle.tx_serial.specs.Trace.{item_if}
use Rattle.turn_traces.specs.Keeper.{kept_of}
use Rattle.turn_traces.specs.Keeping.{block_so_far}
use Rattle.turn_traces.proofs.Keepers.{on_ok}
use Rattle.turn_traces.proofs.keeper.put_whole.Goals as goal

pub returns : goal.returns
returns c =
    let thread = c.args.thread.now in
    let last = item_if (thread.at_entry == 1) c.args.t Leave in
    on_ok c.put_if.result (λ h. h ∙ (ap (λ zs. zs ++ last) c.in_ok-put_block.ensures
    ∙ append_assoc c.args.items.now.items (block_so_far c.args.t (kept_of thread)) last)) c.put_if.ensures
