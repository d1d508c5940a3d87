use Rattle.tx_runtime.proofs.ThreadTables.{started_thread}
use Rattle.tx_runtime.proofs.AccessSizes.{store_fits}
use Rattle.tx_runtime.proofs.outside.Engine+A+A+Saved.write_outside.Goals as goal

pub store-requires-clause-size : goal.store-requires-clause-size
store-requires-clause-size g c =
    let there = started_thread g.A.Actor.state g.A.Actor.saved_state c.args.self.now c.args.t c.requires.here.1.started in
    let is = c.requires.here.1.at there.0 there.1 in
    (store_fits g.met.A.Actor.laws there.0.state is.reached c.args.addr c.args.size c.args.value c.requires.here.0 is.next).0

pub store-requires-clause-value : goal.store-requires-clause-value
store-requires-clause-value g c =
    let there = started_thread g.A.Actor.state g.A.Actor.saved_state c.args.self.now c.args.t c.requires.here.1.started in
    let is = c.requires.here.1.at there.0 there.1 in
    (store_fits g.met.A.Actor.laws there.0.state is.reached c.args.addr c.args.size c.args.value c.requires.here.0 is.next).1
