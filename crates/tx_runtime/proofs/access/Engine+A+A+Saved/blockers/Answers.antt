use Rattle.std.proofs.Common.{ℕ, sym, subst, length}
use Rattle.tx_serial.specs.Machine.{birth_of}
use Rattle.tx_runtime.specs.Blocks.{Sums}
use Rattle.tx_runtime.specs.View.{machine_in}
use Rattle.tx_runtime.proofs.ConflictingThreads.{keeps_is}
use Rattle.tx_runtime.proofs.access.Engine+A+A+Saved.blockers.Goals as goal

pub returns : goal.returns
returns g c =
    let self = c.args.self.now in
    let f = λ (v : ℕ). birth_of ((machine_in g.A.Actor.state g.A.Actor.saved_state self).threads v) in
    subst (λ p. Sums p f (length self.threads.items) c.sum_up.result)
    (sym (keeps_is g.A.Actor.state g.A.Actor.saved_state self.holders self.threads.items c.args.t c.args.store c.args.word c.blockers.result self.whole.free
    c.blockers.ensures)) c.sum_up.ensures
