use Rattle.std.proofs.Common.{pos, ◌≡◌, arith}
use Rattle.tx_runtime.specs.View.{machine_in}
use Rattle.tx_runtime.proofs.ThreadTables.{no_thread}
use Rattle.tx_runtime.proofs.OutsideRows.{no_target}
use Rattle.tx_runtime.proofs.outside.Engine+A+A+Saved.joined_number.Goals as goal

pub returns-else-number-len-clause-none : goal.returns-else-number-len-clause-none
returns-else-number-len-clause-none g c = λ e.
    no_target c.args.t (pos c.args.number) (machine_in g.A.Actor.state g.A.Actor.saved_state c.args.self.now).threads
    (λ n is other. no_thread g.A.Actor.state g.A.Actor.saved_state c.args.self.now.holders c.args.self.now.threads.items n
    (let e : c.args.number ≡ n = cc in omega (arith, e, c.if-number-len.false, c.len.ensures)))
