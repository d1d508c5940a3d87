use Rattle.std.proofs.Common.{length, ap, sym, ◌∙◌, arith}
use Rattle.std.proofs.lemmas.Option.{same_Some}
use Rattle.tx_events.specs.declared.Reply.TheVariants.{Nothing}
use Rattle.tx_runtime.specs.View.{machine_in, layout_in}
use Rattle.tx_runtime.proofs.ThreadTables.{thread_at}
use Rattle.tx_runtime.proofs.TransactionParts.{saves_long}
use Rattle.tx_runtime.proofs.InsideRows.{commits_none}
use Rattle.tx_runtime.proofs.inside.Engine+A+A+Saved.leave_block.Goals as goal

pub leave_outermost-requires-clause-one : goal.leave_outermost-requires-clause-one
leave_outermost-requires-clause-one g c = λ l b k ss at tx.
    let self = c.args.self.now in
    let s = c.index.result.now in
    let its = thread_at g.A.Actor.state g.A.Actor.saved_state self.holders self.threads.items c.args.t s c.requires.here.here.started c.index.ensures in
    let long = saves_long g.A.Actor.state g.A.Actor.saved_state self.holders c.args.t s l b k ss (same_Some _ l (sym its ∙ at)) tx in
    let marks = ap length c.marks-marks.ensures in
    omega (arith, long, marks, c.if-marks-eq1.true)

pub leave_inner-requires-clause-more : goal.leave_inner-requires-clause-more
leave_inner-requires-clause-more g c = λ l b k ss at tx.
    let self = c.args.self.now in
    let s = c.index.result.now in
    let its = thread_at g.A.Actor.state g.A.Actor.saved_state self.holders self.threads.items c.args.t s c.requires.here.here.started c.index.ensures in
    let long = saves_long g.A.Actor.state g.A.Actor.saved_state self.holders c.args.t s l b k ss (same_Some _ l (sym its ∙ at)) tx in
    let marks = ap length c.marks-marks.ensures in
    omega (arith, long, marks, c.if-marks-eq0.false, c.if-marks-eq1.false)

pub returns-then-marks-eq0-clause-done : goal.returns-then-marks-eq0-clause-done
returns-then-marks-eq0-clause-done g c = λ l b k ss at tx.
    let self = c.args.self.now in
    let s = c.index.result.now in
    let its = thread_at g.A.Actor.state g.A.Actor.saved_state self.holders self.threads.items c.args.t s c.requires.here.here.started c.index.ensures in
    let long = saves_long g.A.Actor.state g.A.Actor.saved_state self.holders c.args.t s l b k ss (same_Some _ l (sym its ∙ at)) tx in
    let marks = ap length c.marks-marks.ensures in
    commits_none (layout_in c.args.self.now) c.args.t (machine_in g.A.Actor.state g.A.Actor.saved_state c.args.self.now) l
    (g.A.Actor.thread.after l.state Nothing) b k ss (omega (arith, long, marks, c.if-marks-eq0.true))
