use Rattle.std.proofs.Common.{ℕ, length, ap, sym, ◌∙◌, arith, true}
use Rattle.std.specs.Prelude.{is_some}
use Rattle.std.proofs.lemmas.Option.{same_Some}
use Rattle.tx_events.specs.declared.BlockKind.TheVariants.{Cancel}
use Rattle.tx_events.specs.declared.Event.TheVariants.{Raise}
use Rattle.tx_events.specs.declared.Reply.TheVariants.{Nothing}
use Rattle.tx_events.specs.Memory.{word_bound}
use Rattle.tx_serial.specs.Machine.{is_noted}
use Rattle.tx_serial.specs.Turn.{commits}
use Rattle.tx_runtime.specs.Saves.{newest}
use Rattle.tx_runtime.specs.View.{machine_in, layout_in}
use Rattle.tx_runtime.proofs.ConflictingThreads.{no_least}
use Rattle.tx_runtime.proofs.ThreadTables.{thread_at, on_err}
use Rattle.tx_runtime.proofs.TransactionParts.{saves_long}
use Rattle.tx_runtime.proofs.InsideRows.{cancels_none, cancels_empty}
use Rattle.tx_runtime.proofs.AppliedRow.{inside_row, if_ok}
use Rattle.tx_runtime.proofs.AllocationPoints.{cancel_may}
use Rattle.tx_runtime.proofs.inside.Engine+A+A+Saved.cancel.Goals as goal

pub returns-then-marks-eq0-clause-turned : goal.returns-then-marks-eq0-clause-turned
returns-then-marks-eq0-clause-turned g c =
    λ answer. inside_row g.A.Actor.state g.A.Actor.saved_state g.A.Actor.is_reached g.A.Actor.thread c.args.self.now answer c.args.t
    (Raise Cancel true) _ c.requires.here (λ l at i.
    let self = c.args.self.now in
    let s = c.index.result.now in
    let its = thread_at g.A.Actor.state g.A.Actor.saved_state self.holders self.threads.items c.args.t s c.requires.here.started c.index.ensures in
    let long = saves_long g.A.Actor.state g.A.Actor.saved_state self.holders c.args.t s l i.birth i.kept i.saves (same_Some _ l (sym its ∙ at)) i.tx in
    cancels_empty (layout_in self) c.args.t (machine_in g.A.Actor.state g.A.Actor.saved_state self) l
    (g.A.Actor.thread.after l.state Nothing) i.birth i.kept i.saves (omega (arith, long, ap length c.marks.ensures, c.if-marks-eq0.true)))

pub undo_newest-requires-clause-some : goal.undo_newest-requires-clause-some
undo_newest-requires-clause-some g c = λ l b k ss at tx.
    let self = c.args.self.now in
    let s = c.index.result.now in
    let its = thread_at g.A.Actor.state g.A.Actor.saved_state self.holders self.threads.items c.args.t s c.requires.here.started c.index.ensures in
    let long = saves_long g.A.Actor.state g.A.Actor.saved_state self.holders c.args.t s l b k ss (same_Some _ l (sym its ∙ at)) tx in
    omega (arith, long, ap length c.marks.ensures, c.if-marks-eq0.false)

pub undo_newest-requires-clause-open : goal.undo_newest-requires-clause-open
undo_newest-requires-clause-open g c = λ l at. let i = c.requires.here.at l at in record { birth = i.birth; kept = i.kept; saves = i.saves; tx = i.tx }

pub returns-in-Some-clause-turned : goal.returns-in-Some-clause-turned
returns-in-Some-clause-turned g c =
    λ answer. inside_row g.A.Actor.state g.A.Actor.saved_state g.A.Actor.is_reached g.A.Actor.thread c.args.self.now answer c.args.t
    (Raise Cancel true) _ c.requires.here (λ l at i. c.in-Some.ensures.done l i.birth i.kept (g.A.Actor.thread.after l.state Nothing) i.saves at i.tx)

pub returns-in-None-clause-turned : goal.returns-in-None-clause-turned
returns-in-None-clause-turned g c = if_ok c.leave_block.result
    (λ kind done answer. inside_row g.A.Actor.state g.A.Actor.saved_state g.A.Actor.is_reached g.A.Actor.thread c.args.self.now answer c.args.t
    (Raise Cancel true) _ c.requires.here (λ l at i.
    let self = c.args.self.now in
    let q = c.undo_newest.new.self in
    let m = machine_in g.A.Actor.state g.A.Actor.saved_state self in
    let same = c.in-None.ensures.same in
    let after = g.A.Actor.thread.after l.state Nothing in
    let none = λ (x : ℕ). c.in-None.ensures.none l i.birth i.kept i.saves x at i.tx in
    done l i.birth i.kept i.saves (ap (λ z. z.threads c.args.t) same ∙ at) i.tx
    ∙ (ap (λ z. commits (layout_in q) c.args.t z l after i.birth i.kept i.saves) same
    ∙ (ap (λ z. commits z c.args.t m l after i.birth i.kept i.saves) c.undo_newest.ensures.layout
    ∙ cancels_none (layout_in self) c.args.t m l after i.birth i.kept i.saves none
    (no_least (is_noted (newest i.saves)) (word_bound (layout_in self)) (λ v h. ap is_some (none v))))))) c.leave_block.ensures.done

pub returns-in-None-clause-capacity : goal.returns-in-None-clause-capacity
returns-in-None-clause-capacity g c = on_err c.leave_block.result
    (cancel_may g.A.Actor.state g.A.Actor.saved_state g.A.Actor.thread c.args.self.now c.args.t g.A.Actor.is_reached c.requires.here c.in-None.ensures.none)
