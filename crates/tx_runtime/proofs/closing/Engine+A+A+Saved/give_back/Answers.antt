use Rattle.std.proofs.Common.{ap, sym, ◌∙◌, arith}
use Rattle.tx_events.specs.Memory.{word_bound}
use Rattle.tx_serial.specs.Machine.{least}
use Rattle.tx_runtime.specs.View.{machine_in, layout_in}
use Rattle.tx_runtime.proofs.ThreadTables.{held_at}
use Rattle.tx_runtime.proofs.HoldLemmas.{none_held}
use Rattle.tx_runtime.proofs.ClosingRows.{gives_none}
use Rattle.tx_runtime.proofs.AppliedRow.{giving_row}
use Rattle.tx_runtime.proofs.ThreadTables.{on_err}
use Rattle.tx_runtime.proofs.AllocationPoints.{giving_may, last_word}
use Rattle.tx_runtime.proofs.closing.Engine+A+A+Saved.give_back.Goals as goal

pub give_back_last-requires-clause-last : goal.give_back_last-requires-clause-last
give_back_last-requires-clause-last g c = let r = c.count-count.ensures.one c.if-count-eq1.true in (r.0, (r.1.0, r.1.1))

pub give_back_one-requires-clause-more : goal.give_back_one-requires-clause-more
give_back_one-requires-clause-more g c = let r = c.count-count.ensures.more (omega (arith, c.if-count-eq0.false, c.if-count-eq1.false)) in
    (r.0, r.1, (r.2.0, r.2.1, r.2.2))

pub returns-then-count-eq0-clause-turned : goal.returns-then-count-eq0-clause-turned
returns-then-count-eq0-clause-turned g c =
    λ answer. giving_row g.A.Actor.state g.A.Actor.saved_state g.A.Actor.thread c.args.self.now answer c.args.t _ c.requires.here (λ l b k ss at tx.
    let self = c.args.self.now in
    gives_none (layout_in self) c.args.t (machine_in g.A.Actor.state g.A.Actor.saved_state self) l b k ss
    (ap (λ f. least f (word_bound (layout_in self))) (held_at g.A.Actor.state g.A.Actor.saved_state self.holders self.threads.items c.args.t l at)
    ∙ none_held (layout_in self) self.holders c.args.t (c.count-count.ensures.none c.if-count-eq0.true)))

pub returns-then-count-eq1-clause-capacity : goal.returns-then-count-eq1-clause-capacity
returns-then-count-eq1-clause-capacity g c =
    let self = c.args.self.now in
    let last = c.count-count.ensures.one c.if-count-eq1.true in
    on_err c.give_back_last.result (giving_may g.A.Actor.state g.A.Actor.saved_state g.A.Actor.thread self c.args.t c.requires.here (λ l x at e.
    last_word l.held (word_bound (layout_in self)) last.0 x
    (λ y i. last.1.1 y (ap (λ f. f y) (sym (held_at g.A.Actor.state g.A.Actor.saved_state self.holders self.threads.items c.args.t l at)) ∙ i)) e))
