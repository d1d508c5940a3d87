use Rattle.tx_events.specs.Memory.{word_bound}
use Rattle.tx_serial.specs.Machine.{least}
use Rattle.tx_runtime.specs.Threads.{held_in}
use Rattle.tx_runtime.specs.View.{layout_in}
use Rattle.tx_runtime.proofs.HoldLemmas.{none_held, some_held}
use Rattle.tx_runtime.proofs.ClosingRows.{closes_by}
use Rattle.tx_runtime.proofs.closing.Engine+A+A+Saved.holds_words.Goals as goal

pub returns : goal.returns
returns g c = λ b.
    let self = c.args.self.now in
    closes_by b c.count.result (least (held_in self.holders c.args.t) (word_bound (layout_in self)))
    (λ e. none_held (layout_in self) self.holders c.args.t (c.count.ensures.none e))
    (λ h. let some = c.count.ensures.some h in some_held (layout_in self) self.holders c.args.t some.0 (self.whole.words c.args.t some.0 some.1) some.1)
