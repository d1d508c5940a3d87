use Rattle.std.proofs.Common.{sym, ap, ◌∙◌, ◌%◌, cond, None, Option, ℕ}
use Rattle.std.proofs.lemmas.Bool.{eqb-true, eqb-false}
use Rattle.tx_events.specs.Memory.{is_aligned}
use Rattle.tx_memory.specs.View.{layout_of}
use Rattle.tx_memory.specs.Words.{slot_of}
use Rattle.tx_memory.proofs.WordSlots.{aligned_slot, misaligned}
use Rattle.tx_memory.proofs.memory.Memory.slot.Goals as goal

pub returns-then-is_aligned : goal.returns-then-is_aligned
unfolding is_aligned
returns-then-is_aligned c = c.mapped_slot.ensures ∙ aligned_slot (layout_of c.args.self.now) c.args.addr c.args.size
    (eqb-true (c.args.addr % c.args.size) 0 (sym c.is_aligned.ensures ∙ c.if-is_aligned.true))

pub returns-else-is_aligned : goal.returns-else-is_aligned
unfolding is_aligned
returns-else-is_aligned c = sym (ap (λ b. cond {A = Option ℕ} b (slot_of (layout_of c.args.self.now) c.args.addr) None)
    (misaligned (layout_of c.args.self.now) c.args.addr c.args.size
    (eqb-false (c.args.addr % c.args.size) 0 (sym c.is_aligned.ensures ∙ c.if-is_aligned.false))))
