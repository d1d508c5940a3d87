use Rattle.std.proofs.Common.{◌==◌, ◌%◌, ap, sym, ◌∙◌, arith}
use Rattle.std.proofs.lemmas.Bool.{eq-eqb}
use Rattle.tx_events.specs.Memory.{is_aligned}
use Rattle.tx_memory.proofs.BitParts.{one_left}
use Rattle.tx_memory.proofs.memory.is_aligned.Goals as goal

pub returns-then-size-eq8 : goal.returns-then-size-eq8
unfolding is_aligned
returns-then-size-eq8 c = ap (λ n. c.args.addr % n == 0) (sym c.if-size-eq8.true)

pub returns-then-size-eq4 : goal.returns-then-size-eq4
unfolding is_aligned
returns-then-size-eq4 c = ap (λ n. c.args.addr % n == 0) (sym c.if-size-eq4.true)

pub returns-then-size-eq2 : goal.returns-then-size-eq2
unfolding is_aligned
returns-then-size-eq2 c = ap (λ n. c.args.addr % n == 0) (sym c.if-size-eq2.true)

pub returns-else-size-eq2 : goal.returns-else-size-eq2
unfolding is_aligned
returns-else-size-eq2 c =
    let one = one_left c.args.size c.requires c.if-size-eq8.false c.if-size-eq4.false c.if-size-eq2.false in
    sym (ap (λ n. c.args.addr % n == 0) one ∙ eq-eqb (c.args.addr % 1) 0 (omega arith))
