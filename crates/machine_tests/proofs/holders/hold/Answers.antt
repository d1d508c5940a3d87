use Rattle.std.proofs.Common.{ap, sym, ◌∙◌}
use Rattle.own_table.specs.Records.{blocks}
use Rattle.own_table.specs.Table.{hold_of}
use Rattle.own_table.proofs.ThreadSets.{unblocked}
use Rattle.machine_tests.proofs.holders.hold.Goals as goal

pub take-requires-clause-unblocked : goal.take-requires-clause-unblocked
take-requires-clause-unblocked c = λ u d.
    ap (blocks (hold_of c.reserve.new.self u c.args.word)) (sym c.is_write.ensures)
    ∙ unblocked c.blockers-is_free.result c.args.t (λ v. blocks
    (hold_of c.reserve.new.self v c.args.word) c.is_write.result) c.if-is_free.true c.blockers-is_free.ensures u d
