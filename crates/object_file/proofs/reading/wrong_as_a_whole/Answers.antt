use Rattle.std.proofs.Common.{arith}
use Rattle.tx_code.specs.Objects.{object_view}
use Rattle.object_bytes.proofs.Positions.{parts_of}
use Rattle.object_file.proofs.reading.wrong_as_a_whole.Goals as goal

pub first_unused-requires : goal.first_unused-requires
first_unused-requires c = rw c.deref-2.ensures.value (omega (arith, (parts_of (object_view c.args.object.now)).names, c.requires.few))

pub first_wrong_base-requires-clause-few : goal.first_wrong_base-requires-clause-few
first_wrong_base-requires-clause-few c = rw (c.deref-3.ensures.value, c.first_class.ensures)
    (omega (arith, (parts_of (object_view c.args.object.now)).classes, c.requires.few))
