use Rattle.std.proofs.Common.{map, length}
use Rattle.std.proofs.lemmas.List.{length-map}
use Rattle.tx_code.specs.Objects.{bytes_of, class_view}
use Rattle.tx_code.specs.WellFormed.{class_fits}
use Rattle.link_faults.proofs.NameRanks.{passes_at}
use Rattle.link_faults.proofs.classes.add_classes.Goals as goal

pub class_of-requires-clause-fits : goal.class_of-requires-clause-fits
class_of-requires-clause-fits c =
    rw (← length-map c.args.object.now.names.items bytes_of)
    (passes_at
    (class_fits
    (length (map bytes_of c.args.object.now.names.items))) class_view c.deref-class-items.result.now c.loop-class.class-index c.class-item.result
    (rw c.deref-class-items.ensures.value c.requires.known.object.classes) c.loop-class-test.true c.class-item.is)
