use Rattle.std.proofs.lemmas.Bool.{and_parts}
use Rattle.tx_code.specs.Objects.{class_view}
use Rattle.object_bytes.specs.Counts.{class_has_counts}
use Rattle.object_bytes.proofs.Puts.{fits_at}
use Rattle.object_bytes.proofs.writing.put_classes.Goals as goal

pub put_class-requires-clause-members : goal.put_class-requires-clause-members
put_class-requires-clause-members c =
    (and_parts _ _ (fits_at class_has_counts class_view _ _ c.class-item.result c.requires.each c.loop-class-test.true c.class-item.is)).0

pub put_class-requires-clause-slots : goal.put_class-requires-clause-slots
put_class-requires-clause-slots c =
    (and_parts _ _ (fits_at class_has_counts class_view _ _ c.class-item.result c.requires.each c.loop-class-test.true c.class-item.is)).1
