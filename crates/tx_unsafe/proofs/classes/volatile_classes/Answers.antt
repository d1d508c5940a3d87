use Rattle.std.proofs.Common.{◌≡◌, ◌∙◌, false}
use Rattle.std.proofs.lemmas.List.{length-map}
use Rattle.cpp_types.specs.Class.{classes_of, class_of}
use Rattle.tx_unsafe.proofs.ClassMarks.{all_known_at, false_not}
use Rattle.tx_unsafe.proofs.classes.volatile_classes.Goals as goal

pub returns-then-not-mark_round : goal.returns-then-not-mark_round
returns-then-not-mark_round c = all_known_at (classes_of c.args.classes.now) c.mark_round.new.marks.items _ (length-map c.args.classes.now class_of)
    c.mark_round.ensures.length c.mark_round.ensures.sound (c.mark_round.ensures.closed c.if-not-mark_round.true)
