use Rattle.std.proofs.Common.{map}
use Rattle.std.proofs.lemmas.List.{length-map}
use Rattle.cpp_tree.specs.Arena.{trees_of}
use Rattle.cpp_tree.specs.Units.{func_of}
use Rattle.tx_unsafe.specs.Volatile.{marked}
use Rattle.tx_safety.proofs.FuncMarks.{all_safe}
use Rattle.tx_safety.proofs.marks.safe_marks.Goals as goal

pub returns-then-not-mark_round : goal.returns-then-not-mark_round
returns-then-not-mark_round c = all_safe (marked c.args.volatile.now)
    (map (func_of (trees_of c.args.nodes.now)) c.args.funcs.now) c.mark_round.new.marks.items _
    (length-map c.args.funcs.now (func_of (trees_of c.args.nodes.now))) c.mark_round.ensures.long c.mark_round.ensures.sound
    (c.mark_round.ensures.closed c.if-not-mark_round.true)
