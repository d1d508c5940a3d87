use Rattle.std.proofs.Common.{◌<◌, length, map, refl, arith}
use Rattle.cpp_tree.specs.Arena.{trees_of}
use Rattle.cpp_tree.specs.Units.{func_of}
use Rattle.tx_unsafe.specs.Volatile.{marked}
use Rattle.tx_safety.specs.Marks.{new_mark}
use Rattle.tx_safety.proofs.FuncMarks.{next_sound_marks}
use Rattle.tx_safety.proofs.marks.mark_if.Goals as goal

pub returns-then-n-funcs-clause-sound : goal.returns-then-n-funcs-clause-sound
returns-then-n-funcs-clause-sound c =
    let v = marked c.args.volatile.now in let funcs = map (func_of (trees_of c.args.nodes.now)) c.args.funcs.now in let marks = c.args.marks.now.items in
    let l : c.args.n < length marks = omega (arith, c.requires.long) in
    next_sound_marks v funcs marks c.mark.new.marks.items c.args.n (new_mark v funcs marks c.args.n) l c.requires.sound refl c.mark.ensures.marks
